-- A handle, with whether it is live.
use Rattle.heap_value.proofs.Names.{◌≡◌, List, [], ◌∷◌, ◌++◌, refl, sym, subst, Bool, Val, vbool, SProp, ent, emp, id⊢, ‵, raw, ◌⊛◌, ◌$◌, ◌∵◌, !, qed, by, move, keep, split, fsplit, fjoin, feq_i, suffices, use0, use1, use2, stop, fld, of_opd, no_more, and_then, returns, enter, alloc_all, pass_all, free_all, look_at, get, get_in, sets, agg, sub, whole, fact, fact_i, tables, yes, owns, types_at, plain, Ptr, Boolean, nothing, alive, Stays, stay_dropped, walk_of, WpFn, Goes-blank, proved_at, leaves}
use mir.Syntax.{ty_bool}
use denote.Memory.{lone}
use denote.Struct.Tuple.{Tuple}
use Rattle.std_alloc.proofs.Pairs.{pair_val, pair_Typed, pair_of}
use Rattle.loop_sources_c.proofs.Handles.{Handle, pair, handle_in, handle_out, pair_fits}
use Rattle.loop_sources_c.specs.Handle.{kept_row, owned_by}
use Rattle.loop_sources_c.specs.contracts.handle.SourceLoop.told.{ended, clauses}
use Rattle.loop_sources_c.specs.contracts.handle.SourceLoop.told.Key.{name as #self}
use Rattle.loop_sources_c.proofs.handle.SourceLoop.told.Statement.{statement}
use Rattle.loop_sources_c.proofs.handle.SourceLoop.told.Code as code

pub told_spec : {M : Type 1} → statement M
told_spec 𝓤 𝓛 𝓜 𝓡 wired =
    let H = 𝓛.H in let 𝓣 = tables 𝓤 H 𝓜 𝓡 𝓡.env in let c = clauses 𝓛 𝓜.mem 𝓡.returns in
    let hs : Stays ended.signature.params ended.kept = (stay_dropped (plain (λ _. Handle)) yes, tt) in
    proved_at 𝓛 ended hs c 𝓜 𝓡 (Goes-blank 𝓛 0 (plain (λ _. Handle)) yes (λ κs x f. tt), tt) #self code.function (code.unfolded 𝓤 H 𝓜 𝓡 wired) (λ z are.
    let κs = z.0.0 in let qs = z.0.1 in let a = z.0.3 in let vss = z.0.4 in let d : Handle.Denot = a.0 in
    let p : Ptr = d.at in let t : Bool = d.live in let x : kept_row.Denot = d.state in
    let Post : Val → SProp 𝓤 = (walk_of 𝓛 ended hs c).post z in let Run : List Val → SProp 𝓤 = λ ws. WpFn 𝓤 H 𝓣.C 𝓣.Λ code.function ws Post in
    qed 𝓛 ((raw (alive 𝓛 ended.signature κs qs) ⊛ ‵ (owns (types_at ended.signature.params κs) a vss)) ∷ raw ((c κs a).requires z.1) ∷ []) ∵ split ! $ move ! (1 ∷ []) $ fsplit ! $
    handle_out ! d vss.0 (λ es.
    -- [what it owns; true; no token; no clause]
    let u : Val = pair p t in
    suffices ! (Run (u ∷ [])) (subst (λ (us : List Val). ent 𝓤 (Run (u ∷ [])) (Run us)) (sym (λ k. es k ++ [])) (id⊢ 𝓤 (Run (u ∷ [])))) $
    enter ! 𝓣.C 𝓣.Λ code.function (u ∷ []) Post $ alloc_all ! (λ l. pass_all ! refl (pair_fits p t, tt) $
    sets ! (of_opd ! (get_in ! (fld ! refl (stop !)) (sub ! 1 refl (whole !)))) refl (tt, tt) $ sets ! (of_opd ! (get ! refl)) refl (pair_fits p t) $
    sets ! (agg ! (and_then ! (get ! refl) (and_then ! (get ! refl) (no_more !)))) refl (pair_Typed ty_bool (lone Handle.mir) (vbool t) u (tt, tt) (pair_fits p t)) $
    returns ! (look_at ! 0 refl) $ free_all ! refl $ use1 𝓛 (‵ (owned_by t p x)) (id⊢ 𝓤 _) $ handle_in ! p t x $
    feq_i ! (List Val) (vbool t ∷ []) (vbool t ∷ []) refl $ use1 𝓛 (‵ (Boolean.own_val t (vbool t ∷ []))) (id⊢ 𝓤 _) $
    use2 𝓛 (‵ ((Tuple (Boolean ∷ Handle ∷ [])).own_val (t, d) (pair_val (vbool t) u ∷ []))) (pair_of 𝓛 Boolean Handle t d (vbool t) u) $
    let Told : Type 0 = (t ≡ d.live) × (d ≡ d) in
    use0 𝓛 (raw (fact 𝓤 Told)) (fact_i 𝓤 Told (emp 𝓤) (refl, refl)) $ nothing ! $ nothing ! $ fjoin ! $
    keep ! (4 ∷ 0 ∷ 2 ∷ 1 ∷ []) $ by ! (leaves 𝓛 ended hs c z (pair_val (vbool t) u) (t, d) (tt, tt) (tt, tt)))))
