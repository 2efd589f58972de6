-- A handle of no queue.
use Rattle.heap_value.proofs.Names.{◌≡◌, List, [], ◌∷◌, ◌++◌, refl, sym, subst, false, Val, vstruct, vcons, vnil, SProp, ent, emp, id⊢, ‵, raw, ◌⊛◌, ◌$◌, ◌∵◌, !, qed, by, keep, split, fjoin, suffices, use0, use1, stop, fld, of_opd, false_lit, no_more, and_then, returns, enter, alloc_all, pass_all, free_all, look_at, get, get_in, sets, agg, sub, whole, fact, fact_i, tables, yes, owns, types_at, plain, Ptr, ptr_val, nothing, alive, Stays, stay_dropped, walk_of, WpFn, Goes-dropped, proved_at, leaves}
use Rattle.std_alloc.proofs.RcSteps.{word-Good, Ptr-Good}
use Rattle.loop_sources_c.proofs.Handles.{Handle, pair, handle_in, nowhere_told, pair_fits}
use Rattle.loop_sources_c.specs.Handle.{owned_by}
use Rattle.loop_sources_c.specs.Contents.{nothing_in}
use Rattle.loop_sources_c.specs.contracts.handle.Nowhere as nowhere
use Rattle.loop_sources_c.specs.contracts.handle.SourceLoop.closed.{ended, clauses}
use Rattle.loop_sources_c.specs.contracts.handle.SourceLoop.closed.Key.{name as #self}
use Rattle.loop_sources_c.proofs.handle.SourceLoop.closed.Statement.{statement}
use Rattle.loop_sources_c.proofs.handle.SourceLoop.closed.Code as code

pub closed_spec : {M : Type 1} → statement M
closed_spec 𝓤 𝓛 𝓜 𝓡 wired =
    let H = 𝓛.H in let 𝓣 = tables 𝓤 H 𝓜 𝓡 𝓡.env in let c = clauses 𝓛 𝓜.mem 𝓡.returns in
    let hs : Stays ended.signature.params ended.kept = (stay_dropped (plain (λ _. nowhere.the_row)) yes, tt) in
    proved_at 𝓛 ended hs c 𝓜 𝓡 (Goes-dropped 𝓛 0 (plain (λ _. nowhere.the_row)) yes (λ κs x f. refl), tt) #self code.function (code.unfolded 𝓤 H 𝓜 𝓡 wired) (λ z are.
    let κs = z.0.0 in let qs = z.0.1 in let a = z.0.3 in let vss = z.0.4 in let p : Ptr = a.0.at in let e = nowhere_told a.0 vss.0 are.0 in
    let Post : Val → SProp 𝓤 = (walk_of 𝓛 ended hs c).post z in let Run : List Val → SProp 𝓤 = λ ws. WpFn 𝓤 H 𝓣.C 𝓣.Λ code.function ws Post in
    qed 𝓛 ((raw (alive 𝓛 ended.signature κs qs) ⊛ ‵ (owns (types_at ended.signature.params κs) a vss)) ∷ raw ((c κs a).requires z.1) ∷ []) ∵ split ! $
    -- [no token; the pointer; no clause]
    let u : Val = vstruct (vcons (ptr_val p) vnil) in let w : Val = pair p false in let r : Handle.Denot = record { at = p; live = false; state = nothing_in } in
    suffices ! (Run (u ∷ [])) (subst (λ (us : List Val). ent 𝓤 (Run (u ∷ [])) (Run us)) (sym (λ k. e k ++ [])) (id⊢ 𝓤 (Run (u ∷ [])))) $
    enter ! 𝓣.C 𝓣.Λ code.function (u ∷ []) Post $ alloc_all ! (λ l. pass_all ! refl (word-Good nowhere.the_type.name p, tt) $
    sets ! (of_opd ! (get_in ! (fld ! refl (stop !)) (sub ! 0 refl (whole !)))) refl (Ptr-Good p) $
    sets ! (agg ! (and_then ! (get ! refl) (and_then ! (false_lit !) (no_more !)))) refl (pair_fits p false) $
    returns ! (look_at ! 0 refl) $ free_all ! refl $ nothing ! $ use1 𝓛 (‵ (owned_by false p nothing_in)) (id⊢ 𝓤 _) $ handle_in ! p false nothing_in $
    let Told : Type 0 = r.live ≡ false in
    use0 𝓛 (raw (fact 𝓤 Told)) (fact_i 𝓤 Told (emp 𝓤) refl) $ nothing ! $ nothing ! $ fjoin ! $
    keep ! (3 ∷ 0 ∷ 2 ∷ 1 ∷ []) $ by ! (leaves 𝓛 ended hs c z w r (tt, tt) (tt, tt))))
