-- The handle of a queue that lies in memory.
use Rattle.heap_value.proofs.Names.{◌≡◌, List, [], ◌∷◌, ◌++◌, refl, sym, subst, true, Val, SProp, ent, emp, id⊢, ‵, raw, ◌⊛◌, ◌$◌, ◌∵◌, !, qed, by, move, keep, split, fsplit, fjoin, suffices, use0, use1, stop, fld, of_opd, true_lit, no_more, and_then, returns, enter, alloc_all, pass_all, free_all, look_at, get, get_in, sets, agg, sub, whole, fact, fact_i, tables, yes, RattleType, owns, types_at, plain, Ptr, block_ptr, nothing, alive, Stays, stay_dropped, walk_of, WpFn, Goes-blank, proved_at, leaves}
use Rattle.std_alloc.proofs.RcSteps.{word-Good}
use Rattle.heap_value.proofs.Lones.{Lonely, word, lone_out}
use Rattle.loop_sources_c.proofs.Handles.{Handle, pair, handle_in, pair_fits}
use Rattle.loop_sources_c.specs.Handle.{kept_row, owned_by}
use Rattle.heap_value.specs.contracts.lone.Lone as lonely
use Rattle.loop_sources_c.specs.contracts.handle.SourceLoop.of.{ended, clauses}
use Rattle.loop_sources_c.specs.contracts.handle.SourceLoop.of.Key.{name as #self}
use Rattle.loop_sources_c.proofs.handle.SourceLoop.of.Statement.{statement}
use Rattle.loop_sources_c.proofs.handle.SourceLoop.of.Code as code

pub of_spec : {M : Type 1} → statement M
of_spec 𝓤 𝓛 𝓜 𝓡 wired =
    let H = 𝓛.H in let 𝓣 = tables 𝓤 H 𝓜 𝓡 𝓡.env in let c = clauses 𝓛 𝓜.mem 𝓡.returns in let From : RattleType = Lonely kept_row in
    let hs : Stays ended.signature.params ended.kept = (stay_dropped (plain (λ _. From)) yes, tt) in
    proved_at 𝓛 ended hs c 𝓜 𝓡 (Goes-blank 𝓛 0 (plain (λ _. From)) yes (λ κs x f. tt), tt) #self code.function (code.unfolded 𝓤 H 𝓜 𝓡 wired) (λ z are.
    let κs = z.0.0 in let qs = z.0.1 in let a = z.0.3 in let vss = z.0.4 in let x : kept_row.Denot = a.0.value in
    let Post : Val → SProp 𝓤 = (walk_of 𝓛 ended hs c).post z in let Run : List Val → SProp 𝓤 = λ ws. WpFn 𝓤 H 𝓣.C 𝓣.Λ code.function ws Post in
    qed 𝓛 ((raw (alive 𝓛 ended.signature κs qs) ⊛ ‵ (owns (types_at ended.signature.params κs) a vss)) ∷ raw ((c κs a).requires z.1) ∷ []) ∵ split ! $ move ! (1 ∷ []) $ fsplit ! $
    lone_out kept_row ! a.0 vss.0 (λ b o e es.
    -- [the queue; true; no token; no clause]
    let p : Ptr = block_ptr b o in let u : Val = word p in let r : Handle.Denot = record { at = p; live = true; state = x } in
    suffices ! (Run (u ∷ [])) (subst (λ (us : List Val). ent 𝓤 (Run (u ∷ [])) (Run us)) (sym (λ k. es k ++ [])) (id⊢ 𝓤 (Run (u ∷ [])))) $
    enter ! 𝓣.C 𝓣.Λ code.function (u ∷ []) Post $ alloc_all ! (λ l. pass_all ! refl (word-Good (lonely.the_type kept_row).name p, tt) $
    sets ! (of_opd ! (get_in ! (fld ! refl (stop !)) (sub ! 0 refl (whole !)))) refl (tt, tt) $ sets ! (of_opd ! (get ! refl)) refl (tt, tt) $
    sets ! (agg ! (and_then ! (get ! refl) (and_then ! (true_lit !) (no_more !)))) refl (pair_fits p true) $
    returns ! (look_at ! 0 refl) $ free_all ! refl $ use1 𝓛 (‵ (owned_by true p x)) (id⊢ 𝓤 _) $ handle_in ! p true x $
    let Told : Type 0 = (r.live ≡ true) × (r.state ≡ x) in
    use0 𝓛 (raw (fact 𝓤 Told)) (fact_i 𝓤 Told (emp 𝓤) (refl, refl)) $ nothing ! $ nothing ! $ fjoin ! $
    keep ! (4 ∷ 0 ∷ 2 ∷ 1 ∷ []) $ by ! (leaves 𝓛 ended hs c z (pair p true) r (tt, tt) (tt, tt)))))
