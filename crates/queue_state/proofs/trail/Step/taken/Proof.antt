-- The trail with one entry more. It owns nothing.
use Rattle.queue_state.proofs.TrailNames.{◌≡◌, [], ◌∷◌, ◌++◌, refl, named, Val, vptr, SProp, emp, ‵, raw, ◌⊛◌, ◌$◌, ◌∵◌, !, qed, by, keep, split, fjoin, use0, no_more, and_then, returns, enter, alloc_all, pass_all, free_all, look_at, get, sets, agg, tables, yes, RattleType, owns, types_at, plain, nothing, alive, Stays, stay_dropped, walk_of, Goes-dropped, fact, fact_i, RefOf, shr_vals, shr_Tells, ℕ, List, proved, leaves, token_val, Frame, frame_made}
use Rattle.loop_model.specs.declared.entry.Entry.{Entry}
use Rattle.queue_state.specs.contracts.trail.Step as step
use Rattle.queue_state.specs.contracts.trail.Trail as trail
use Rattle.queue_state.specs.contracts.trail.Step.taken.{ended, clauses}
use Rattle.queue_state.specs.contracts.trail.Step.taken.Key.{name as #self}
use Rattle.queue_state.proofs.trail.Step.taken.Statement.{statement}
use Rattle.queue_state.proofs.trail.Step.taken.Code as code

pub taken_spec : {M : Type 1} → statement M
taken_spec 𝓤 𝓛 𝓜 𝓡 wired =
    let H = 𝓛.H in let 𝓣 = tables 𝓤 H 𝓜 𝓡 𝓡.env in let c = clauses 𝓛 𝓜.mem 𝓡.returns in let fn = code.function in let Given : RattleType = step.the_row in
    let Row : RattleType = trail.the_row in let self = RefOf (0 ∷ []) tt (plain (λ _. Given)) (λ _. tt) in let hs : Stays ended.signature.params ended.kept = (stay_dropped self yes, tt) in
    proved 𝓛 ended hs c 𝓜 𝓡 (Goes-dropped 𝓛 1 self yes (λ κs x f. refl), tt) #self fn (code.unfolded 𝓤 H 𝓜 𝓡 wired) (λ κs. (shr_vals, tt)) (λ κs. (shr_Tells (named 0) κs.0 Given, tt)) (λ κs qs bounds a gh are.
    let b : ℕ = a.0.ref_ptr.0 in let o : ℕ = a.0.ref_ptr.1 in let h : Given.Denot = a.0.now in let more : List Entry = h.trail.items ++ h.entry ∷ [] in let r : Row.Denot = record { marker = record {}; items = more } in
    let y : (walk_of 𝓛 ended hs c).Ghost = ((κs, qs, bounds, a, (vptr b o ∷ [], tt)), gh) in let Post : Val → SProp 𝓤 = (walk_of 𝓛 ended hs c).post y in
    qed 𝓛 ((raw (alive 𝓛 ended.signature κs qs) ⊛ ‵ (owns (types_at ended.signature.params κs) a y.0.4)) ∷ raw ((c κs a).requires gh) ∷ []) ∵ split ! $ keep ! (0 ∷ []) $
    nothing ! $ use0 𝓛 (‵ (Frame.own_val (tt, tt) (token_val ∷ []))) (frame_made 𝓛) $ fjoin ! $
    enter ! 𝓣.C 𝓣.Λ fn (vptr b o ∷ []) Post $ alloc_all ! (λ l. pass_all ! refl ((tt, tt), tt) $
    sets ! (agg ! (no_more !)) refl (tt, tt) $ sets ! (agg ! (and_then ! (get ! refl) (no_more !))) refl (tt, (tt, tt)) $
    use0 𝓛 (raw (fact 𝓤 (more ≡ more))) (fact_i 𝓤 (more ≡ more) (emp 𝓤) refl) $ nothing ! $ nothing ! $ fjoin ! $
    returns ! (look_at ! 0 refl) $ free_all ! refl $ keep ! (3 ∷ 0 ∷ 2 ∷ 1 ∷ []) $ by ! (leaves 𝓛 ended hs c y token_val r (tt, tt) (tt, tt))))
