-- What comes out with a number is what went in with it.
use Rattle.std.proofs.Common.{◌≡◌, List, Option, Some, slice_get, sym, ◌∙◌, subst, ◌∷◌, [], ◌++◌}
use Rattle.queue_state.specs.declared.answers.Nexted.TheVariants as nexted
use Rattle.shared_queue.specs.Laws.{TakenIsPosted}
use Rattle.shared_queue.proofs.Claims.{at_seam, still_there}
use Rattle.shared_queue.proofs.TurnCalls.{look_claims}

pub taken_is_posted : {H K : Type 0} → TakenIsPosted H K
taken_is_posted {H} {K} poster posted_ looker looked node taken number now at wake idle claims p t before after =
    let c = p.4 in
    let there : slice_get posted_.view.claims number ≡ Some node.claim = subst (λ (l : List (Option K)). slice_get l number ≡ Some node.claim) (sym c.3) (subst (λ n. slice_get (c.0 ++ node.claim ∷ []) n ≡ Some node.claim) c.2 (at_seam c.0 node.claim)) in
    let here : slice_get claims number ≡ Some node.claim = still_there posted_.view.claims claims number node.claim before there in
    let out : slice_get claims number ≡ Some taken.claim = still_there looked.view.claims claims number taken.claim after (look_claims looker looked now idle (nexted.Taken number at taken) t) in
    let both : Some taken.claim ≡ Some node.claim = sym out ∙ here in
    cc (both)
