use Rattle.std.proofs.Common.{◌∷◌, ◌++◌, [], All, refl, subst}
use Rattle.queue_state.specs.Queue.{part_of}
use Rattle.message_slot.specs.Letter.{IsAtHome}
use Rattle.shared_queue.specs.Ends.{sealed_by}
use Rattle.shared_queue.proofs.Closing.{closing, leaves, left_claims}
use Rattle.shared_queue.proofs.queue.SharedQueue.close.Goals as goal

pub returns-clause-left : goal.returns-clause-left
returns-clause-left g c =
    let key = c.args.self.constants in
    let parts = sealed_by c.args.posters.items in
    leaves key c.args.posters.items parts (parts ++ part_of c.end-state.result ∷ []) c.end-state.result (closing key c.args.posters.items c.end-state.result parts c.end-state.ensures refl) c.into_items.ensures.sound refl c.into_items.result c.into_items.ensures.left

pub returns-clause-claims : goal.returns-clause-claims
returns-clause-claims g c =
    let key = c.args.self.constants in
    let parts = sealed_by c.args.posters.items in
    left_claims key c.args.posters.items parts (parts ++ part_of c.end-state.result ∷ []) c.end-state.result (closing key c.args.posters.items c.end-state.result parts c.end-state.ensures refl) c.into_items.ensures.sound refl c.into_items.result c.into_items.ensures.left

pub returns-clause-home : goal.returns-clause-home
returns-clause-home g c = subst (λ h. All (IsAtHome g.K.Claim.home h) c.into_items.result) c.end-state.ensures.own.home c.into_items.ensures.home
