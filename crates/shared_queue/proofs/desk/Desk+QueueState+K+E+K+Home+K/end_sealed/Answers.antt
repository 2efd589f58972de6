use Rattle.std.proofs.Common.{refl}
use Rattle.shared_queue.proofs.Desks.{hands_over_ends, holds_last}
use Rattle.shared_queue.proofs.desk.Desk+QueueState+K+E+K+Home+K.end_sealed.Goals as goal

pub hand-requires-clause-last : goal.hand-requires-clause-last
hand-requires-clause-last g c κs within = holds_last c.args.queue.now.constants c.args.self.now c.args.state c.requires.turn

pub returns : goal.returns
returns g c =
    let d = c.args.self.now in
    hands_over_ends c.args.queue.now.constants d (record { seat = c.hand.new.seat; sender = d.sender; made = d.made; seen = c.length-self.result; heard = d.heard }) c.args.state c.requires.turn c.length-self.ensures.sound (c.hand.ensures.0, refl) c.hand.ensures.2 c.length-self.ensures.length refl refl
