use Rattle.std.proofs.Common.{refl}
use Rattle.shared_queue.proofs.Desks.{begins}
use Rattle.shared_queue.proofs.desk.Desk+QueueState+K+E+K+Home+K.begin.Goals as goal

pub returns : goal.returns
returns g c =
    let d = c.args.self.now in
    begins c.args.queue.now.constants d (record { seat = c.take-state.new.seat; sender = d.sender; made = d.made; seen = c.length-self.result; heard = d.heard }) c.take-state.result
    c.requires.queue.1 c.requires.idle (c.take-state.ensures.seat.0, refl) c.take-state.ensures.taken c.length-self.ensures.sound refl c.length-self.ensures.length refl
