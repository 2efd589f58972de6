use Rattle.std.proofs.Common.{refl}
use Rattle.inbox_queue.proofs.Handing.{halt_done, halt_over, halt_due}
use Rattle.inbox_queue.proofs.main_queue.Place.halt_once.Goals as goal

pub returns-in-Halted-clause-halted : goal.returns-in-Halted-clause-halted
returns-in-Halted-clause-halted g c _ = (halt_done c.args.self.now c.args.hands.now (record { looper = c.args.hands.now.looper; controller = c.halt-halted.new.self; pass = c.args.hands.now.pass }) c.share.new.hands c.args.time (record { at = c.requires; kept = (refl, refl); same = c.share.ensures.same; heard = c.share.ensures.controller }) c.in-Halted.ensures).1

pub returns-in-Over-clause-same : goal.returns-in-Over-clause-same
returns-in-Over-clause-same g c _ = (halt_over c.args.self.now c.args.hands.now (record { looper = c.args.hands.now.looper; controller = c.halt-halted.new.self; pass = c.args.hands.now.pass }) c.share.new.hands c.args.time (record { at = c.requires; kept = (refl, refl); same = c.share.ensures.same; heard = c.share.ensures.controller }) c.in-Over.ensures).1

pub returns-in-NotDrained-clause-same : goal.returns-in-NotDrained-clause-same
returns-in-NotDrained-clause-same g c _ = (halt_due c.args.self.now c.args.hands.now (record { looper = c.args.hands.now.looper; controller = c.halt-halted.new.self; pass = c.args.hands.now.pass }) c.share.new.hands c.args.time _ (record { at = c.requires; kept = (refl, refl); same = c.share.ensures.same; heard = c.share.ensures.controller }) c.in-NotDrained.ensures).1
