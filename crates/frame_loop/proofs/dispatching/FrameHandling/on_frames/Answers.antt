use Rattle.std.proofs.Common.{refl}
use Rattle.frame_loop.proofs.Keeping.{own_self}
use Rattle.frame_loop.proofs.dispatching.FrameHandling.on_frames.Goals as goal

pub returns-in-2-clause-keeps : goal.returns-in-2-clause-keeps
returns-in-2-clause-keeps g c = record { serves = c.on_due.ensures.keeps.serves; own = own_self c.args.own.now; nudged = c.on_due.ensures.keeps.nudged }

pub returns-in_default-clause-keeps : goal.returns-in_default-clause-keeps
returns-in_default-clause-keeps g c = record { serves = λ w s. s; own = own_self c.args.own.now; nudged = refl }
