use Rattle.std.proofs.Common.{refl}
use Rattle.looper_run.proofs.Keeping.{lent_nothing}
use Rattle.frame_loop.proofs.dispatching.FrameHandlingDispatcher.intercept.Goals as goal

pub returns-clause-keeps : goal.returns-clause-keeps
returns-clause-keeps g c = lent_nothing _ _ _ _ c.args.self.now c.args.self.now c.args.own.now (λ w h. h) refl refl refl
