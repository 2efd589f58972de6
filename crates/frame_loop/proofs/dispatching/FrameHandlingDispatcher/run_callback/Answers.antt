use Rattle.std.proofs.Common.{refl}
use Rattle.looper_run.proofs.Asking.{unless_weaker}
use Rattle.plain_loop.proofs.Looping.{did_unless}
use Rattle.frame_loop.proofs.dispatching.FrameHandlingDispatcher.run_callback.Goals as goal

pub returns-clause-routed : goal.returns-clause-routed
returns-clause-routed g c = unless_weaker _ _ c.did.result (λ h. record { awaits = h; meets = refl }) (did_unless _ _ _ c.did.ensures c.deliver.ensures.holds)
