use Rattle.dash_loopers.proofs.LooperPulses.{none_rounded, some_rounded}
use Rattle.dash_loopers.proofs.looper.rounded_up.Goals as goal

pub returns-in_err-nanos : goal.returns-in_err-nanos
returns-in_err-nanos c = none_rounded _ _ c.in_err-nanos.was c.from_residual.ensures

pub returns : goal.returns
returns c = some_rounded _ _ _ c.in_ok-nanos.was c.div_ceil.ensures
