use Rattle.std.proofs.Common.{◌≡◌, map}
use Rattle.std.specs.Prelude.{take}
use Rattle.dash_loopers.proofs.ViewSteps.{unmoved}
use Rattle.dash_loopers.proofs.view_root.ViewRoot.new.Given as goal

abbrev pub invariant-loop-line : goal.invariant-loop-line
invariant-loop-line l = l.gauges.items ≡ map (unmoved l.script l.looper) (take l.line-index l.line-items)
