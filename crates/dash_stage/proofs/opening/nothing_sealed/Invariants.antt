use Rattle.std.proofs.Common.{◌≡◌, []}
use Rattle.std.specs.Prelude.{replicate}
use Rattle.dash_stage.specs.Controllers.{parts_in}
use Rattle.dash_stage.proofs.opening.nothing_sealed.Given as goal

abbrev pub invariant-loop-looper : goal.invariant-loop-looper
invariant-loop-looper g l = parts_in l.sealed.items ≡ replicate l.looper []
