use Rattle.std.proofs.Common.{◌≡◌, map, take, []}
use Rattle.value_animator.specs.Runners.{runner_at}
use Rattle.value_animator.proofs.runner.runners.Given as goal

abbrev pub invariant-loop-thing : goal.invariant-loop-thing
invariant-loop-thing l = l.runners.items ≡ map (λ t. runner_at t []) (take l.thing-index l.things)
