use Rattle.std.proofs.Common.{All, take}
use Rattle.animator.specs.Plans.{IsKey}
use Rattle.animator.proofs.plan.are_keys.Given as goal

abbrev pub invariant-loop-key : goal.invariant-loop-key
invariant-loop-key l = All IsKey (take l.key-index l.keys)
