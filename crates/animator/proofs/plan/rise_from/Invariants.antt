use Rattle.std.proofs.Common.{◌≡◌, drop}
use Rattle.animator.specs.Plans.{rise_from}
use Rattle.animator.proofs.plan.rise_from.Given as goal

-- the keys that are left rise where all do
abbrev pub invariant-loop-key : goal.invariant-loop-key
invariant-loop-key l = rise_from l.place (drop l.key-index l.keys) ≡ rise_from l.start l.keys
