use Rattle.std.proofs.Common.{◌≡◌, ◌∷◌, drop}
use Rattle.animator.specs.Plans.{IsKey}
use Rattle.animator.specs.Valuing.{value_among}
use Rattle.animator.proofs.values.value_among.Given as goal

-- the value is among the keys that are left
abbrev pub invariant-loop-to : goal.invariant-loop-to
invariant-loop-to l = record {
  from : IsKey l.from;
  left : value_among l.duration l.position (l.from ∷ drop l.to-index l.rest) ≡ value_among l.duration l.position l.keys;
}
