use Rattle.std.proofs.Common.{◌≡◌, ◌≤◌, drop}
use Rattle.dash_script.specs.Causes.{each_number}
use Rattle.value_animator.specs.Reading.{is_within_limits}
use Rattle.value_animator.proofs.draft.numbers_fit.Given as goal

abbrev pub invariant-loop-slot : goal.invariant-loop-slot
invariant-loop-slot l = record {
  within : l.place ≤ l.slot-index;
  tested : each_number is_within_limits l.place (drop l.slot-index l.form) l.numbers ≡ each_number is_within_limits 0 l.form l.numbers;
}
