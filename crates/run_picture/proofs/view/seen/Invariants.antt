use Rattle.std.proofs.Common.{◌≡◌, take}
use Rattle.std.specs.List.{filter}
use Rattle.run_picture.specs.View.{is_seen}
use Rattle.run_picture.proofs.view.seen.Given as goal

abbrev pub invariant-loop-mark : goal.invariant-loop-mark
invariant-loop-mark l = l.out.items ≡ filter (is_seen l.window) (take l.mark-index l.marks)
