use Rattle.run_picture.proofs.Grouped.{Cut}
use Rattle.run_picture.proofs.group.cut_behind.Given as goal

abbrev pub invariant-loop-mark : goal.invariant-loop-mark
invariant-loop-mark l = Cut l.scale l.fn.first l.later l.mark-index l.groups.items l.current
