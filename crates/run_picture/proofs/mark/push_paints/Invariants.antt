use Rattle.std.proofs.Common.{◌≡◌, ◌≤◌, ◌++◌, drop}
use Rattle.run_picture.specs.Marks.{no_paint, paint_marks}
use Rattle.run_picture.proofs.mark.push_paints.Given as goal

abbrev pub invariant-loop-act : goal.invariant-loop-act
invariant-loop-act l = record {
  near : l.group.place ≤ l.act-index;
  painted : l.out.items ++ paint_marks l.lane l.times l.group (drop l.act-index l.acts) ≡ l.fn.out.items ++ paint_marks l.lane l.times no_paint l.acts;
}
