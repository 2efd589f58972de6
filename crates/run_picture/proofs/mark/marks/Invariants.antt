use Rattle.std.proofs.Common.{◌≡◌, ◌++◌, drop}
use Rattle.run_picture.specs.Marks.{marks_from}
use Rattle.run_picture.proofs.mark.marks.Given as goal

abbrev pub invariant-loop-looper : goal.invariant-loop-looper
invariant-loop-looper l = record {
  counted : l.lane ≡ l.looper-index;
  marked : l.out.items ++ marks_from l.lane (drop l.looper-index l.report.loopers) ≡ marks_from 0 l.report.loopers;
}
