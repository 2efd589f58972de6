-- the posts of the parts so far are counted, and each part has no more than 64 bits can count
use Rattle.std.proofs.Common.{◌≡◌, ◌≤◌, ◌*◌, ◌^◌, length, take}
use Rattle.loop_model.specs.Chain.{entries_of}
use Rattle.loop_model.specs.Fates.{fates}
use Rattle.report_law.proofs.counts.count_parts.Given as goal

abbrev pub invariant-loop-segment : goal.invariant-loop-segment
invariant-loop-segment l = record {
  counted : l.count ≡ length (fates (entries_of (take l.segment-index l.segments)));
  few : l.count ≤ l.segment-index * 2 ^ 64;
}
