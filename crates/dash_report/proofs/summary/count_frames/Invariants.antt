use Rattle.std.proofs.Common.{◌≡◌, take}
use Rattle.run_model.specs.Summary.{frames_in}
use Rattle.dash_report.proofs.summary.count_frames.Given as goal

abbrev pub invariant-loop-record : goal.invariant-loop-record
invariant-loop-record l = l.total ≡ frames_in (take l.record-index l.records)
