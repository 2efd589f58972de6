use Rattle.std.proofs.Common.{ap}
use Rattle.loop_model.specs.Chain.{entries_of}
use Rattle.dash_report.proofs.Written.{looper_written}
use Rattle.dash_report.proofs.report.write_looper.Goals as goal

pub returns : goal.returns
returns c =
    looper_written c.args.queue.now c.args.journal.now c.args.frames.now _ _ _ _ _ _ _ _ _ (ap entries_of c.as_slice-segments.ensures) c.as_slice.ensures c.as_slice-2.ensures c.in_ok-writeln.ensures.bytes c.in_ok-write_history.ensures c.in_ok-write_fates.ensures c.in_ok-write_acts.ensures c.in_ok-write_frames.ensures
