use Rattle.std.proofs.Common.{arith}
use Rattle.dash_stage.proofs.Sharing.{stage_in_its_mode, stage_kept, kept_self, kept_heard, kept_then, heard_none, heard_more}
use Rattle.dash_stage.proofs.stage.Stage.share_frames.Goals as goal

pub share_frames_of-requires-clause-stage : goal.share_frames_of-requires-clause-stage
share_frames_of-requires-clause-stage c = stage_in_its_mode c.args.script.now c.loop-looper.self c.loop-looper.invariant.0

pub loop-looper-init : goal.loop-looper-init
loop-looper-init c = (c.requires.stage, kept_self c.args.self.now, heard_none c.args.self.now)

pub loop-looper-preserved : goal.loop-looper-preserved
loop-looper-preserved c =
    let a = c.loop-looper.self in
    let b = c.share_frames_of.new.self in
    let sh = c.share_frames_of.ensures.shares in (
      stage_kept c.args.script.now a b (kept_heard a b sh.kept) c.loop-looper.invariant.0,
      kept_then c.args.self.now a b c.loop-looper.invariant.1 sh.kept,
      heard_more c.loop-looper.looper a b sh c.loop-looper.invariant.2,
    )

pub returns-clause-heard : goal.returns-clause-heard
returns-clause-heard c q lt = c.loop-looper.invariant.2 q (omega (arith, lt, c.loop-looper-test.false))
