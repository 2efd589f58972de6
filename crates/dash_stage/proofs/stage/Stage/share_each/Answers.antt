use Rattle.std.proofs.Common.{arith}
use Rattle.dash_stage.proofs.Sharing.{stage_in_its_mode, stage_self, stage_weaker, stage_then, stage_kept, share_none, share_more, share_all}
use Rattle.dash_stage.proofs.stage.Stage.share_each.Goals as goal

pub share_queue-requires-clause-stage : goal.share_queue-requires-clause-stage
share_queue-requires-clause-stage c = stage_in_its_mode c.args.script.now c.loop-looper.self c.loop-looper.invariant.0

pub loop-looper-init : goal.loop-looper-init
loop-looper-init c = (c.requires.stage, stage_self c.args.self.now, share_none c.args.self.now)

pub loop-looper-preserved : goal.loop-looper-preserved
loop-looper-preserved c =
    let a = c.loop-looper.self in
    let b = c.share_queue.new.self in
    let sh = c.share_queue.ensures.shares in
    let more = stage_weaker c.loop-looper.looper sh.0 a b sh.1 in (
      stage_kept c.args.script.now a b more c.loop-looper.invariant.0,
      stage_then c.args.self.now a b c.loop-looper.invariant.1 more,
      share_more c.loop-looper.looper a b sh c.loop-looper.invariant.2,
    )

pub returns : goal.returns
returns c =
    let at = c.loop-looper in
    record {
      stage = λ lockstep is. stage_kept c.args.script.now c.args.self.now at.self at.invariant.1 is;
      shares = record { kept = at.invariant.1; shared = share_all c.args.script.now at.self at.invariant.0 at.looper (omega (arith, c.loop-looper-test.false)) at.invariant.2 };
    }
