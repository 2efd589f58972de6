use Rattle.std.proofs.Common.{sym, ◌∙◌}
use Rattle.std.proofs.lemmas.List.{append-nil}
use Rattle.dash_loopers.proofs.LooperLeaves.{tells_none, tells_then}
use Rattle.dash_loopers.proofs.PlaySteps.{painted_more}
use Rattle.dash_loopers.proofs.frame_messages.tell_painted.Goals as goal

pub loop-paint-init : goal.loop-paint-init
loop-paint-init c = record { more = tells_none c.args.journal.now; told = sym (append-nil c.args.journal.now.acts) }

pub loop-paint-preserved : goal.loop-paint-preserved
loop-paint-preserved c = record {
  more = tells_then c.args.journal.now c.loop-paint.journal c.tell.new.journal c.loop-paint.invariant.more c.tell.ensures.more;
  told = c.in_ok-tell.ensures.told ∙ painted_more c.args.journal.now.acts c.loop-paint.journal.acts c.args.painted.now c.loop-paint.paint-index _ c.loop-paint-test.true c.loop-paint.invariant.told;
}

pub returns-in_err-tell-clause-more : goal.returns-in_err-tell-clause-more
returns-in_err-tell-clause-more c = tells_then c.args.journal.now c.loop-paint.journal c.tell.new.journal c.loop-paint.invariant.more c.tell.ensures.more
