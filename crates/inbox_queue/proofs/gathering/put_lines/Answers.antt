use Rattle.std.proofs.Common.{◌∙◌, refl}
use Rattle.inbox_queue.proofs.Gatherings.{planned_more_by, planned_early, index_more}
use Rattle.inbox_queue.proofs.gathering.put_lines.Goals as goal

pub returns-then-not-put_line : goal.returns-then-not-put_line
returns-then-not-put_line g c = record {
  inbox = c.put_line.ensures.same.0 ∙ c.loop-line.invariant.0;
  number = c.put_line.ensures.same.1 ∙ c.loop-line.invariant.1;
  put = planned_early c.args.script.now c.args.block.now.time c.args.sender.now.number c.args.block.now.lines c.loop-line.line-index c.put_line.new.sender.put (c.if-not-put_line.ensures.kept refl ∙ c.loop-line.invariant.2);
}

pub loop-line-preserved : goal.loop-line-preserved
loop-line-preserved g c = (
  c.put_line.ensures.same.0 ∙ c.loop-line.invariant.0,
  c.put_line.ensures.same.1 ∙ c.loop-line.invariant.1,
  planned_more_by c.args.script.now c.args.block.now.time c.args.sender.now.number c.loop-line.sender.number c.args.block.now.lines c.as_slice-line-items.result.now c.loop-line.line-index _ c.loop-line.sender.put c.put_line.new.sender.put c.as_slice-line-items.ensures c.loop-line.invariant.1 c.loop-line-test.true c.loop-line.invariant.2 (c.if-not-put_line.ensures.put refl),
  index_more c.args.block.now.lines c.as_slice-line-items.result.now c.loop-line.line-index c.as_slice-line-items.ensures c.loop-line-test.true,
)
