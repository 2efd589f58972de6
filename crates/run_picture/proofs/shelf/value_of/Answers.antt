use Rattle.run_picture.proofs.Seen.{value_all, value_more}
use Rattle.run_picture.proofs.shelf.value_of.Goals as goal

pub loop-mark-preserved : goal.loop-mark-preserved
loop-mark-preserved c =
    value_more c.args.group.now.marks c.as_slice-mark-items.result.now c.as_slice-mark-items.ensures c.loop-mark.mark-index _ c.loop-mark.last c.value-last.result _ c.loop-mark-test.true
    c.loop-mark.invariant c.value-last.ensures

pub returns : goal.returns
returns c =
    value_all c.args.group.now.marks c.as_slice-mark-items.result.now c.as_slice-mark-items.ensures c.loop-mark.mark-index c.loop-mark.last _ c.loop-mark-test.false c.loop-mark.invariant
