use Rattle.run_picture.specs.Labels.{entity}
use Rattle.run_picture.proofs.Pieces.{piece_more}
use Rattle.run_picture.proofs.label.push_escaped.Goals as goal

pub loop-byte-preserved : goal.loop-byte-preserved
loop-byte-preserved c =
    piece_more entity c.args.text.now c.loop-byte.byte-index _ c.args.out.now.items c.loop-byte.out.items c.push_entity.new.out.items c.loop-byte-test.true c.loop-byte.invariant
    c.in_ok-push_entity.ensures
