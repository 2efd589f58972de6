use Rattle.std.specs.Mem.Slots.{slots_filled, slots_len}
use Rattle.message_pool.proofs.Emptied.{one_emptied}
use Rattle.message_pool.proofs.pool.drop_nodes.Goals as goal

pub loop-i-preserved : goal.loop-i-preserved
loop-i-preserved g c = let before = c.loop-i.closed.slots in let after = c.take.new.self.slots in let others = c.take.ensures.others in let kept = c.loop-i.invariant in
    one_emptied (slots_filled before) (slots_filled after) c.loop-i.i (slots_len before) (slots_len after) others.1 others.2 kept.0 kept.1
