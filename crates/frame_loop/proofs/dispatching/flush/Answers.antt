use Rattle.frame_loop.proofs.Keeping.{keeps_self, keeps_then}
use Rattle.frame_loop.proofs.dispatching.flush.Goals as goal

pub loop-sending-init : goal.loop-sending-init
loop-sending-init g c = keeps_self _ c.requires

pub loop-sending-preserved : goal.loop-sending-preserved
loop-sending-preserved g c = keeps_then _ _ _ c.loop-sending.invariant c.send_at.ensures.keeps

pub returns-in-NoMemory-clause-keeps : goal.returns-in-NoMemory-clause-keeps
returns-in-NoMemory-clause-keeps g c = keeps_then _ _ _ c.loop-sending.invariant c.send_at.ensures.keeps
