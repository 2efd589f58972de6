use Rattle.std.proofs.Common.{arith}
use Rattle.message_list.proofs.list.NodeList.step.Goals as goal

pub after-self-inside-requires : goal.after-self-inside-requires
after-self-inside-requires g c = let more = c.if-here-len.false in let all = c.len.ensures in c.self.invariant.0 (omega arith)
