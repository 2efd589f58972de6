use Rattle.std.proofs.Common.{arith}
use Rattle.message_list.proofs.Marked.{last_groups}
use Rattle.message_list.proofs.marks.Marks.raise.Goals as goal

pub returns-then-i-len : goal.returns-then-i-len
returns-then-i-len c few p long le lead = let ms = c.args.self.now in let end = c.if-i-len.true in (lead.0, last_groups ms.first ms.start c.args.i few p ms.groups.items (omega arith) lead.1)

pub returns : goal.returns
returns c few p long le lead = c.raise_from.ensures few p le lead
