use Rattle.std.proofs.Common.{sym, ◌∙◌, arith}
use Rattle.when_queue.proofs.Lists.{none_heads, head_fences}
use Rattle.when_queue.proofs.queue.is_fenced.Goals as goal

pub returns-then-len-eq0 : goal.returns-then-len-eq0
returns-then-len-eq0 g c = sym (none_heads c.args.list.now (omega arith))

pub returns : goal.returns
returns g c = c.is_barrier.ensures ∙ head_fences c.args.list.now c.get.result.now c.get.ensures
