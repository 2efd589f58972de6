use Rattle.std.proofs.Common.{◌≤◌, ◌-◌}
use Rattle.message_list.specs.Store.{Holds}
use Rattle.message_list.proofs.chain.Chain.find_back.Given as goal

abbrev pub invariant-loop-k : goal.invariant-loop-k
invariant-loop-k g l = (l.i ≤ l.k) × Holds l.self l.k l.at.ptr

abbrev pub decreases-loop-k : goal.decreases-loop-k
decreases-loop-k g l = l.k - l.i
