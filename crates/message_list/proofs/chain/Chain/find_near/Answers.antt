use Rattle.std.proofs.Common.{ℕ, ◌<◌, length, subst}
use Rattle.message_list.specs.Store.{Holds}
use Rattle.message_list.proofs.chain.Chain.find_near.Goals as goal

pub returns-then-here-i : goal.returns-then-here-i
returns-then-here-i g c = subst (λ (k : ℕ). k < length c.args.self.now → Holds c.args.self.now k c.args.place.ptr) c.if-here-i.true c.requires
