use Rattle.std.proofs.Common.{ℕ, ◌≤◌, ◌-◌, ◌≡◌, arith, subst}
use Rattle.message_list.specs.Store.{Holds}
use Rattle.message_list.proofs.chain.Chain.find_back.Goals as goal

pub loop-k-init : goal.loop-k-init
loop-k-init g c = (c.requires.0, c.requires.1)

pub loop-k-preserved : goal.loop-k-preserved
loop-k-preserved g c = let less = c.loop-k-test.true in (omega arith, c.before-at.ensures (c.loop-k.k - 1) (omega arith))

pub returns : goal.returns
returns g c = let k : ℕ = c.loop-k.k in let i : ℕ = c.args.i in let low : i ≤ k = c.loop-k.invariant.0 in let e : k ≡ i = omega (arith, c.loop-k-test.false) in subst (λ (n : ℕ). Holds c.args.self.now n c.loop-k.at.ptr) e c.loop-k.invariant.1
