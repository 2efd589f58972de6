use Rattle.std.proofs.Common.{◌≡◌, ℕ, ◌∷◌, ◌++◌, take, drop, subst, sym}
use Rattle.message_list.proofs.list.NodeList.remove_at.Goals as goal

pub returns-then-i-eq0 : goal.returns-then-i-eq0
returns-then-i-eq0 g c = subst (λ (n : ℕ). c.args.self.now ≡ take n c.remove_first.new.self ++ c.remove_first.result ∷ drop n c.remove_first.new.self) (sym c.if-i-eq0.true) c.remove_first.ensures
