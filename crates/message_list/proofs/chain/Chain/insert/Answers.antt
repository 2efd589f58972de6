use Rattle.std.proofs.Common.{◌≡◌, ℕ, length, sym, subst, arith}
use Rattle.message_list.specs.Store.{Holds}
use Rattle.message_list.proofs.chain.Chain.insert.Goals as goal

pub put_between-requires : goal.put_between-requires
put_between-requires g c = let most = c.requires.room.0 in let room = c.requires.room.1 in (omega arith, omega arith, room, c.requires.there (omega arith))

pub returns-then-len-eq0-clause-at : goal.returns-then-len-eq0-clause-at
returns-then-len-eq0-clause-at g c =
    let all = c.len.ensures in let none = c.if-len-eq0.true in let most = c.requires.room.0 in
    let is : 0 ≡ c.args.i = omega arith in
    subst (λ (k : ℕ). Holds c.put_only.new.self k c.put_only.result.ptr) is c.put_only.ensures.at

pub returns-then-i-eq0-clause-at : goal.returns-then-i-eq0-clause-at
returns-then-i-eq0-clause-at g c = subst (λ (k : ℕ). Holds c.put_first.new.self k c.put_first.result.ptr) (sym c.if-i-eq0.true) c.put_first.ensures.at

pub returns-then-i-len-clause-at : goal.returns-then-i-len-clause-at
returns-then-i-len-clause-at g c =
    let all = c.len-2.ensures in let at = c.if-i-len.true in
    let is : length c.args.self.now ≡ c.args.i = omega arith in
    subst (λ (k : ℕ). Holds c.put_last.new.self k c.put_last.result.ptr) is c.put_last.ensures.at
