-- How many entries of a sender a history has, and its beginnings.
use Rattle.std.proofs.Common.{◌≡◌, ℕ, ◌+◌, ◌≤◌, ◌≢◌, List, [], ◌∷◌, ◌++◌, cond, eqb, ap, arith, eq-eqb, ne_eqb}
use Rattle.std.proofs.lemmas.List.Sums.{sum_by-append, sum_by_push}
use mathlib.Core.List.{IsPrefix}
use Rattle.loop_model.specs.declared.entry.Entry.{Entry}
use Rattle.shared_queue.specs.Constants.{made_in}

abbrev pub one_of : ℕ → Entry → ℕ
one_of n e = cond (eqb e.sender n) 1 0

pub made_in-append : (n : ℕ) (xs ys : List Entry) → made_in n (xs ++ ys) ≡ made_in n xs + made_in n ys
made_in-append n xs ys = sum_by-append (one_of n) xs ys

pub made_in_push : (n : ℕ) (xs : List Entry) (e : Entry) → made_in n (xs ++ e ∷ []) ≡ made_in n xs + one_of n e
made_in_push n xs e = sum_by_push (one_of n) xs e

pub one_of-yes : (n : ℕ) (e : Entry) → e.sender ≡ n → one_of n e ≡ 1
one_of-yes n e is = ap (λ b. cond b 1 0) (eq-eqb e.sender n is)

pub one_of-no : (n : ℕ) (e : Entry) → e.sender ≢ n → one_of n e ≡ 0
one_of-no n e apart = ap (λ b. cond b 1 0) (ne_eqb e.sender n apart)

-- a beginning has no more entries of a sender
pub made_in_le : (n : ℕ) (xs ys : List Entry) → IsPrefix xs ys → made_in n xs ≤ made_in n ys
made_in_le n xs ys p = omega (arith, ap (made_in n) p.1, made_in-append n xs p.0)

-- between two lists with as many entries of a sender
pub made_in_between : (n k : ℕ) (xs ys zs : List Entry) → IsPrefix xs ys → IsPrefix ys zs → made_in n xs ≡ k → made_in n zs ≡ k → made_in n ys ≡ k
made_in_between n k xs ys zs p q a b = omega (arith, made_in_le n xs ys p, made_in_le n ys zs q)
