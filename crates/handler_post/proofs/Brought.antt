-- Messages that are recycled one after the other.
use Rattle.std.proofs.Common.{◌≡◌, ℕ, suc, ◌+◌, ◌≤◌, cond, List, ◌∷◌, All, Option, Some, None, sym, ap, ◌∙◌, subst, arith}
use Rattle.std.specs.Prelude.{is_some}
use Rattle.std.proofs.lemmas.List.Sums.{sum_by-cons}
use Rattle.message_pool.specs.Passes.{Claimed, Node, Tally}
use Rattle.message_pool.specs.Obtain.{IsReturned}
use Rattle.handler_post.specs.Supply.{slots_in}

-- the pass has brought back some of the messages, and these are left
pub record IsOnTheWay (nodes rest : List Node) (before after : Tally) : Type 0 where
  pub back : after.back + slots_in rest ≡ before.back + slots_in nodes
  pub looks : before.looks ≤ after.looks
  pub lost : before.lost ≤ after.lost
  pub taken : after.taken ≡ before.taken
  pub share : after.share ≡ before.share

one_back : (claim : Option Claimed) (n : ℕ) (before after : Tally) → IsReturned claim before after → after.back + n ≡ before.back + (cond {A = ℕ} (is_some claim) 1 0 + n)
one_back None n before after same = let e : after.back ≡ before.back = ap (λ (x : Tally). x.back) same in let all : after.back + n ≡ before.back + (0 + n) = omega (arith, e) in all
one_back (Some c) n before after one = let more : after.back ≡ before.back + 1 = ap (λ (x : Tally). x.back) one in let all : after.back + n ≡ before.back + (1 + n) = omega (arith, more) in all

-- nothing else of the pass changes
rest_kept : (claim : Option Claimed) (before after : Tally) → IsReturned claim before after → (after.looks ≡ before.looks) × (after.lost ≡ before.lost) × (after.taken ≡ before.taken) × (after.share ≡ before.share)
rest_kept None before after same = (ap (λ (x : Tally). x.looks) same, ap (λ (x : Tally). x.lost) same, ap (λ (x : Tally). x.taken) same, ap (λ (x : Tally). x.share) same)
rest_kept (Some c) before after one = (ap (λ (x : Tally). x.looks) one, ap (λ (x : Tally). x.lost) one, ap (λ (x : Tally). x.taken) one, ap (λ (x : Tally). x.share) one)

pub one_more : (nodes old rest : List Node) (node : Node) (start before after : Tally) → old ≡ node ∷ rest → IsOnTheWay nodes old start before → IsReturned node.claim before after → IsOnTheWay nodes rest start after
one_more nodes old rest node start before after e way back =
    let one = one_back node.claim (slots_in rest) before after back in
    let kept = rest_kept node.claim before after back in
    let was : before.back + slots_in (node ∷ rest) ≡ start.back + slots_in nodes = subst (λ xs. before.back + slots_in xs ≡ start.back + slots_in nodes) e way.back in
    let cons : slots_in (node ∷ rest) ≡ cond {A = ℕ} (is_some node.claim) 1 0 + slots_in rest = sum_by-cons (λ (m : Node). cond {A = ℕ} (is_some m.claim) 1 0) node rest in
    record { back = one ∙ ap (λ (k : ℕ). before.back + k) (sym cons) ∙ was; looks = omega (arith, way.looks, kept.0); lost = omega (arith, way.lost, kept.1); taken = kept.2 ∙ way.taken; share = kept.3 ∙ way.share }

-- what holds of all elements holds of the first, and of those behind it
pub tail_all : (P : Node → Type 0) (node : Node) (old rest : List Node) → old ≡ node ∷ rest → All P old → P node × All P rest
tail_all P node old rest e all = let whole = subst (All P) e all in (whole 0 node (omega arith), λ k d near. whole (suc k) d (omega arith))
