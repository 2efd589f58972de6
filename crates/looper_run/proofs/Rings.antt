-- Counts of the rings of a poster, and what a ring keeps.
use Rattle.std.proofs.Common.{◌≡◌, ℕ, ◌+◌, ◌*◌, ◌/◌, ◌%◌, ◌^◌, sym, ap, ◌∙◌, arith}
use Rattle.std.proofs.Math.Nat.{add-mul-mod_self_right}
use Rattle.std.proofs.lemmas.Nat.{div-add-mod'}
use Rattle.shared_queue.specs.Known.{IsSamePoster}
use Rattle.looper_run.specs.Holding.{Sender, Holding}
use Rattle.looper_run.specs.Tests.{Rings, IsLent}

mod_plus : (n b m : ℕ) → (n + b) % m ≡ (n % m + b) % m
mod_plus n b m =
    let split : n + b ≡ (n % m + b) + n / m * m = omega (arith, div-add-mod' n m) in
    ap (λ (x : ℕ). x % m) split ∙ add-mul-mod_self_right (n % m + b) (n / m) m

-- equal remainders stay equal
pub same_plus : (n k b m : ℕ) → n % m ≡ k % m → (n + b) % m ≡ (k + b) % m
same_plus n k b m e = mod_plus n b m ∙ (ap (λ (x : ℕ). (x + b) % m) e ∙ sym (mod_plus k b m))

pub no_rings : (p q : Sender) (m n : ℕ) → q.view.rung ≡ p.view.rung → n ≡ m → Rings p q m n
no_rings p q m n same count = (
  0,
  (let e : q.view.rung ≡ p.view.rung + 0 = omega (arith, same) in e),
  ap (λ (x : ℕ). x % 2 ^ 64) (let e : n ≡ m + 0 = omega (arith, count) in e),
)

pub rings_then : (p q r : Sender) (k m n : ℕ) → Rings p q k m → Rings q r m n → Rings p r k n
rings_then p q r k m n a b =
    let sum : r.view.rung ≡ p.view.rung + (a.0 + b.0) = omega (arith, a.1, b.1) in
    let counts : (k + a.0) + b.0 ≡ k + (a.0 + b.0) = omega arith in (
      a.0 + b.0,
      sum,
      b.2 ∙ (same_plus m (k + a.0) b.0 (2 ^ 64) a.2 ∙ ap (λ (x : ℕ). x % 2 ^ 64) counts),
    )

-- what went on as a dispatcher may has still gone on so once the poster rang
pub lent_rung : (a b : Holding) (p : Sender) → IsLent a b → IsSamePoster b.poster p → p.view.seen ≡ b.poster.view.seen → p.view.heard ≡ b.poster.view.heard
    → IsLent a (record { poster = p; pass = b.pass; journal = b.journal })
lent_rung a b p lent same seen heard = record {
  same = record {
    table = same.table ∙ lent.same.table;
    sender = same.sender ∙ lent.same.sender;
    constants = same.constants ∙ lent.same.constants;
    heard = heard ∙ lent.same.heard;
    turns = (let before = lent.same.turns in let still = same.turns in omega (arith, before, still));
    home = lent.same.home;
    looper = lent.same.looper;
  };
  more = lent.more;
  did = lent.did;
  seen = seen ∙ lent.seen;
  acts = lent.acts;
  no_looks = lent.no_looks;
  told = lent.told;
  back = lent.back;
}
