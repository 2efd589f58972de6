-- A desk hears of what another has seen.
use Rattle.std.proofs.Common.{◌≡◌, ℕ, max, List, [], ◌∷◌, ◌++◌, length, sym, ap, ◌∙◌, subst, arith, append-nil}
use Rattle.std.specs.Prelude.{All}
use mathlib.Core.List.{IsPrefix}
use Rattle.queue_state.specs.Queue.{Queue}
use Rattle.loop_model.specs.Lists.{longer}
use Rattle.shared_queue.specs.declared.view.View.{View}
use Rattle.shared_queue.specs.declared.desk.Desk.{Desk}
use Rattle.shared_queue.specs.Constants.{made_in}
use Rattle.shared_queue.specs.Turn.{fresh, joined}
use Rattle.shared_queue.specs.Plays.{Sat}
use Rattle.shared_queue.specs.Known.{IsSamePoster}
use Rattle.shared_queue.specs.Desk.{IsIdle}
use Rattle.shared_queue.proofs.Desks.{only_sender, still_unsealed}
use Rattle.shared_queue.proofs.Knows.{known}
use Rattle.loop_model.proofs.Prefixes.{longer-length}

-- m is the desk's seat with the note taken in, and n the same once the lists are compared
module _ {H K : Type 0} (d : Desk (Queue H K) H K) (o : View (Queue H K) H K) (m n : Sat H K) (idle : IsIdle d) (took_in : m ≡ (joined d.seat.me.0 (fresh o []), d.seat.me.1))
    (same : n ≡ m) (told : All (λ t. IsPrefix t m.0.seen) m.0.told) (counts : All (λ p. made_in p.0 m.0.seen ≡ p.1) m.0.senders) (told_claims : All (λ t. IsPrefix t m.0.claims) m.0.told_claims) where
  abbrev v : View (Queue H K) H K
  v = d.seat.me.0

  is_joined : n.0 ≡ joined v (fresh o [])
  is_joined = ap (λ (z : Sat H K). z.0) (same ∙ took_in)

  pub heard_seen : n.0.seen ≡ longer v.seen o.seen
  heard_seen = ap (λ (z : View (Queue H K) H K). z.seen) is_joined

  pub heard_begins : IsPrefix v.seen n.0.seen × IsPrefix o.seen n.0.seen
  heard_begins =
      let told' : All (λ t. IsPrefix t n.0.seen) (v.seen ∷ o.seen ∷ v.told) = subst (λ (z : Sat H K × Sat H K). All (λ t. IsPrefix t z.0.0.seen) z.1.0.told) (λ i. (sym same i, took_in i)) told in
      (told' 0 [] (omega arith), told' 1 [] (omega arith))

  pub heard_claims : n.0.claims ≡ longer v.claims o.claims
  heard_claims = ap (λ (z : View (Queue H K) H K). z.claims) is_joined

  pub heard_claims_begin : IsPrefix v.claims n.0.claims × IsPrefix o.claims n.0.claims
  heard_claims_begin =
      let told' : All (λ t. IsPrefix t n.0.claims) (v.claims ∷ o.claims ∷ v.told_claims) = subst (λ (z : Sat H K × Sat H K). All (λ t. IsPrefix t z.0.0.claims) z.1.0.told_claims) (λ i. (sym same i, took_in i)) told_claims in
      (told' 0 [] (omega arith), told' 1 [] (omega arith))

  senders_are : n.0.senders ≡ (d.sender, d.made) ∷ []
  senders_are = ap (λ (z : View (Queue H K) H K). z.senders) is_joined ∙ ap (λ (l : List (ℕ × ℕ)). l ++ []) idle.2.senders

  heard_made : made_in d.sender n.0.seen ≡ d.made
  heard_made = only_sender (λ p. made_in p.0 n.0.seen ≡ p.1) n.0.senders (d.sender, d.made) senders_are
      (subst (λ (z : Sat H K). All (λ p. made_in p.0 z.0.seen ≡ p.1) z.0.senders) (sym same) counts)

  pub heard_idle : (e : Desk (Queue H K) H K) → e.seat.me ≡ n → e.sender ≡ d.sender → e.made ≡ d.made → e.seen ≡ max d.seen (length o.seen) → e.heard ≡ d.heard → IsIdle e
  heard_idle e is_n sender made seen heard =
      let now : e.seat.me.0 ≡ joined v (fresh o []) = ap (λ (z : Sat H K). z.0) is_n ∙ is_joined in
      let len : length v.seen ≡ d.seen = idle.2.seen in (
        ap (λ (z : View (Queue H K) H K). z.has_turn) now ∙ idle.0,
        ap (λ (z : Sat H K). z.1) is_n ∙ (ap (λ (z : Sat H K). z.1) (same ∙ took_in) ∙ idle.1),
        record {
          senders = ap (λ (z : Sat H K). z.0.senders) is_n ∙ (senders_are ∙ (λ i. (sym sender i, sym made i) ∷ []));
          made = (λ i. made_in (sender i) (is_n i).0.seen) ∙ (heard_made ∙ sym made);
          seen = ap (λ (z : View (Queue H K) H K). length z.seen) now ∙ (longer-length v.seen o.seen ∙ (ap (λ (k : ℕ). max k (length o.seen)) len ∙ sym seen));
          heard = ap (λ (z : View (Queue H K) H K). z.heard) now ∙ (idle.2.heard ∙ sym heard);
          unsealed = still_unsealed d e idle.2 sender (ap (λ (z : View (Queue H K) H K). z.constants) now) (ap (λ (z : View (Queue H K) H K). z.sealed) now ∙ append-nil v.sealed);
        },
      )

  pub heard_same : (e : Desk (Queue H K) H K) → e.seat.table_id ≡ d.seat.table_id → e.seat.me ≡ n → e.sender ≡ d.sender
      → IsSamePoster (known d) (known e) × (e.seat.me.0.rung ≡ v.rung) × (e.seat.me.0.heard ≡ v.heard)
  heard_same e table is_n sender =
      let now : e.seat.me.0 ≡ joined v (fresh o []) = ap (λ (z : Sat H K). z.0) is_n ∙ is_joined in (
        record {
          table = table;
          sender = sender;
          constants = ap (λ (z : View (Queue H K) H K). z.constants) now;
          turns = ap (λ (z : View (Queue H K) H K). z.turns) now ∙ omega arith;
          found = ap (λ (z : View (Queue H K) H K). z.found) now;
          left = ap (λ (z : View (Queue H K) H K). z.left) now;
          sealed = ap (λ (z : View (Queue H K) H K). z.sealed) now ∙ append-nil v.sealed;
          made = (λ i. made_in (sender i) (is_n i).0.seen) ∙ (heard_made ∙ sym idle.2.made);
        },
        ap (λ (z : View (Queue H K) H K). z.rung) now ∙ omega arith,
        ap (λ (z : View (Queue H K) H K). z.heard) now,
      )
