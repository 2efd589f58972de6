-- A seat that won the turn takes the state out.
use Rattle.std.proofs.Common.{◌≡◌, ℕ, List, [], ◌∷◌, sym, ap, ◌∙◌, subst, Option, Some, None}
use Rattle.std.specs.Prelude.{MatchOption}
use Rattle.atomic_table.specs.Table.{rest}
use Rattle.loop_model.specs.declared.entry.Entry.{Entry}
use Rattle.queue_state.specs.Queue.{Queue}
use Rattle.shared_queue.specs.Constants.{Constants}
use Rattle.shared_queue.specs.Turn.{taking}
use Rattle.shared_queue.specs.Plays.{Sat, Won}
use Rattle.shared_queue.specs.Seats.{HasTakenTurn}

module _ {H K : Type 0} where
  -- what lies in the slot that was taken last
  abbrev first_slot : List (ℕ × Option (Queue H K)) → Option (Queue H K)
  first_slot [] = None
  first_slot (p ∷ ps) = p.1

  pub takes_out : (key : Constants H) (m won_ n : Sat H K) (r : Option (Queue H K)) (Z : Type 0) → m.0.constants ≡ Some key → m.1 ≡ [] → Won m won_ → won_.1 ≡ (0, r) ∷ rest won_.1 → n ≡ (won_.0, (0, None) ∷ rest won_.1) → MatchOption r Z (λ x. HasTakenTurn key m n x)
  takes_out key m won_ n r Z live empty won out left =
      let x : Queue H K = won.0 in
      let whole : List Entry = won.1 in
      let claims : List (Option K) = won.2 in
      let carries : won_.1 ≡ (0, Some x) ∷ m.1 = ap (λ (z : Sat H K). z.1) won.3 in
      let same : Some x ≡ r = ap first_slot (sym carries ∙ out) in
      let none_left : rest won_.1 ≡ [] = ap rest carries ∙ empty in
      let own = won.4 key live in
      subst (λ (o : Option (Queue H K)). MatchOption o Z (λ z. HasTakenTurn key m n z)) same (record {
        whole = whole;
        claims = claims;
        me = left ∙ ((λ i. ((won.3 i).0, (0, None) ∷ rest won_.1)) ∙ (λ i. (taking m.0 whole claims x, (0, None) ∷ none_left i)));
        own = own.0;
        spans = own.1;
        extends = won.5;
        knows = won.6;
      })
