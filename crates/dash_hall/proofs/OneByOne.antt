-- Senders of one kind, of which each is told of a poster, or hears it, one after the other.
use Rattle.std.proofs.Common.{◌≡◌, ℕ, ◌+◌, ◌<◌, ◌≤◌, List, length, set, get_or, sym, ◌∙◌, subst, arith}
use Rattle.loop_model.specs.declared.entry.Entry.{Entry}
use Rattle.looper_run.specs.Holding.{Sender}
use Rattle.dash_hall.specs.Hearing.{HasHeard, AtEach, AreKnown}
use Rattle.dash_hall.proofs.Hearing.{known_more, heard_then}
use Rattle.dash_hall.proofs.Sharing.{FirstAre, next_within, first_more, first_all, first_weaker, each_weaker}

-- a sender that is kept, and whose poster at this place is known
pub record Tells {X : Type 0} (posters : X → List Sender) (Keeps : X → X → Type 0) (place : ℕ) (whole : List Entry) (before after : X) : Type 0 where
  pub kept : Keeps before after
  pub told : AreKnown place whole (posters before)

module _ {X : Type 0} (posters : X → List Sender) where
  -- what holds of the posters of each before holds of those of each after
  pub of_then : (K : X → X → Type 0) (P Q : List Sender → Type 0) → ((x y : X) → K x y → P (posters x) → Q (posters y)) → (xs ys : List X) → AtEach K xs ys
      → ((k : ℕ) (d : X) → k < length xs → P (posters (get_or xs k d))) → (k : ℕ) (d : X) → k < length ys → Q (posters (get_or ys k d))
  of_then K P Q h xs ys e of k d lt =
      let long = e.long in
      let within : k < length xs = omega (arith, lt) in
      h (get_or xs k d) (get_or ys k d) (e.each k d within) (of k d within)

  -- the next one's poster is known to one that is as it was
  pub known_next : (R : X → X → Type 0) (place : ℕ) (xs ys : List X) (k : ℕ) (e : X) (a b : Sender) → ((j : ℕ) (d : X) → j < length xs → AreKnown place a.view.seen (posters (get_or xs j d)))
      → FirstAre R k xs ys × (b ≡ a) → k < length ys → AreKnown place b.view.seen (posters (get_or ys k e))
  known_next R place xs ys k e a b known at lt =
      subst (λ (o : Sender). AreKnown place o.view.seen (posters (get_or ys k e))) (sym at.1)
      (subst (λ (x : X). AreKnown place a.view.seen (posters x)) (sym (at.0.rest k e (omega arith))) (known k e (next_within R xs ys k at.0 lt)))

  module _ (Keeps : X → X → Type 0) (place : ℕ) (xs ys : List X) (k : ℕ) where
    -- the next one told the poster what it had seen
    pub told_next : (e y : X) (a b c : Sender) → FirstAre (Tells posters Keeps place b.view.seen) k xs ys × HasHeard a b → k < length ys → HasHeard b c
        → Keeps (get_or ys k e) y → AreKnown place c.view.seen (posters (get_or ys k e)) → FirstAre (Tells posters Keeps place c.view.seen) (k + 1) xs (set ys k y) × HasHeard a c
    told_next e y a b c at lt heard kept told =
        let was = b.view.seen in
        let is = c.view.seen in
        let tells = first_weaker (Tells posters Keeps place was) (Tells posters Keeps place is) xs ys k
        (λ x x' t. record { kept = t.kept; told = known_more (posters x) place was is heard.more t.told }) at.0 in (
          first_more (Tells posters Keeps place is) xs ys k e y tells lt (record { kept = kept; told = told }),
          heard_then a b c at.1 heard,
        )

    -- all told it
    pub all_told : (whole : List Entry) → length xs ≤ k → FirstAre (Tells posters Keeps place whole) k xs ys
        → AtEach Keeps xs ys × ((j : ℕ) (d : X) → j < length xs → AreKnown place whole (posters (get_or xs j d)))
    all_told whole all told =
        let tells = Tells posters Keeps place whole in
        let each = first_all tells xs ys k all told in
        (each_weaker tells Keeps xs ys (λ x y t. t.kept) each, λ j d lt. (each.each j d lt).told)

-- the next one heard a poster, which is as it was
pub heard_next : {X : Type 0} (Keeps : List Entry → X → X → Type 0) (xs ys : List X) (k : ℕ) (e y : X) (a b c : Sender) → FirstAre (Keeps a.view.seen) k xs ys × (b ≡ a) → k < length ys
    → Keeps b.view.seen (get_or ys k e) y → c ≡ b → FirstAre (Keeps a.view.seen) (k + 1) xs (set ys k y) × (c ≡ a)
heard_next Keeps xs ys k e y a b c at lt kept same =
    (first_more (Keeps a.view.seen) xs ys k e y at.0 lt (subst (λ (o : Sender). Keeps o.view.seen (get_or ys k e) y) at.1 kept), same ∙ at.1)
