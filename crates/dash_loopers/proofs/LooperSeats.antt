-- A looper's own poster among those of the other queues.
use Rattle.std.proofs.Common.{◌≡◌, ◌≢◌, ℕ, ◌+◌, ◌-◌, ◌<◌, ◌≤◌, ◌⊎◌, inl, inr, List, length, set, get_or, Option, Some, refl, sym, ap, ◌∙◌, subst, arith}
use Rattle.std.specs.List.{insert}
use Rattle.std.proofs.lemmas.List.{get_or-set_same, get_or-set_other, length-set, same_lists}
use Rattle.std.proofs.lemmas.List.Edits.{length-insert, get_or-insert_at, get_or-insert_below, get_or-insert_above}
use Rattle.std.proofs.lemmas.Bool.{cases_lt}
use mathlib.Core.Logic.{dite}
use native.Mathlib.Decide.{ℕ_discrete}
use Rattle.atomic_table.specs.Seated.{TableId}
use Rattle.loop_model.specs.declared.entry.Entry.{Entry}
use Rattle.shared_queue.specs.Known.{Shared, IsOf}
use Rattle.looper_run.specs.Holding.{Sender, Looping}
use Rattle.dash_loopers.specs.declared.player.Parts.{Parts}
use Rattle.dash_loopers.specs.declared.looper.StageLooper.{StageLooper}
use Rattle.dash_loopers.specs.Players.{PlaceWithout}
use Rattle.dash_hall.specs.Hearing.{HasHeard, HaveHeardAt, AreReady}
use Rattle.dash_loopers.specs.Loopers.{others_in, posters_of, IsWithin}
use Rattle.dash_hall.proofs.Hearing.{heard_at, ready_is}

-- another place than the one at n has a place without that one
pub its_place : (n place : ℕ) → place ≢ n → (j : ℕ) × PlaceWithout n place j
its_place n place not = by_order (cases_lt place n) where
  by_order : (place < n) ⊎ (n ≤ place) → (j : ℕ) × PlaceWithout n place j
  by_order (inl lt) = (place, inl (lt, refl))
  by_order (inr le) = dite (ℕ_discrete place n) (λ e. absurd (not e)) (λ apart. (place - 1, inr (omega arith, omega arith)))

-- two places have two places without the one at n
pub places_apart : (n a b i j : ℕ) → PlaceWithout n a i → PlaceWithout n b j → a ≢ b → i ≢ j
places_apart n a b i j (inl p) (inl q) not = λ e. not (sym p.1 ∙ (e ∙ q.1))
places_apart n a b i j (inl p) (inr q) not = λ e. (let lt : a < n = p.0 in let x : i ≡ a = p.1 in let gt : n < b = q.0 in let y : b ≡ j + 1 = q.1 in omega (arith, e))
places_apart n a b i j (inr p) (inl q) not = λ e. (let gt : n < a = p.0 in let x : a ≡ i + 1 = p.1 in let lt : b < n = q.0 in let y : j ≡ b = q.1 in omega (arith, e))
places_apart n a b i j (inr p) (inr q) not = λ e. not (p.1 ∙ (ap (λ (k : ℕ). k + 1) e ∙ sym q.1))

module _ {X : Type 0} (xs : List X) (n : ℕ) (le : n ≤ length xs) where
  -- one of the others, by its place among all
  pub at_other : (y d : X) (place j : ℕ) → PlaceWithout n place j → get_or (insert xs n y) place d ≡ get_or xs j d
  at_other y d place j (inl p) = get_or-insert_below xs n y d place p.0 le ∙ ap (λ (k : ℕ). get_or xs k d) (sym p.1)
  at_other y d place j (inr p) =
      let lt : n < place = p.0 in
      let is : place ≡ j + 1 = p.1 in
      ap (λ (k : ℕ). get_or (insert xs n y) k d) is ∙ get_or-insert_above xs n y d j (omega arith) le

  -- its place among the others is one of them
  pub within_others : (y : X) (place j : ℕ) → PlaceWithout n place j → place < length (insert xs n y) → j < length xs
  within_others y place j (inl p) near = (let lt : place < n = p.0 in let is : j ≡ place = p.1 in omega (arith, le))
  within_others y place j (inr p) near = (let long = length-insert xs n y le in let is : place ≡ j + 1 = p.1 in omega (arith, long, near))

  -- another one in the place of that at n
  set_own : (y z : X) → set (insert xs n y) n z ≡ insert xs n z
  set_own y z = same_lists (set (insert xs n y) n z) (insert xs n z) (length-set (insert xs n y) n z ∙ (length-insert xs n y le ∙ sym (length-insert xs n z le)))
      (λ k d near. dite (ℕ_discrete k n)
      (λ e. subst (λ (m : ℕ). get_or (set (insert xs n y) n z) m d ≡ get_or (insert xs n z) m d) (sym e)
      (get_or-set_same (insert xs n y) n z d (omega (arith, length-insert xs n y le, le)) ∙ sym (get_or-insert_at xs n z d le)))
      (λ not. (let w = its_place n k not in get_or-set_other (insert xs n y) n k z d not ∙ (at_other y d k w.0 w.1 ∙ sym (at_other z d k w.0 w.1)))))

-- another one in the place of one beside that at n
set_other : {X : Type 0} (xs : List X) (n : ℕ) → n ≤ length xs → (y z : X) (place j : ℕ) → PlaceWithout n place j → j < length xs → set (insert xs n z) place y ≡ insert (set xs j y) n z
set_other xs n le y z place j w lt =
    let le' : n ≤ length (set xs j y) = omega (arith, length-set xs j y, le) in
    same_lists (set (insert xs n z) place y) (insert (set xs j y) n z)
    (length-set (insert xs n z) place y ∙ (length-insert xs n z le ∙ (ap (λ (k : ℕ). k + 1) (sym (length-set xs j y)) ∙ sym (length-insert (set xs j y) n z le'))))
    (λ k d near.
    let near' : k < length (insert xs n z) = omega (arith, near, length-set (insert xs n z) place y) in
    dite (ℕ_discrete k place)
    (λ e. subst (λ (m : ℕ). get_or (set (insert xs n z) place y) m d ≡ get_or (insert (set xs j y) n z) m d) (sym e)
    (get_or-set_same (insert xs n z) place y d (subst (λ (m : ℕ). m < length (insert xs n z)) e near')
    ∙ sym (at_other (set xs j y) n le' z d place j w ∙ get_or-set_same xs j y d lt)))
    (λ not. get_or-set_other (insert xs n z) place k y d not ∙ dite (ℕ_discrete k n)
    (λ e. subst (λ (m : ℕ). get_or (insert xs n z) m d ≡ get_or (insert (set xs j y) n z) m d) (sym e)
    (get_or-insert_at xs n z d le ∙ sym (get_or-insert_at (set xs j y) n z d le')))
    (λ apart. (let v = its_place n k apart in
    at_other xs n le z d k v.0 v.1 ∙ (sym (get_or-set_other xs j v.0 y d (places_apart n k place v.0 j v.1 w not)) ∙ sym (at_other (set xs j y) n le' z d k v.0 v.1))))))

-- the own poster heard others
own_heard : (others : List Sender) (n : ℕ) (p q : Sender) (whole : List Entry) → n ≤ length others → HasHeard p q → q.view.seen ≡ whole → HaveHeardAt n whole (insert others n p) (insert others n q)
own_heard others n p q whole le h e =
    subst (λ (l : List Sender). HaveHeardAt n whole (insert others n p) l) (set_own others n le p q)
    (heard_at (insert others n p) n p q whole (omega (arith, length-insert others n p le, le)) (sym (get_or-insert_at others n p p le)) h e)

-- one of the others did
other_heard : (others : List Sender) (n : ℕ) (mine : Sender) (place j : ℕ) (p q : Sender) (whole : List Entry) → n ≤ length others → PlaceWithout n place j → place < length (insert others n mine) → p ≡ get_or others j p → HasHeard p q → q.view.seen ≡ whole → HaveHeardAt place whole (insert others n mine) (insert (set others j q) n mine)
other_heard others n mine place j p q whole le w near is h e =
    subst (λ (l : List Sender). HaveHeardAt place whole (insert others n mine) l) (set_other others n le q mine place j w (within_others others n le mine place j w near))
    (heard_at (insert others n mine) place p q whole near (is ∙ sym (at_other others n le mine p place j w)) h e)

-- a looper's own poster as one of all
own_is : (l : StageLooper) → IsWithin l → l.looper.held.poster ≡ get_or (posters_of l) l.number l.looper.held.poster
own_is l le = sym (get_or-insert_at (others_in l.parts) l.number l.looper.held.poster l.looper.held.poster le)

-- the same by the queue's place
pub own_at : (l : StageLooper) (place : ℕ) → IsWithin l → place ≡ l.number → l.looper.held.poster ≡ get_or (posters_of l) place l.looper.held.poster
own_at l place le at = subst (λ (n : ℕ). l.looper.held.poster ≡ get_or (posters_of l) n l.looper.held.poster) (sym at) (own_is l le)

-- it is one of the queue at its place
pub own_ready : (l : StageLooper) (place : ℕ) (queue : Shared TableId) → AreReady place queue (posters_of l) → IsWithin l → place ≡ l.number → IsOf l.looper.held.poster queue
own_ready l place queue ready le at = ready_is (posters_of l) place l.looper.held.poster queue ready (own_at l place le at)

-- one of the others as one of all
pub other_is : (l : StageLooper) (parts : Parts) (place j : ℕ) (p : Sender) → IsWithin l → l.parts ≡ Some parts → PlaceWithout l.number place j → p ≡ get_or parts.others.items j p → p ≡ get_or (posters_of l) place p
other_is l parts place j p le e w is =
    is ∙ (ap (λ (o : Option Parts). get_or (others_in o) j p) (sym e) ∙ sym (at_other (others_in l.parts) l.number le l.looper.held.poster p place j w))

-- a looper whose own poster heard others
pub looper_own_heard : (l : StageLooper) (place : ℕ) (k : Looping) (whole : List Entry) → IsWithin l → place ≡ l.number → HasHeard l.looper.held.poster k.held.poster → k.held.poster.view.seen ≡ whole → HaveHeardAt place whole (posters_of l) (insert (others_in l.parts) l.number k.held.poster)
looper_own_heard l place k whole le at h e =
    subst (λ (n : ℕ). HaveHeardAt n whole (posters_of l) (insert (others_in l.parts) l.number k.held.poster)) (sym at)
    (own_heard (others_in l.parts) l.number l.looper.held.poster k.held.poster whole le h e)

-- a looper one of whose other posters did
pub looper_other_heard : (l : StageLooper) (parts : Parts) (place j : ℕ) (p q : Sender) (whole : List Entry) → IsWithin l → l.parts ≡ Some parts → PlaceWithout l.number place j → place < length (posters_of l) → p ≡ get_or parts.others.items j p → HasHeard p q → q.view.seen ≡ whole
    → HaveHeardAt place whole (posters_of l) (insert (set parts.others.items j q) l.number l.looper.held.poster)
looper_other_heard l parts place j p q whole le e w near is h seen =
    subst (λ (o : Option Parts). HaveHeardAt place whole (posters_of l) (insert (set (others_in o) j q) l.number l.looper.held.poster)) e
    (other_heard (others_in l.parts) l.number l.looper.held.poster place j p q whole le w near (subst (λ (o : Option Parts). p ≡ get_or (others_in o) j p) (sym e) is) h seen)
