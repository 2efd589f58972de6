-- A queue whose entries were handed out.
use Rattle.std.proofs.Common.{◌≡◌, ◌+◌, ℕ, Bool, true, List, [], length, sym, ap, ◌∙◌, subst, arith}
use Rattle.std.specs.Prelude.{Option, Result, Ok, Err, IfOk, OnOk, OnErr}
use Rattle.loop_model.specs.declared.item.Item.{Item}
use Rattle.loop_model.specs.declared.base.Base.{Base}
use Rattle.loop_model.specs.declared.segment.Segment.{Segment}
use Rattle.loop_model.specs.declared.memory.NoMemory.{NoMemory}
use Rattle.loop_model.specs.Listed.{listed_sleep}
use Rattle.message_slot.specs.Letter.{Letter}
use Rattle.when_queue.specs.Queue.{items_of}
use Rattle.queue_state.specs.declared.history.History.{History}
use Rattle.queue_state.specs.History.{left_by, owed, HasSealed}
use Rattle.queue_state.specs.Queue.{sealed}
use Rattle.queue_state.specs.Calls.{Seals}
use Rattle.queue_state.specs.Kept.{IsHistory, IsKept, setting_of, view_of}
use Rattle.queue_state.proofs.Histories.{seals}
use Rattle.when_queue.proofs.Lists.{length-items}

-- what has been left stays
sealed_left : {R : Type 0} (h new : History R) (q : List Item) → HasSealed h new q → left_by new q ≡ left_by h q
sealed_left {R = R} h new q s =
    let none : length new.entries.items ≡ 0 = ap length s.entries in
    let start : new.start ≡ left_by h q = ap (λ (n : History R). n.start) s.same in
    let long : new.start.length + length new.entries.items ≡ h.start.length + length h.entries.items = omega (arith, ap (λ (b : Base). b.length) start, none) in
    ap (λ (n : History R). record (left_by n q) { length = new.start.length + length new.entries.items }) s.same ∙ ap (λ n. record (left_by h q) { length = n }) long

module _ {H K : Type 0} where
  pub sealed_kept : {R : Type 0} (of : K → H) (home : H) (h new : History R) (xs : List (Letter K)) (b w : Bool) (d : Option ℕ) → IsKept of home h xs b w d → HasSealed h new (items_of xs) → IsKept of home new xs b w d
  sealed_kept {R = R} of home h new xs b w d k s =
      let q : List Item = items_of xs in
      let none : length new.entries.items ≡ 0 = ap length s.entries in
      let start : new.start ≡ left_by h q = ap (λ (n : History R). n.start) s.same in
      let length_is : new.start.length ≡ h.start.length + length h.entries.items = ap (λ (b : Base). b.length) start in
      let owes : owed new ≡ owed h = ap owed s.same in
      let long : length q ≡ length xs = length-items xs in
      let bound = k.room.bound in
      let capacity = s.capacity in
      let setting : setting_of new ≡ setting_of h = ap setting_of s.same in
      record {
        history = subst (λ b. IsHistory (setting_of new) new.start new.entries.items b) (sym (sealed_left h new q s))
            (subst (λ l. IsHistory (setting_of new) new.start l (left_by h q)) (sym s.entries)
            (subst (λ z. IsHistory (setting_of new) z [] (left_by h q)) (sym start)
            (subst (λ z. IsHistory z (left_by h q) [] (left_by h q)) (sym setting) (seals (setting_of h) h.start h.entries.items (left_by h q) k.history))));
        room = record { room = omega arith; bound = omega arith };
        homes = k.homes;
        sleep = subst (λ l. listed_sleep b w d l ≡ true) (sym (sealed_left h new q s)) k.sleep;
      }

  pub sealed_view : {R : Type 0} (of : K → H) (home : H) (h new : History R) (xs : List (Letter K)) (b w : Bool) (d : Option ℕ) → IsKept of home h xs b w d → HasSealed h new (items_of xs) → view_of home new xs b w d ≡ sealed (view_of home h xs b w d)
  sealed_view {R = R} of home h new xs b w d k s =
      let setting = ap setting_of s.same in
      let start = ap (λ (n : History R). n.start) s.same ∙ k.history.left in
      λ i. record { home = home; setting = setting i; start = start i; entries = s.entries i; messages = xs; blocked = b; woken = w; deadline = d }

  -- by the answer of a sealing
  pub sealing_kept : {R : Type 0} (of : K → H) (home : H) (h new : History R) (xs : List (Letter K)) (b w : Bool) (d : Option ℕ) (items : List Item) (r : Result Segment NoMemory) → IsKept of home h xs b w d → items ≡ items_of xs
      → OnOk r (HasSealed h new items) → OnErr r (new ≡ h) → IsKept of home new xs b w d
  sealing_kept of home h new xs b w d items (Ok p) k is done none = sealed_kept of home h new xs b w d k (subst (HasSealed h new) is done)
  sealing_kept {R = R} of home h new xs b w d items (Err e) k is done none = subst (λ (n : History R). IsKept of home n xs b w d) (sym none) k

  pub sealing_is : {R : Type 0} (of : K → H) (home : H) (h new : History R) (xs : List (Letter K)) (b w : Bool) (d : Option ℕ) (items : List Item) (r : Result Segment NoMemory) → IsKept of home h xs b w d → items ≡ items_of xs
      → IfOk r (λ p. p ≡ record { base = h.start; entries = h.entries.items }) → OnOk r (HasSealed h new items) → OnErr r (new ≡ h) → Seals (view_of home h xs b w d) r (view_of home new xs b w d)
  sealing_is of home h new xs b w d items (Ok p) k is part done none = (part, sealed_view of home h new xs b w d k (subst (HasSealed h new) is done))
  sealing_is {R = R} of home h new xs b w d items (Err e) k is part done none = ap (λ (n : History R). view_of home n xs b w d) none
