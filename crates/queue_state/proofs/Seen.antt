-- What contracts see of the room and of the live messages.
use Rattle.std.proofs.Common.{◌≡◌, ◌+◌, ℕ, Bool, true, List, length, sym, ap, ◌∙◌, arith, if◌then◌else◌}
use Rattle.std.specs.Prelude.{Option, not, ◌&&◌, ◌||◌, is_some}
use Rattle.std.specs.List.{list_any}
use Rattle.loop_model.specs.declared.post.Filter.{Filter}
use Rattle.loop_model.specs.declared.entry.Entry.{Entry}
use Rattle.loop_model.specs.declared.base.Base.{Base}
use Rattle.loop_model.specs.Items.{matches}
use Rattle.loop_model.specs.Live.{live_in_order}
use Rattle.loop_model.specs.Answers.{Setting, quit_place, has_disposed, has_halted}
use Rattle.loop_model.specs.Chain.{after}
use Rattle.loop_model.proofs.FirstLaws.{list_any-listed}
use Rattle.message_slot.specs.Letter.{Letter}
use Rattle.when_queue.specs.Queue.{is_named}
use Rattle.queue_state.specs.declared.history.History.{History}
use Rattle.queue_state.specs.History.{owed}
use Rattle.queue_state.specs.Queue.{has_match, spare_room}
use Rattle.queue_state.specs.Kept.{IsHistory, IsKept, view_of}
use Rattle.queue_state.proofs.Histories.{live_is, quit_is}
use Rattle.queue_state.proofs.Looking.{any_items}
use Rattle.when_queue.proofs.Lists.{length-items}

disposed_is : (s : Setting) (start : Base) (es : List Entry) (b : Base) → IsHistory s start es b → has_disposed start es ≡ b.disposed
unfolding after
disposed_is s start es b h = sym (ap (λ (b : Base). b.disposed) h.left)

halted_is : (s : Setting) (start : Base) (es : List Entry) (b : Base) → IsHistory s start es b → has_halted start es ≡ b.halted
unfolding after
halted_is s start es b h = sym (ap (λ (b : Base). b.halted) h.left)

pub second_true : (a b : Bool) → b ≡ true → a || b ≡ true
second_true a b e = grind arith

-- the room of a queue that is main or not, with so many items
abbrev room_of : Bool → ℕ → Option ℕ → Bool → Bool → ℕ
room_of main n quit disposed halted = n + ((if is_some quit then 0 else 1) + (if disposed then 0 else 1) + (if main && not halted then 1 else 0))

module _ {H K : Type 0} where
  pub spare_is : {R : Type 0} (of : K → H) (home : H) (h : History R) (xs : List (Letter K)) (b w : Bool) (d : Option ℕ) → IsKept of home h xs b w d → spare_room (view_of home h xs b w d) ≡ length xs + owed h
  spare_is of home h xs b w d k =
      let es = h.entries.items in
      let live : length (live_in_order h.start es) ≡ length xs = ap length (sym (live_is _ _ _ _ k.history)) ∙ length-items xs in
      let quit : quit_place h.start es ≡ h.counters.quit = quit_is _ _ _ _ k.history in
      let disposed : has_disposed h.start es ≡ h.counters.disposed = disposed_is _ _ _ _ k.history in
      let halted : has_halted h.start es ≡ h.counters.halted = halted_is _ _ _ _ k.history in
      ap (λ n. room_of h.main n (quit_place h.start es) (has_disposed h.start es) (has_halted h.start es)) live
      ∙ (ap (λ q. room_of h.main (length xs) q (has_disposed h.start es) (has_halted h.start es)) quit
      ∙ (ap (λ e. room_of h.main (length xs) h.counters.quit e (has_halted h.start es)) disposed ∙ ap (λ e. room_of h.main (length xs) h.counters.quit h.counters.disposed e) halted))

  pub match_is : {R : Type 0} (of : K → H) (home : H) (h : History R) (xs : List (Letter K)) (b w : Bool) (d : Option ℕ) (f : Filter) → IsKept of home h xs b w d → list_any (is_named f) xs ≡ has_match (view_of home h xs b w d) f
  match_is of home h xs b w d f k =
      any_items (matches f) xs ∙ (ap (list_any (matches f)) (live_is _ _ _ _ k.history) ∙ sym (list_any-listed (matches f) h.start h.entries.items))
