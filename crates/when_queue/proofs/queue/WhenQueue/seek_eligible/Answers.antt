use Rattle.std.proofs.Common.{◌≡◌, ◌≤◌, List, sym, ◌∙◌, subst, length, arith}
use Rattle.std.specs.List.{position_or_len}
use Rattle.loop_model.specs.Items.{is_asynchronous}
use Rattle.loop_model.specs.Listed.{first_index}
use Rattle.message_slot.specs.Letter.{Letter}
use Rattle.when_queue.specs.Queue.{IsRising, items_of}
use Rattle.when_queue.specs.Tally.{IsTallied}
use Rattle.when_queue.specs.First.{place_within}
use Rattle.when_queue.proofs.Lists.{index_plain, index_fenced}
use Rattle.when_queue.proofs.queue.WhenQueue.seek_eligible.Goals as goal

pub found_at-requires-after_bounds : goal.found_at-requires-after_bounds
found_at-requires-after_bounds g c κs within = index_plain c.self.inside.list (sym c.is_fenced.ensures ∙ c.if-not-is_fenced.true)

pub found_at-requires-2-after_bounds : goal.found_at-requires-2-after_bounds
found_at-requires-2-after_bounds g c κs within =
    let place = index_fenced c.self.inside.list c.seek_behind-place.result (sym c.is_fenced.ensures ∙ c.if-not-is_fenced.false) c.seek_behind-place.ensures.index in
    subst (λ (l : List (Letter g.row.K.Denot)). first_index (items_of l) ≡ place_within c.seek_behind-place.result (length l)) (sym c.seek_behind-place.ensures.same) place

pub invariant_of-self : goal.invariant_of-self
invariant_of-self g c =
    let same = c.seek_behind-place.ensures.same in
    let at : c.seek_behind-place.result ≡ position_or_len (λ m. is_asynchronous m.item) c.self.inside.list = c.seek_behind-place.ensures.index in
    let low : c.seek_behind-place.result ≤ position_or_len (λ m. is_asynchronous m.item) c.self.inside.list = omega arith in (
      subst IsRising (sym same) c.self.invariant.0,
      subst (IsTallied c.self.inside.tally.whats.items c.self.inside.tally.callbacks.items) (sym same) c.self.invariant.1,
      subst (λ (l : List (Letter g.row.K.Denot)). c.seek_behind-place.result ≤ position_or_len (λ m. is_asynchronous m.item) l) (sym same) low,
    )
