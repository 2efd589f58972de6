-- The dispatches that the journals tell are those that the records' histories have.
use Rattle.std.proofs.Common.{◌≡◌, ◌<◌, ◌+◌, ℕ, suc, List, [], ◌∷◌, length, sym, ap, ◌∙◌, arith, slice_index_or}
use Rattle.std.specs.List.{filter_map}
use Rattle.run_model.specs.Planned.{history_of, entries_by, looper_sender}
use Rattle.loop_model.specs.declared.entry.Entry.{Entry}
use Rattle.loop_model.specs.declared.journal.Journal.{Journal}
use Rattle.loop_model.specs.declared.record.QueueRecord.{QueueRecord}
use Rattle.loop_model.specs.Dispatches.{act_dispatch, call_dispatch}
use Rattle.frame_phases.specs.declared.entry.FrameRecord.{FrameRecord}
use Rattle.dash_script.specs.declared.script.Script.{Script}
use Rattle.run_model.specs.Run.{EachLooper}
use Rattle.dash_hall.specs.declared.hall.Hall.{Hall}
use Rattle.dash_hall.specs.declared.kit.Kit.{Kit}
use Rattle.dash_hall.specs.Growth.{own}
use Rattle.dash_hall.specs.Kits.{badge_of, badge_for, IsHall, AreKitsOf}
use Rattle.dash_loopers.specs.Loopers.{HaveTold}
use Rattle.dash_stage.specs.Records.{AreOfLoopers, AreJournals, HaveAll}
use Rattle.dash_hall.proofs.Badges.{alike_length, queue_count, poster_at}
use Rattle.dash_stage.proofs.Ends.HallEnds.{some_of}
use Rattle.dash_stage.proofs.Ends.Carried.{numbered_count}
use Rattle.dash_loopers.proofs.LooperTold.{taken_own}

-- what holds at each place holds of each looper
pub each_looper : (P : QueueRecord → Journal → FrameRecord → Type 0) (qs : List QueueRecord) (js : List Journal) (fs : List FrameRecord) → length js ≡ length qs → length fs ≡ length qs
    → ((k : ℕ) (q : QueueRecord) (j : Journal) (f : FrameRecord) → k < length qs → P (slice_index_or qs k q) (slice_index_or js k j) (slice_index_or fs k f)) → EachLooper P qs js fs
each_looper P [] [] [] a b at = tt
each_looper P (q ∷ qs) (j ∷ js) (f ∷ fs) a b at = (at 0 q j f (omega arith), each_looper P qs js fs (omega (arith, a)) (omega (arith, b)) (λ k x y z lt. at (suc k) x y z (omega (arith, lt))))
each_looper P [] (j ∷ js) fs a b at = absurd (omega (arith, a))
each_looper P [] [] (f ∷ fs) a b at = absurd (omega (arith, b))
each_looper P (q ∷ qs) [] fs a b at = absurd (omega (arith, a))
each_looper P (q ∷ qs) (j ∷ js) [] a b at = absurd (omega (arith, b))

module _ (s : Script) (hall : Hall) (h : IsHall s hall) (kits : List Kit) (are : AreKitsOf s hall kits) where
  -- each journal tells what its looper took from its queue
  pub dispatches_of_records : (queues : List QueueRecord) (js : List Journal) → AreOfLoopers s queues → HaveAll kits queues → AreJournals s js → HaveTold s js kits
      → (k : ℕ) (q : QueueRecord) (j : Journal) → k < length queues
      → filter_map act_dispatch (slice_index_or js k j).acts ≡ filter_map (λ e. call_dispatch e.call e.reply) (entries_by (looper_sender s k) (history_of (slice_index_or queues k q)))
  dispatches_of_records queues js loopers all are_js told k q j lt =
      let few = numbered_count (λ (z : QueueRecord). z.looper) s.loopers queues loopers in
      let few_js = numbered_count (λ (z : Journal). z.looper) s.loopers js are_js in
      let count = are.count in
      let n : ℕ = s.threads + k in
      let in_kits : n < length kits = omega (arith, lt, few, count) in
      let d = some_of kits n in_kits in
      let kit = slice_index_or kits n d in
      let badges = (are.each n d in_kits).posters in
      let long = alike_length badge_of (badge_for n) kit.posters.items hall.queues.items badges ∙ queue_count hall.lockstep s hall.pool hall.queues.items h.queues in
      let in_posters : k < length kit.posters.items = omega (arith, lt, few, long) in
      let p = some_of kit.posters.items k in_posters in
      let poster = slice_index_or kit.posters.items k p in
      let in_queues : k < length hall.queues.items = omega (arith, lt, few, queue_count hall.lockstep s hall.pool hall.queues.items h.queues) in
      let sender = (poster_at n hall.queues.items kit.posters.items badges k p (some_of hall.queues.items k in_queues) in_posters).1 in
      let made : entries_by n (history_of (slice_index_or queues k q)) ≡ own poster = (all n k d p q in_kits lt).0 in
      let in_js : k < length js = omega (arith, lt, few, few_js) in
      told k j d in_js p
      ∙ (taken_own n poster.view.seen
      ∙ ap (filter_map (λ (e : Entry). call_dispatch e.call e.reply)) (ap (λ (m : ℕ). entries_by m poster.view.seen) (sym sender) ∙ sym made))
