-- A stage stays in step where the threads run a block, and where the controller takes its turns.
use Rattle.std.proofs.Common.{◌≡◌, ◌<◌, ◌≤◌, ◌⊎◌, inl, inr, ℕ, Bool, true, false, true≢false, max, List, [], ◌∷◌, ◌++◌, length, Option, Some, None, refl, sym, ap, ◌∙◌, subst, arith}
use Rattle.std.specs.Prelude.{slice_index_or, is_some, nat_le}
use Rattle.std.specs.Option.{option_and_then}
use Rattle.std.proofs.lemmas.Bool.{cases_Bool, leb-true}
use mathlib.Core.List.{IsPrefix}
use mathlib.Core.Logic.{dite}
use native.Mathlib.Decide.{dec_lt}
use Rattle.loop_model.specs.declared.call.Call.{Call}
use Rattle.loop_model.specs.declared.call.Call.TheVariants.{Post, Barrier, Unbarrier, Remove, Quit, Next, Advance, Halt}
use Rattle.loop_model.specs.declared.base.Base.{Base}
use Rattle.loop_model.specs.declared.entry.Entry.{Entry}
use Rattle.loop_model.specs.declared.item.Item.{Item}
use Rattle.loop_model.specs.Base.{empty_base}
use Rattle.loop_model.specs.Entries.{moment_of}
use Rattle.loop_model.specs.Items.{when_of}
use Rattle.loop_model.specs.Pick.{first_eligible, pick, due}
use Rattle.loop_model.specs.Answers.{clock, has_disposed, is_over}
use Rattle.loop_model.specs.Legal.{IsLegal, AreNumbered, CallFitsTime}
use Rattle.loop_model.proofs.AfterLaws.{clock-snoc, disposed_stays}
use Rattle.loop_model.proofs.LegalLaws.{IsLegal-last}
use Rattle.dash_script.specs.declared.script.Script.{Script}
use Rattle.looper_run.specs.Holding.{Sender}
use Rattle.looper_run.specs.Round.{is_ended}
use Rattle.run_model.specs.Planned.{entries_by, controller, sender_count}
use Rattle.run_model.specs.Control.{is_advance, is_none_before, come_first}
use Rattle.run_model.specs.Parts.{is_threads}
use Rattle.dash_loopers.specs.declared.looper.StageLooper.{StageLooper}
use Rattle.dash_loopers.specs.Loopers.{IsSoundOn, setting_for, LooperKeeps}
use Rattle.dash_hall.specs.Hearing.{AtEach, HaveHeard}
use Rattle.dash_hall.specs.Kits.{AreUnseen}
use Rattle.dash_stage.specs.declared.control.Controller.{Controller}
use Rattle.dash_stage.specs.declared.stage.Stage.{Stage}
use Rattle.dash_stage.specs.Controllers.{are_advances, time_in, calls_on}
use Rattle.dash_stage.specs.Stages.{IsStage}
use Rattle.dash_stage.specs.Sharing.{HaveSeenTheSame}
use Rattle.dash_stage.specs.Timeliness.{whole_on, AreSound, HasNoneBefore, MovesTo, MovesNot, HaveReachedTime}
use Rattle.dash_stage.specs.AtBlocks.{IsAtBlock}
use Rattle.dash_stage.specs.Playing.{AreAtBlock, LiesAhead, CallsCameFirst, IsInTime, AreInTime, IsInStep, IsStuck}
use Rattle.dash_stage.proofs.Controller.Controls.{time_by_controller}
use Rattle.dash_stage.proofs.Stages.Timely.{clock_stays, has_disposed_same, on_time_open, on_time_gone}
use Rattle.run_model.proofs.FreshLaws.{nothing_fresh, fresh_moved}
use Rattle.dash_stage.proofs.BlockTimes.{first_block, first_one, all_threads}
use Rattle.dash_stage.proofs.Ends.HallEnds.{some_of}
use Rattle.dash_stage.proofs.Stages.StageWhole.{queues_count, controller_entries, sound_grown, none_behind, controls_above, moved_is_open, longer, turned_on, turned_left, grown_by_turns, sound_by_turns, over_is_disposed, Turned, MovedOn}
use Rattle.dash_stage.proofs.Stages.StageTurns.{heard_entries, only_threads}
use Rattle.dash_stage.proofs.Played.PlayedStage.{played_kept, sound_before}

-- the calls but an Advance come at the queue's time
moment_not : (time : ℕ) (c : Call) → CallFitsTime true time c → is_advance c ≡ false → moment_of c ≤ time
moment_not time (Post p) timely isnt = omega arith
moment_not time (Barrier now) timely isnt = omega (arith, timely)
moment_not time (Unbarrier t) timely isnt = omega arith
moment_not time (Remove f) timely isnt = omega arith
moment_not time (Quit safe now) timely isnt = omega (arith, timely)
moment_not time (Next now) timely isnt = omega (arith, timely)
moment_not time (Advance now) timely isnt = absurd cc
moment_not time (Halt now) timely isnt = omega (arith, timely)

-- so none of them moves the time
clock_not_moved : (s : Script) (q : ℕ) (es : List Entry) (e : Entry) → IsSoundOn s q (es ++ e ∷ []) → MovesNot e → clock (empty_base (sender_count s)) (es ++ e ∷ []) ≡ clock (empty_base (sender_count s)) es
clock_not_moved s q es e sound isnt =
    let base = empty_base (sender_count s) in
    let le = moment_not (clock base es) e.call (IsLegal-last (setting_for s q) base es e sound.legal).timely isnt in
    let is = clock-snoc base es e in
    omega (arith, le, is)

-- an Advance moves it to its moment
clock_moved : (b : Base) (es : List Entry) (e : Entry) (now : ℕ) → MovesTo now e → clock b (es ++ e ∷ []) ≡ max (clock b es) now
clock_moved b es e now is = clock-snoc b es e ∙ ap (λ c. max (clock b es) (moment_of c)) is

-- where no message stands before a time, none is due before it
none_due : (now time : ℕ) (o : Option Item) → is_none_before time o ≡ true → now < time → is_some (option_and_then (due now) o) ≡ false
none_due now time None none early = refl
none_due now time (Some x) none early = elim (cases_Bool (nat_le (when_of x) now)) [
  | inl le ↦ absurd (let a = leb-true (when_of x) now le in let b = leb-true time (when_of x) none in omega (arith, a, b, early))
  | inr later ↦ rw later refl
]

none_picked : (b : Base) (es : List Entry) (now time : ℕ) → is_none_before time (first_eligible b es) ≡ true → now < time → is_some (pick b es now) ≡ false
unfolding pick
none_picked b es now time none early = none_due now time (first_eligible b es) none early

-- a queue is at the time still where the time stood still
in_time_on : (s : Script) (time now : ℕ) (l l' : StageLooper) (es whole : List Entry) → now ≡ time → IsPrefix es whole → (is_ended l.last ≡ true → is_ended l'.last ≡ true)
    → clock (empty_base (sender_count s)) whole ≡ clock (empty_base (sender_count s)) es → IsInTime s time l es → IsInTime s now l' whole
in_time_on s time now l l' es whole same front ends still (inl at) = inl (still ∙ (at ∙ sym same))
in_time_on s time now l l' es whole same front ends still (inr (ended, (gone, by))) =
    inr (ends ended, (subst (λ w. has_disposed (empty_base (sender_count s)) w ≡ true) front.1 (disposed_stays (empty_base (sender_count s)) es front.0 gone), omega (arith, still, by, same)))

-- what posters have seen that heard others may be only if what they had seen before may be
pub sound_heard : (s : Script) (c c' : Controller) → HaveHeard c.kit.posters.items c'.kit.posters.items → AreSound s c' → AreSound s c
sound_heard s c c' heard = sound_grown s c c' heard.long (λ q d lt. (heard.each q d lt).more)

-- at the start each time lies ahead
pub ahead_of_zero : (time : ℕ) (st : Stage) → st.time ≡ 0 → AreUnseen st.controller.kit.posters.items → LiesAhead time st
ahead_of_zero time st start unseen = dite (dec_lt 0 time)
    (λ later. inl (omega (arith, start, later)))
    (λ none. inr (omega (arith, none), unseen))

-- a time lies ahead still where the stage came to an earlier one
pub ahead_on : (time next : ℕ) (st st' : Stage) → next < time → st'.time ≡ max st.time next → LiesAhead time st → LiesAhead time st'
ahead_on time next st st' earlier now (inl later) = inl (omega (arith, earlier, now, later))
ahead_on time next st st' earlier now (inr (zero, unseen)) = absurd (omega (arith, earlier, zero))

-- ---- the start of a block

-- nobody has called, and the time is 0
nothing_called : (threads time : ℕ) → time ≡ 0 → IsAtBlock threads time []
unfolding clock has_disposed
nothing_called threads time zero = record {
  on_time = on_time_open 0 time [] refl (sym zero);
  fresh = inr (nothing_fresh (is_threads threads));
}

-- the queue was disposed of earlier
gone_before : (senders threads time : ℕ) (es : List Entry) → has_disposed (empty_base senders) es ≡ true → clock (empty_base senders) es < time → IsAtBlock threads time es
gone_before senders threads time es gone earlier = record {
  on_time = on_time_gone senders time es gone earlier;
  fresh = inl (sym (has_disposed_same senders es) ∙ gone);
}

-- the time was moved last
moved_now : (s : Script) (q time : ℕ) (es : List Entry) (e : Entry) → MovesTo time e → IsSoundOn s q (es ++ e ∷ []) → IsAtBlock s.threads time (es ++ e ∷ [])
moved_now s q time es e is sound =
    let base = empty_base (sender_count s) in
    let le = subst (CallFitsTime true (clock base es)) is (IsLegal-last (setting_for s q) base es e sound.legal).timely in
    let at = clock_moved base es e time is in
    record {
      on_time = on_time_open (sender_count s) time (es ++ e ∷ []) (moved_is_open (setting_for s q) (sender_count s) es e time is sound.legal) (omega (arith, at, le));
      fresh = inr (fresh_moved (is_threads s.threads) es e (ap is_advance is));
    }

-- the threads ran a block, which came first
pub block_first : (s : Script) (st st' : Stage) → IsStage s st → IsStage s st' → HaveSeenTheSame st' → AtEach (LooperKeeps HaveHeard) st.loopers.items st'.loopers.items
    → HaveHeard st.controller.kit.posters.items st'.controller.kit.posters.items → IsInStep s st → (time : ℕ) → (AreSound s st.controller → AreAtBlock s time st) → CallsCameFirst s st'
block_first s st st' is is' same' kept heard step time at sound q d lt' =
    let lt : q < length st.controller.kit.posters.items = subst (λ (n : ℕ). q < n) heard.long lt' in
    let set = setting_for s q in
    let base = empty_base (sender_count s) in
    let es = whole_on st.controller q d in
    let whole = whole_on st'.controller q d in
    let front : IsPrefix es whole = (heard.each q d lt).more in
    let was = sound_heard s st.controller st'.controller heard sound in
    let none = only_threads s st st' is is' step.same same' kept heard q d lt in
    let theirs = all_threads set base s.threads es front.0 (subst (AreNumbered set base) (sym front.1) (sound q d lt').numbered) (λ k known above. none_behind k es whole front (none k known above)) in
    subst (λ w. come_first s.threads w ≡ true) front.1 (first_block s.threads es front.0 theirs (at was q d lt).fresh (step.first was q d lt))

-- the controller made one entry, or none
one_first : (s : Script) (P : Entry → Type 0) (es whole : List Entry) → come_first s.threads es ≡ true → (whole ≡ es) ⊎ ((e : Entry) × (whole ≡ es ++ e ∷ []) × P e × (e.sender ≡ controller s)) → come_first s.threads whole ≡ true
one_first s P es whole h (inl stays) = ap (come_first s.threads) stays ∙ h
one_first s P es whole h (inr t) = ap (come_first s.threads) t.1 ∙ first_one s.threads es t.0 (controls_above s t.0 t.3) h

-- the threads ran a block, and then all heard each other
pub block_in_step : (s : Script) (st st' : Stage) → IsStage s st → IsStage s st' → HaveSeenTheSame st' → st'.time ≡ st.time → AtEach (LooperKeeps HaveHeard) st.loopers.items st'.loopers.items
    → HaveHeard st.controller.kit.posters.items st'.controller.kit.posters.items → IsInStep s st → CallsCameFirst s st' → IsInStep s st'
block_in_step s st st' is is' same' now kept heard step first =
    let grown : (q : ℕ) (d : Sender) → q < length st.controller.kit.posters.items → IsPrefix (whole_on st.controller q d) (whole_on st'.controller q d) = λ q d lt. (heard.each q d lt).more in
    let base = empty_base (sender_count s) in
    record {
      same = same';
      played = played_kept s st st' is is' step.same same' kept heard.long grown step.played;
      first = first;
      in_time = λ sound q l d lt'.
          let lt : q < length st.loopers.items = subst (λ (n : ℕ). q < n) kept.long lt' in
          let within : q < length st.controller.kit.posters.items = subst (λ (n : ℕ). q < n) (sym (queues_count s st is)) lt in
          let es = whole_on st.controller q d in
          let whole = whole_on st'.controller q d in
          let front : IsPrefix es whole = grown q d within in
          let here = sound q d (subst (λ (n : ℕ). q < n) (sym heard.long) within) in
          let still = clock_stays (setting_for s q) (controller s) refl refl es front.0 (subst (IsLegal (setting_for s q) base) (sym front.1) here.legal) (subst (AreNumbered (setting_for s q) base) (sym front.1) here.numbered)
          (none_behind (controller s) es whole front (heard_entries s st st' is is' heard q d within)) in
          in_time_on s st.time st'.time (slice_index_or st.loopers.items q l) (slice_index_or st'.loopers.items q l) es whole now front (λ ended. ap is_ended (kept.each q l lt).last ∙ ended)
          (ap (clock base) (sym front.1) ∙ still) (step.in_time (sound_before s st st' is is' step.same same' kept heard.long grown sound) q l d lt);
    }

-- over the controller's turns, after which all heard each other
module _ {P : Entry → Type 0} {s : Script} {st : Stage} {c : Controller} {st' : Stage} (o : Turned true P s st c st') where
  within_turned : (q : ℕ) → q < length st.controller.kit.posters.items → q < length c.kit.posters.items
  within_turned q lt = subst (λ (m : ℕ). q < m) (sym o.turns.long) lt

  in_turned : (q : ℕ) → q < length st'.loopers.items → (q < length st.loopers.items) × (q < length st.controller.kit.posters.items)
  in_turned q lt' =
      let lt : q < length st.loopers.items = subst (λ (n : ℕ). q < n) o.loopers.long lt' in
      (lt, subst (λ (n : ℕ). q < n) (sym (queues_count s st o.is)) lt)

  sound_at : AreSound s st'.controller → (q : ℕ) (d : Sender) → q < length st.controller.kit.posters.items → IsSoundOn s q (whole_on st'.controller q d)
  sound_at sound q d lt = sound q d (subst (λ (n : ℕ). q < n) (sym (longer o)) lt)

  -- what all have seen there of a queue that may have its history
  turn_at : AreSound s st'.controller → (q : ℕ) (d : Sender) → q < length st.controller.kit.posters.items
      → (whole_on st'.controller q d ≡ whole_on st.controller q d) ⊎ ((e : Entry) × (whole_on st'.controller q d ≡ whole_on st.controller q d ++ e ∷ []) × P e × (e.sender ≡ controller s))
  turn_at sound q d lt = turned_on o q d lt (sound_at sound q d lt).numbered

  turned_first : CallsCameFirst s st → CallsCameFirst s st'
  turned_first first sound q d lt' =
      let lt : q < length st.controller.kit.posters.items = subst (λ (n : ℕ). q < n) (longer o) lt' in
      one_first s P (whole_on st.controller q d) (whole_on st'.controller q d) (first (sound_by_turns o sound) q d lt) (turn_at sound q d lt)

  -- it stays in step where the queues are at the time then
  turned_step : IsInStep s st → (AreSound s st'.controller → AreInTime s st') → IsInStep s st'
  turned_step step in_time = record {
    same = o.same';
    in_time = in_time;
    played = played_kept s st st' o.is o.is' o.same o.same' o.loopers (longer o) (grown_by_turns o) step.played;
    first = turned_first step.first;
  }

  -- turns that moved no time
  module _ (moves_not : (e : Entry) → P e → MovesNot e) (now : st'.time ≡ st.time) (step : IsInStep s st) where
    still : (q : ℕ) (es whole : List Entry) → IsSoundOn s q whole → (whole ≡ es) ⊎ ((e : Entry) × (whole ≡ es ++ e ∷ []) × P e × (e.sender ≡ controller s)) → clock (empty_base (sender_count s)) whole ≡ clock (empty_base (sender_count s)) es
    still q es whole sound (inl stays) = ap (clock (empty_base (sender_count s))) stays
    still q es whole sound (inr t) = ap (clock (empty_base (sender_count s))) t.1 ∙ clock_not_moved s q es t.0 (subst (IsSoundOn s q) t.1 sound) (moves_not t.0 t.2)

    turned_in_time : AreSound s st'.controller → AreInTime s st'
    turned_in_time sound q l d lt' =
        let lt = in_turned q lt' in
        in_time_on s st.time st'.time (slice_index_or st.loopers.items q l) (slice_index_or st'.loopers.items q l) (whole_on st.controller q d) (whole_on st'.controller q d) now (grown_by_turns o q d lt.1) (λ ended. ap is_ended (o.loopers.each q l lt.0).last ∙ ended)
        (still q (whole_on st.controller q d) (whole_on st'.controller q d) (sound_at sound q d lt.1) (turn_at sound q d lt.1)) (step.in_time (sound_by_turns o sound) q l d lt.0)

    pub turned_in_step : IsInStep s st'
    turned_in_step = turned_step step turned_in_time

-- turns that moved the time on
module _ {s : Script} {time : ℕ} {st : Stage} {c : Controller} {st' : Stage} {drained : Bool} (a : MovedOn s time st c st' drained) where
  come_to : st'.time ≡ max st.time time
  come_to = a.now

  -- no queue that may have its history is stuck
  none_stuck : (es whole left : List Entry) → whole ≡ left → IsStuck s time left → (is_over (empty_base (sender_count s)) es ≡ true) ⊎ HasNoneBefore (sender_count s) time es
      → (whole ≡ es) ⊎ ((e : Entry) × (whole ≡ es ++ e ∷ []) × MovesTo time e × (e.sender ≡ controller s)) → ⊥
  none_stuck es whole left is_left h (inl over) (inl stays) = true≢false (sym over ∙ subst (λ w. is_over (empty_base (sender_count s)) w ≡ false) (sym is_left ∙ stays) h.going)
  none_stuck es whole left is_left h (inr (none, not_quitting)) (inl stays) =
      let base = empty_base (sender_count s) in
      let here : IsStuck s time es = subst (IsStuck s time) (sym is_left ∙ stays) h in
      true≢false (sym here.due ∙ none_picked base es (clock base es) time none here.early)
  none_stuck es whole left is_left h either (inr t) =
      let base = empty_base (sender_count s) in
      let there : IsStuck s time (es ++ t.0 ∷ []) = subst (IsStuck s time) (sym is_left ∙ t.1) h in
      let early = there.early in
      let at = clock_moved base es t.0 time t.2 in
      absurd (omega (arith, early, at))

  -- so the controller found none stuck
  is_drained : AreSound s st'.controller → drained ≡ true
  is_drained sound = elim (cases_Bool drained) [
    | inl moved ↦ moved
    | inr left ↦ (let h = a.stuck left in
        let few : h.0 < length st.loopers.items = subst (λ (n : ℕ). h.0 < n) (sym a.over.is.loopers.0) h.1 in
        let lt : h.0 < length st.controller.kit.posters.items = subst (λ (n : ℕ). h.0 < n) (sym (queues_count s st a.over.is)) few in
        let d = some_of st.controller.kit.posters.items h.0 lt in
        absurd (none_stuck (whole_on st.controller h.0 d) (whole_on st'.controller h.0 d) (whole_on c h.0 d)
        (turned_left a.over h.0 d lt (sound_at a.over sound h.0 d lt).numbered) (h.2 d) (a.due h.0 d few)
        (turn_at a.over sound h.0 d lt)))
  ]

  -- and each has come to the time, or is over
  all_come : AreSound s st'.controller → HaveReachedTime s time c
  all_come sound = a.come (is_drained sound)

  pub advanced_sound : AreSound s st'.controller → (drained ≡ true) × AreSound s st.controller
  advanced_sound sound = (is_drained sound, sound_by_turns a.over sound)

  module _ (sound : AreSound s st'.controller) (q : ℕ) (l : StageLooper) (d : Sender) (lt' : q < length st'.loopers.items) where
    abbrev es : List Entry
    es = whole_on st.controller q d

    abbrev whole : List Entry
    whole = whole_on st'.controller q d

    lt : q < length st.loopers.items
    lt = (in_turned a.over q lt').0

    within : q < length st.controller.kit.posters.items
    within = (in_turned a.over q lt').1

    here : IsSoundOn s q whole
    here = sound_at a.over sound q d within

    ends : is_ended (slice_index_or st.loopers.items q l).last ≡ true → is_ended (slice_index_or st'.loopers.items q l).last ≡ true
    ends ended = ap is_ended (a.over.loopers.each q l lt).last ∙ ended

    -- what the controller called there
    its_calls : calls_on c q d ≡ entries_by (controller s) whole
    its_calls =
        let h = a.over.heard.each q d (within_turned a.over q within) in
        sym (controller_entries s st' a.over.is' q d (subst (λ (n : ℕ). q < n) (sym (longer a.over)) within) ∙ h.called)

    -- a queue that was not moved
    stays_in_time : whole ≡ es → clock (empty_base (sender_count s)) es ≡ st.time → (time ≤ time_in (calls_on c q d)) ⊎ (is_over (empty_base (sender_count s)) (whole_on c q d) ≡ true) → IsInTime s st'.time (slice_index_or st'.loopers.items q l) whole
    stays_in_time stays at (inl le) =
        let base = empty_base (sender_count s) in
        let clock_is : clock base whole ≡ time_in (calls_on c q d) = time_by_controller (setting_for s q) (controller s) refl refl whole here.legal here.numbered ∙ ap time_in (sym its_calls) in
        let was : clock base whole ≡ st.time = ap (clock base) stays ∙ at in
        inl (omega (arith, clock_is, was, le, come_to))
    stays_in_time stays at (inr over) =
        let base = empty_base (sender_count s) in
        let gone : is_over base whole ≡ true = ap (is_over base) (turned_left a.over q d within here.numbered) ∙ over in
        elim (cases_Bool (is_ended (slice_index_or st.loopers.items q l).last)) [
          | inl ended ↦ (let was : clock base whole ≡ st.time = ap (clock base) stays ∙ at in
              inr (ends ended, (over_is_disposed s q st'.time whole here (subst (λ (z : List Entry). are_advances st'.time z ≡ true) its_calls (a.by q d (within_turned a.over q within))) gone, omega (arith, was, come_to))))
          | inr going ↦ absurd (true≢false (sym gone ∙ (ap (is_over base) stays ∙ ((a.rested q l d lt).quiet going).going)))
        ]

    -- its clock is not past the time
    no_later : clock (empty_base (sender_count s)) es ≤ st.time → (whole ≡ es) ⊎ ((e : Entry) × (whole ≡ es ++ e ∷ []) × MovesTo time e × (e.sender ≡ controller s)) → clock (empty_base (sender_count s)) whole ≤ st'.time
    no_later by_then (inl stays) = (let is = ap (clock (empty_base (sender_count s))) stays in omega (arith, is, by_then, come_to))
    no_later by_then (inr t) = (let is = ap (clock (empty_base (sender_count s))) t.1 ∙ clock_moved (empty_base (sender_count s)) es t.0 time t.2 in omega (arith, is, by_then, come_to))

    queue_in_time : IsInTime s st.time (slice_index_or st.loopers.items q l) es → (whole ≡ es) ⊎ ((e : Entry) × (whole ≡ es ++ e ∷ []) × MovesTo time e × (e.sender ≡ controller s)) → IsInTime s st'.time (slice_index_or st'.loopers.items q l) whole
    queue_in_time (inr (ended, (gone, by_then))) either =
        let front = grown_by_turns a.over q d within in
        inr (ends ended, (subst (λ w. has_disposed (empty_base (sender_count s)) w ≡ true) front.1 (disposed_stays (empty_base (sender_count s)) es front.0 gone), no_later by_then either))
    queue_in_time (inl at) (inl stays) = stays_in_time stays at (all_come sound q d (within_turned a.over q within))
    queue_in_time (inl at) (inr t) =
        let base = empty_base (sender_count s) in
        inl (ap (clock base) t.1 ∙ (clock_moved base es t.0 time t.2 ∙ (ap (λ (n : ℕ). max n time) at ∙ sym come_to)))

    -- a queue that was not moved to a time ahead was disposed of before, unless the time is 0
    stays_at_block : LiesAhead time st → whole ≡ es → IsInTime s st.time (slice_index_or st.loopers.items q l) es
        → (time ≤ time_in (calls_on c q d)) ⊎ (is_over (empty_base (sender_count s)) (whole_on c q d) ≡ true) → IsAtBlock s.threads time whole
    stays_at_block (inr (zero, unseen)) stays at where_to = subst (IsAtBlock s.threads time) (sym (stays ∙ unseen q d within)) (nothing_called s.threads time zero)
    stays_at_block (inl later) stays (inr (ended, (gone, by_then))) where_to =
        let base = empty_base (sender_count s) in
        let clock_is : clock base whole ≡ clock base es = ap (clock base) stays in
        gone_before (sender_count s) s.threads time whole (ap (has_disposed base) stays ∙ gone) (omega (arith, clock_is, by_then, later))
    stays_at_block (inl later) stays (inl at) (inl le) =
        let base = empty_base (sender_count s) in
        let clock_is : clock base whole ≡ time_in (calls_on c q d) = time_by_controller (setting_for s q) (controller s) refl refl whole here.legal here.numbered ∙ ap time_in (sym its_calls) in
        let was : clock base whole ≡ st.time = ap (clock base) stays ∙ at in
        absurd (omega (arith, clock_is, was, le, later))
    stays_at_block (inl later) stays (inl at) (inr over) =
        let base = empty_base (sender_count s) in
        let gone : is_over base whole ≡ true = ap (is_over base) (turned_left a.over q d within here.numbered) ∙ over in
        let was : clock base whole ≡ st.time = ap (clock base) stays ∙ at in
        gone_before (sender_count s) s.threads time whole
        (over_is_disposed s q st'.time whole here (subst (λ (z : List Entry). are_advances st'.time z ≡ true) its_calls (a.by q d (within_turned a.over q within))) gone) (omega (arith, was, later))

    -- and one that was moved has no call behind the move
    queue_at_block : LiesAhead time st → IsInTime s st.time (slice_index_or st.loopers.items q l) es
        → (whole ≡ es) ⊎ ((e : Entry) × (whole ≡ es ++ e ∷ []) × MovesTo time e × (e.sender ≡ controller s)) → IsAtBlock s.threads time whole
    queue_at_block ahead at (inl stays) = stays_at_block ahead stays at (all_come sound q d (within_turned a.over q within))
    queue_at_block ahead at (inr t) = subst (IsAtBlock s.threads time) (sym t.1) (moved_now s q time es t.0 t.2 (subst (IsSoundOn s q) t.1 here))

  -- so it is with each queue
  pub advanced_at_block : LiesAhead time st → AreSound s st'.controller → AreAtBlock s time st'
  advanced_at_block ahead sound q d near =
      let lt' : q < length st'.loopers.items = subst (λ (n : ℕ). q < n) (queues_count s st' a.over.is') near in
      let lt = in_turned a.over q lt' in
      let l = some_of st.loopers.items q lt.0 in
      queue_at_block sound q l d lt' ahead (a.step.in_time (sound_by_turns a.over sound) q l d lt.0)
      (turn_at a.over sound q d lt.1)

  advanced_in_time : AreSound s st'.controller → AreInTime s st'
  advanced_in_time sound q l d lt' =
      let lt = in_turned a.over q lt' in
      queue_in_time sound q l d lt' (a.step.in_time (sound_by_turns a.over sound) q l d lt.0)
      (turn_at a.over sound q d lt.1)

  pub advanced_in_step : IsInStep s st'
  advanced_in_step = turned_step a.over a.step advanced_in_time
