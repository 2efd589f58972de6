-- What a loop by a clock leaves of a looper: what it took is told, it has seen its queue over where it ended, and it disposes of its queue by its last call.
use Rattle.std.proofs.Common.{◌≡◌, ℕ, zero, suc, true, false, List, [], ◌++◌, Some, refl, sym, ap, ap₂, ◌∙◌, subst, inl, inr}
use Rattle.std.proofs.lemmas.List.{append-nil}
use Rattle.std.proofs.lemmas.List.Elements.{filter_map-append}
use Rattle.std.specs.Prelude.{Bool, Option, ◌⊎◌}
use Rattle.atomic_table.specs.Seated.{TableId}
use Rattle.loop_model.specs.Base.{empty_base}
use Rattle.loop_model.specs.Answers.{Setting, is_over}
use Rattle.loop_model.specs.Dispatches.{act_dispatch, dispatches}
use Rattle.message_pool.specs.Passes.{Node}
use Rattle.shared_queue.specs.Constants.{Constants}
use Rattle.queue_state.specs.declared.answers.Nexted.TheVariants as nexted
use Rattle.shared_queue.specs.Waiting.{IsCap, HasLooked, HasListened, HasNudged, Slept}
use Rattle.shared_queue.specs.declared.waiting.Waited.TheVariants as waited
use Rattle.looper_run.specs.declared.by_clock.Loop.{Loop}
use Rattle.looper_run.specs.declared.by_clock.Loop.TheVariants as loop
use Rattle.looper_run.specs.declared.step.Step.{Step}
use Rattle.looper_run.specs.declared.step.Step.TheVariants as step
use Rattle.looper_run.specs.declared.looper.Round.{Round}
use Rattle.looper_run.specs.Holding.{Sender, State, Holding, Looping}
use Rattle.looper_run.specs.Acts.{taken_messages, entry_dispatch}
use Rattle.looper_run.specs.Asked.{Listening}
use Rattle.looper_run.specs.Looks.{by_poster, IsBegun}
use Rattle.looper_run.specs.Loops.{IsLoopPart, HasWaitedLong, LooksAgain, HasStepped, Stepped, IsLoop, LastWait, LoopBy, has_ended_looper as ends}
use Rattle.looper_run.specs.Round.{is_ended}
use Rattle.run_model.specs.Planned.{entries_by}
use Rattle.dash_loopers.specs.Loopers.{calls_among, DisposesAtEnd, is_given_up, round_of}
use Rattle.dash_loopers.proofs.LooperDisposes.{Calls, calls_none, calls_then, calls_lent, calls_still, calls_taken, calls_idle, none_now, disposes_last, open_before}
use Rattle.dash_loopers.proofs.LooperOver.{over_by_end, over_by_over}
use Rattle.std.specs.Prelude.{slice_get}
use Rattle.dash_script.specs.declared.script.Script.{Script}
use Rattle.shared_queue.specs.Known.{Shared}
use Rattle.looper_run.specs.Holding.{Workplace, workplace}
use Rattle.looper_run.specs.Loops.{IsStill, UnlessLost}
use Rattle.std.specs.Option.{IsSomeAnd}
use Rattle.std.proofs.Common.{None}
use Rattle.run_model.specs.Loopers.{LooperState}
use Rattle.dash_loopers.specs.Played.{StandsBy, StandsSomewhere, IsPlayingBy, HasPlayedBy}
use Rattle.dash_hall.specs.declared.hall.Hall.{Hall}
use Rattle.dash_hall.specs.Kits.{IsHall}
use Rattle.dash_loopers.specs.declared.player.Parts.{Parts}
use Rattle.dash_loopers.specs.declared.looper.StageLooper.{StageLooper}
use Rattle.dash_loopers.specs.Loopers.{ArePartsOf, IsLooper, IsPlaceOf}
use Rattle.dash_loopers.proofs.LooperPlaces.{queue_is}
use Rattle.dash_loopers.proofs.LooperKits.{looper_of}

module _ (shows : ℕ → Bool) (start : ℕ) where
  -- ---- what was taken is told

  told_on : (s : Setting) (before after : Holding) → IsLoopPart shows start s before after → dispatches before.journal.acts ≡ taken_messages before.poster.sender before.poster.view.seen
      → dispatches after.journal.acts ≡ taken_messages before.poster.sender after.poster.view.seen
  told_on s before after w told =
      ap dispatches w.acts ∙ (filter_map-append act_dispatch before.journal.acts w.did
      ∙ (ap₂ (λ a b. a ++ b) told w.told
      ∙ (sym (filter_map-append (entry_dispatch before.poster.sender) before.poster.view.seen w.more) ∙ ap (taken_messages before.poster.sender) (sym w.seen))))

  pub told_by_loop : (cap : Option ℕ) (s : Setting) (before after : Holding) (how : Loop) → LoopBy shows start cap s before after how → is_given_up (round_of how) ≡ false
      → dispatches before.journal.acts ≡ taken_messages before.poster.sender before.poster.view.seen → dispatches after.journal.acts ≡ taken_messages before.poster.sender after.poster.view.seen
  told_by_loop cap s before after loop.Ended l going told = told_on s before after l.0 told
  told_by_loop cap s before after (loop.Cap now) l going told = told_on s before after l.0 told
  told_by_loop cap s before after loop.Nudged l going told = told_on s before after l.0 told
  told_by_loop cap s before after loop.NoMemory l going told = absurd cc

  -- ---- it has seen its queue over

  pub over_by_loop : (cap : Option ℕ) (s : Setting) (before after : Holding) (how : Loop) (c : Constants TableId) → after.poster.view.constants ≡ Some c → LoopBy shows start cap s before after how
      → is_ended (round_of how) ≡ true → is_over (empty_base c.setting.senders) after.poster.view.seen ≡ true
  over_by_loop cap s before after loop.Ended c is l e = by_wait l.1
    where
      by_wait : ((left : List Node) × LastWait shows start cap before.poster after.poster (waited.End left)) ⊎ LastWait shows start cap before.poster after.poster waited.Over → is_over (empty_base c.setting.senders) after.poster.view.seen ≡ true
      by_wait (inl (left, (p, idle, turns, heard, (n, between, slept, (now, looked))))) = over_by_end now between after.poster idle left (empty_base c.setting.senders) looked.look
      by_wait (inr (p, idle, turns, heard, (n, between, slept, (now, looked)))) = over_by_over now between after.poster idle c is looked.look
  over_by_loop cap s before after (loop.Cap now) c is l e = absurd cc
  over_by_loop cap s before after loop.Nudged c is l e = absurd cc
  over_by_loop cap s before after loop.NoMemory c is l e = absurd cc

  -- ---- it disposes of its queue by its last call

  calls_listened : (a b : Sender) → HasListened a b → Calls a b
  calls_listened a b h = record { more = []; seen = h.seen ∙ sym (append-nil a.view.seen); sender = h.same.sender; none = refl }

  calls_slept : (idle : Bool) (cap : Option ℕ) (n : ℕ) (a b : Sender) → Slept shows start idle cap n a b → Calls a b
  calls_slept idle cap zero a b h = calls_none a b h
  calls_slept idle cap (suc n) a b (between, before, one) =
      let look = one.look.look in
      calls_then a between b (calls_slept idle cap n a between before)
      (calls_then between one.looked b (calls_still between one.looked look.0 look.1 look.2 (ap (λ (s : State). s.entries) look.3.3)) (calls_listened one.looked b one.listened))

  calls_waited : (cap : Option ℕ) (a b : Looping) → HasWaitedLong shows start cap a b → Calls a.held.poster b.held.poster
  calls_waited cap a b (p, n, slept, is) = calls_then a.held.poster p b.held.poster (calls_slept a.idle_owed cap n a.held.poster p slept) (calls_none p b.held.poster (ap (λ (l : Looping). l.held.poster) is))

  calls_step : (cap : Option ℕ) (r : Step) (a b : Looping) → LooksAgain r → HasStepped shows start cap a b r → Calls a.held.poster b.held.poster
  calls_step cap step.Dispatched a b goes (slept, waited, now, moment, done) = calls_then a.held.poster slept.held.poster b.held.poster (calls_waited cap a slept waited) (calls_taken now slept b done.0)
  calls_step cap step.Idled a b goes (slept, waited, now, moment, done) = calls_then a.held.poster slept.held.poster b.held.poster (calls_waited cap a slept waited) (calls_idle now slept b done)
  calls_step cap (step.Waits until) a b goes (slept, waited, now, moment, done) =
      let look = done.look in
      calls_then a.held.poster slept.held.poster b.held.poster (calls_waited cap a slept waited) (calls_still slept.held.poster b.held.poster look.0 look.1 look.2 (ap (λ (s : State). s.entries) look.3.3))
  calls_step cap step.Ends a b goes h = absurd goes
  calls_step cap step.NoMemory a b goes h = absurd goes

  calls_steps : (cap : Option ℕ) (n : ℕ) (a b : Looping) → Stepped shows start cap n a b → Calls a.held.poster b.held.poster
  calls_steps cap zero a b same = calls_none a.held.poster b.held.poster (ap (λ (l : Looping). l.held.poster) same)
  calls_steps cap (suc n) a b (between, before, r, goes, one) = calls_then a.held.poster between.held.poster b.held.poster (calls_steps cap n a between before) (calls_step cap r between b goes one)

  -- the last wait, answered at its cap
  calls_capped : (cap : Option ℕ) (at : ℕ) (a b : Looping)
      → (slept : Looping) × HasWaitedLong shows start cap a slept × (p : Sender) × (until : Option ℕ) × HasLooked shows start a.idle_owed at (nexted.Wait until) slept.held.poster p × IsCap cap at × (b ≡ by_poster slept p)
      → Calls a.held.poster b.held.poster
  calls_capped cap at a b (slept, waited, p, until, looked, is_cap, is) =
      let look = looked.look in
      calls_then a.held.poster slept.held.poster b.held.poster (calls_waited cap a slept waited)
      (calls_then slept.held.poster p b.held.poster (calls_still slept.held.poster p look.0 look.1 look.2 (ap (λ (s : State). s.entries) look.3.3)) (calls_none p b.held.poster (ap (λ (l : Looping). l.held.poster) is)))

  -- or since the bell was another
  calls_nudged : (cap : Option ℕ) (a b : Looping) → (slept : Looping) × HasWaitedLong shows start cap a slept × (p : Sender) × HasNudged shows start a.idle_owed cap slept.held.poster p × (b ≡ by_poster slept p) → Calls a.held.poster b.held.poster
  calls_nudged cap a b (slept, waited, p, nudged, is) =
      let look = nudged.look.look in
      calls_then a.held.poster slept.held.poster b.held.poster (calls_waited cap a slept waited)
      (calls_then slept.held.poster p b.held.poster
      (calls_then slept.held.poster nudged.looked p (calls_still slept.held.poster nudged.looked look.0 look.1 look.2 (ap (λ (s : State). s.entries) look.3.3)) (calls_listened nudged.looked p nudged.listened))
      (calls_none p b.held.poster (ap (λ (l : Looping). l.held.poster) is)))

  calls_started : (called : List Listening → Type 0) (a b : Looping) → IsBegun called a b → Calls a.held.poster b.held.poster
  calls_started called a b h = calls_then a.held.poster h.left.poster b.held.poster (calls_lent a.held h.left h.lent) (calls_none h.left.poster b.held.poster h.poster)

  module _ (k : ℕ) (cap : Option ℕ) (a b : Looping) (own : a.held.poster.sender ≡ k) (none : calls_among (entries_by k a.held.poster.view.seen) ≡ entries_by k a.held.poster.view.seen) where
    -- it paused behind these
    paused_none : (begun last paused : Looping) (n : ℕ) → Calls a.held.poster begun.held.poster → Stepped shows start cap n begun last → Calls last.held.poster paused.held.poster → b.held.poster ≡ paused.held.poster
        → calls_among (entries_by k b.held.poster.view.seen) ≡ entries_by k b.held.poster.view.seen
    paused_none begun last paused n first steps pauses closed =
        none_now k a.held.poster b.held.poster
        (calls_then a.held.poster begun.held.poster b.held.poster first
        (calls_then begun.held.poster last.held.poster b.held.poster (calls_steps cap n begun last steps)
        (calls_then last.held.poster paused.held.poster b.held.poster pauses (calls_none paused.held.poster b.held.poster closed)))) own none

    pub disposes_by_loop : (called : ℕ → List Listening → List Listening → Type 0) (how : Loop) → IsLoop called shows start cap a b how → DisposesAtEnd (round_of how) (entries_by k b.held.poster.view.seen)
    disposes_by_loop called loop.Ended (now, moment, heard, begun, first, (n, last, steps, (slept, waited, at, shown, ended), told)) =
        let until : Calls a.held.poster slept.held.poster =
        calls_then a.held.poster begun.held.poster slept.held.poster (calls_started (λ h. h ≡ heard) a begun first)
        (calls_then begun.held.poster last.held.poster slept.held.poster (calls_steps cap n begun last steps) (calls_waited cap last slept waited)) in
        disposes_last k at slept b ended (until.sender ∙ own) (none_now k a.held.poster slept.held.poster until own none)
    disposes_by_loop called (loop.Cap at) (now, moment, heard, begun, first, (n, last, paused, steps, pauses, closed)) =
        paused_none begun last paused n (calls_started (λ h. h ≡ heard) a begun first) steps (calls_capped cap at last paused pauses) closed.poster
    disposes_by_loop called loop.Nudged (now, moment, heard, begun, first, (n, last, paused, steps, pauses, closed)) =
        paused_none begun last paused n (calls_started (λ h. h ≡ heard) a begun first) steps (calls_nudged cap last paused pauses) closed.poster
    disposes_by_loop called loop.NoMemory l = tt

-- ---- what a loop leaves is still the looper

ends_same : (how : Loop) → ends how ≡ is_ended (round_of how)
ends_same loop.Ended = refl
ends_same (loop.Cap now) = refl
ends_same loop.Nudged = refl
ends_same loop.NoMemory = refl

pub looper_by_loop : (shows : ℕ → Bool) (start : ℕ) (cap : Option ℕ) (called : ℕ → List Listening → List Listening → Type 0) (s : Script) (hall : Hall) (l : StageLooper) (q : Shared TableId) (parts' : Parts) (after : Looping) (how : Loop)
    → IsHall s hall → IsLooper s hall l → slice_get hall.queues.items l.number ≡ Some q → ArePartsOf s hall l.number parts'
    → IsStill l.looper.held after.held → after.ended ≡ ends how → LoopBy shows start cap q.constants.setting l.looper.held after.held how → IsLoop called shows start cap l.looper after how → is_ended l.last ≡ false → is_given_up l.last ≡ false
    → IsLooper s hall (record { number = l.number; sender = l.sender; looper = after; parts = Some parts'; last = round_of how; dispatched = l.dispatched })
looper_by_loop shows start cap called s hall l q parts' after how is_hall is at are still ended loops steps unended going =
    let of = looper_of s hall l is_hall is in
    let same : workplace l.looper.held ≡ workplace after.held = λ i. record { table = sym still.table i; constants = sym still.constants i; pool = sym still.home i } in
    record {
      few = is.few;
      number = is.number;
      sender = is.sender;
      parts = are;
      place = subst (λ (v : Workplace). IsPlaceOf hall l.number v) same is.place;
      own = still.sender ∙ is.own;
      journal = still.looper ∙ is.journal;
      ended = ended ∙ ends_same how;
      told = λ on.
          let mine = is.own in
          let before = subst (λ (n : ℕ). dispatches l.looper.held.journal.acts ≡ taken_messages n l.looper.held.poster.view.seen) (sym mine) (is.told going) in
          subst (λ (n : ℕ). dispatches after.held.journal.acts ≡ taken_messages n after.held.poster.view.seen) mine (told_by_loop shows start cap q.constants.setting l.looper.held after.held how loops on before);
      over = λ over. subst (λ (c : Constants TableId). is_over (empty_base c.setting.senders) after.held.poster.view.seen ≡ true) (queue_is s hall l.number of l.number q at)
          (over_by_loop shows start cap q.constants.setting l.looper.held after.held how q.constants (still.constants ∙ (is.place.queue q at).1) loops over);
      disposes = disposes_by_loop shows start l.sender cap l.looper after is.own (open_before l.last (entries_by l.sender l.looper.held.poster.view.seen) unended going is.disposes) called how steps;
    }

-- ---- where a loop leaves it

pub unless_lost : (how : Loop) (P : Type 0) → is_given_up (round_of how) ≡ false → UnlessLost how P → P
unless_lost loop.Ended P going h = h
unless_lost (loop.Cap now) P going h = h
unless_lost loop.Nudged P going h = h
unless_lost loop.NoMemory P going h = absurd cc

-- what it did, unless memory ran out
pub worked : (shows : ℕ → Bool) (start : ℕ) (cap : Option ℕ) (s : Setting) (before after : Holding) (how : Loop) → is_given_up (round_of how) ≡ false → LoopBy shows start cap s before after how → IsLoopPart shows start s before after
worked shows start cap s before after loop.Ended going l = l.0
worked shows start cap s before after (loop.Cap now) going l = l.0
worked shows start cap s before after loop.Nudged going l = l.0
worked shows start cap s before after loop.NoMemory going l = absurd cc

-- as a loop or a round by a clock ends
pub played_by : (s : Script) (l : StageLooper) (parts' : Parts) (after : Looping) (last : Round) → after.held.poster.sender ≡ l.sender
    → (is_given_up last ≡ false → IsPlayingBy s l.number l after.held.poster.sender after.held.poster.view.seen after.held.journal.acts parts')
    → HasPlayedBy s l (record { number = l.number; sender = l.sender; looper = after; parts = Some parts'; last = last; dispatched = l.dispatched })
played_by s l parts' after last mine plays = λ going text a come.
    subst (λ (k : ℕ). StandsSomewhere s l.number k after.held.poster.view.seen after.held.journal.acts parts') mine (plays going text a come)

-- one loop after another
pub plays_then : (s : Script) (a b c : StageLooper) → b.number ≡ a.number → b.sender ≡ a.sender → is_given_up b.last ≡ false → HasPlayedBy s a b → HasPlayedBy s b c → HasPlayedBy s a c
plays_then s a b c number sender going first next = λ on text x come. (
    let here = from b.parts (first going text x come) in
    subst (λ (n : ℕ). IsSomeAnd c.parts (StandsSomewhere s n a.sender c.looper.held.poster.view.seen c.looper.held.journal.acts)) number
    (subst (λ (k : ℕ). IsSomeAnd c.parts (StandsSomewhere s b.number k c.looper.held.poster.view.seen c.looper.held.journal.acts)) sender (next on text here.0 here.1)))
  where
    from : (o : Option Parts) → IsSomeAnd o (StandsSomewhere s a.number a.sender b.looper.held.poster.view.seen b.looper.held.journal.acts)
        → (x : LooperState) × IsSomeAnd o (λ parts. StandsBy false s b.number b.sender b.looper.held.poster.view.seen b.looper.held.journal.acts parts x)
    from None h = absurd h
    from (Some parts) h = (
      h.0,
      subst (λ (n : ℕ). StandsBy false s n b.sender b.looper.held.poster.view.seen b.looper.held.journal.acts parts h.0) (sym number)
          (subst (λ (k : ℕ). StandsBy false s a.number k b.looper.held.poster.view.seen b.looper.held.journal.acts parts h.0) (sym sender) h.1),
    )
