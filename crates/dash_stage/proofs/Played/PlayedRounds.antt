-- In a round of loopers the time stands still, so the calls that they make come at its time.
use Rattle.std.proofs.Common.{◌≡◌, ◌≢◌, ◌<◌, ◌+◌, inl, inr, ℕ, suc, Bool, true, false, true≢false, List, [], ◌∷◌, ◌++◌, map, length, Option, Some, refl, sym, ap, ◌∙◌, subst, arith}
use Rattle.std.specs.Prelude.{◌==◌, ◌||◌, slice_index_or, if◌then◌else◌}
use Rattle.std.specs.List.{AllByRecursion}
use Rattle.std.specs.Option.{IsSomeAnd}
use Rattle.std.proofs.lemmas.Option.{same_Some}
use Rattle.std.proofs.lemmas.Bool.{cases_Bool, and_from, and_parts, eqb-true, or_left}
use Rattle.std.proofs.lemmas.List.{length-map, length-append, map-append}
use mathlib.Core.List.{IsPrefix}
use Rattle.loop_model.specs.declared.entry.Entry.{Entry}
use Rattle.loop_model.specs.Base.{empty_base}
use Rattle.loop_model.specs.Answers.{clock, has_disposed}
use Rattle.loop_model.specs.Legal.{IsLegal, AreNumbered}
use Rattle.loop_model.proofs.WellFormedLaws.{All_recursive}
use Rattle.loop_model.proofs.Sorting.{AllByRecursion-weaker}
use Rattle.loop_model.proofs.Prefixes.{prefix_front}
use Rattle.dash_script.specs.declared.script.Script.{Script}
use Rattle.dash_script.specs.Reading.{HasText}
use Rattle.looper_run.specs.Holding.{Sender}
use Rattle.looper_run.specs.Round.{is_ended}
use Rattle.run_model.specs.Planned.{controller, looper_sender, sender_count, entries_by}
use Rattle.run_model.specs.Control.{Before, Timing, At, InBlock, Exactly, AnyTime, is_on_time, are_on_time, befores, come_first}
use Rattle.run_model.specs.Parts.{befores_after, sent_on}
use Rattle.run_model.specs.Loopers.{LooperState, SentCall}
use Rattle.run_model.specs.FrameRecords.{asks_in}
use Rattle.run_model.proofs.RunLaws.{sent_on-append}
use Rattle.dash_hall.specs.Hearing.{AtEach, HaveHeard}
use Rattle.dash_hall.specs.Hosts.{pass_asks}
use Rattle.dash_threads.specs.Threads.{ThreadKeeps}
use Rattle.dash_loopers.specs.declared.player.Parts.{Parts}
use Rattle.dash_loopers.specs.declared.looper.StageLooper.{StageLooper}
use Rattle.dash_loopers.specs.Loopers.{IsSoundOn, setting_for, is_given_up, posters_of, LooperRest, rest_in, LooperKeeps}
use Rattle.dash_loopers.specs.Played.{calls_in, StandsBy, IsTimedBy, GoesOnTo, StandsBetweenRounds, ComesTo, HasPlayed}
use Rattle.dash_loopers.proofs.LooperAsks.{AskAt, asked_nothing, asked_behind, asks_in_round}
use Rattle.dash_stage.specs.declared.stage.Stage.{Stage}
use Rattle.dash_stage.specs.Stages.{IsStage, AreLoopers, LoopersGoOn}
use Rattle.dash_stage.specs.Sharing.{HaveSeenTheSame}
use Rattle.dash_stage.specs.Timeliness.{whole_on, AreSound, IsAtTime}
use Rattle.dash_stage.specs.Playing.{CallsCameFirst, befores_called, IsMet, AreCallsOnTime, IsTimelyLooper, IsInTime, AreInTime, IsInStep, PlaysOn}
use Rattle.dash_stage.proofs.BlockTimes.{first_more}
use Rattle.dash_loopers.proofs.LooperShares.{looper_parts, own_kept}
use Rattle.loop_model.proofs.AfterLaws.{disposed_stays}
use Rattle.dash_stage.proofs.Stages.Timely.{none_of, befores-append, befores_count, on_time_more, clock_stays, befores_at}
use Rattle.dash_stage.proofs.Stages.StageWhole.{as_many, queues_count, looper_entries, looper_sees, sound_front, none_behind, threads_heard, thread_made_none, none_between}
use Rattle.dash_stage.proofs.Stages.StageTurns.{heard_entries}
use Rattle.dash_stage.proofs.Played.RoundTimes.{calls_on_time, befores_called-count, looks_at}
use Rattle.dash_stage.proofs.Played.PlayedStage.{heard_come, own_count, elsewhere_count, still_on_time}

-- ---- lists

-- what is on time is as many as there are calls
on_time_long : (ts : List Timing) (bs : List Before) → are_on_time ts bs ≡ true → length ts ≡ length bs
on_time_long [] [] h = refl
on_time_long [] (b ∷ bs) h = absurd cc
on_time_long (t ∷ ts) [] h = absurd cc
on_time_long (t ∷ ts) (b ∷ bs) h = ap suc (on_time_long ts bs (and_parts (is_on_time t b) (are_on_time ts bs) h).1)

-- the timings of the calls on one queue
abbrev pub timings : ℕ → List SentCall → List Timing
timings r xs = map (λ x. x.timing) (sent_on r xs)

next_on : (P : Timing → Type 0) (t : Bool) (x : SentCall) (xs : List SentCall) → (t ≡ true → P x.timing) → AllByRecursion P (map (λ x. x.timing) xs) → AllByRecursion P (map (λ x. x.timing) (if t then x ∷ xs else xs))
next_on P true x xs one all = (one refl, all)
next_on P false x xs one all = all

-- what holds of each call on the queue holds of these timings
all_on : (P : Timing → Type 0) (r : ℕ) (xs : List SentCall) → AllByRecursion (λ x. x.queue ≡ r → P x.timing) xs → AllByRecursion P (timings r xs)
all_on P r [] h = tt
all_on P r (x ∷ xs) h = next_on P (x.queue == r) x (sent_on r xs) (λ e. h.0 (eqb-true x.queue r e)) (all_on P r xs h.1)

-- calls of one time are on time where what stood before each is
on_time_all : (time : ℕ) (us : List Timing) (bs : List Before) → AllByRecursion (λ u. u ≡ At time) us → AllByRecursion (λ b. is_on_time (At time) b ≡ true) bs → length us ≡ length bs → are_on_time us bs ≡ true
on_time_all time [] [] at all long = refl
on_time_all time [] (b ∷ bs) at all long = absurd (omega (arith, long))
on_time_all time (u ∷ us) [] at all long = absurd (omega (arith, long))
on_time_all time (u ∷ us) (b ∷ bs) at all long = and_from _ _ (ap (λ t. is_on_time t b) at.0 ∙ all.0) (on_time_all time us bs at.1 all.1 (omega (arith, long)))

-- what stood before a sender's entries is as many as they are
befores_long : (k : ℕ) (es : List Entry) → length (befores k es) ≡ length (entries_by k es)
unfolding befores
befores_long k es = befores_count k [] es

-- the timings of a state that went on
timings_more : (r : ℕ) (xs ys more : List SentCall) → ys ≡ xs ++ more → timings r ys ≡ timings r xs ++ timings r more
timings_more r xs ys more is = ap (timings r) is ∙ (ap (map (λ x. x.timing)) (sent_on-append r xs more) ∙ map-append (λ x. x.timing) (sent_on r xs) (sent_on r more))

-- where neither of two facts holds the first does not
not_first : (a b : Bool) → (a || b) ≡ false → a ≡ false
not_first true b h = absurd cc
not_first false b h = refl

-- ---- one looper's calls in a round

module _ (s : Script) (q time : ℕ) where
  -- the looper saw these entries more of its queue, which was at the time
  pub record IsSeenThen (es looks : List Entry) : Type 0 where
    pub sound : IsSoundOn s q (es ++ looks)
    pub none : entries_by (controller s) looks ≡ []
    pub now : clock (empty_base (sender_count s)) es ≡ time

  pub seen_then : (es looks whole : List Entry) → IsPrefix (es ++ looks) whole → IsSoundOn s q whole → entries_by (controller s) whole ≡ entries_by (controller s) es → clock (empty_base (sender_count s)) es ≡ time → IsSeenThen es looks
  seen_then es looks whole front sound controlled at = record {
    sound = sound_front s q (es ++ looks) whole front sound;
    none = none_of (controller s) es looks (none_between (controller s) es (es ++ looks) whole (prefix_front es looks) front controlled);
    now = at;
  }

  module _ (k : ℕ) (began looks : List Entry) (saw : IsSeenThen began looks) where
    met_one : (queue : ℕ) (u : Timing) → IsTimedBy q k looks time queue u → IsMet time time u
    met_one queue u h = looks_at s q time began looks k time time queue u saw.sound saw.none (inl saw.now) refl h

    -- on another queue than its own, a call is timed by a look
    at_one : (r queue : ℕ) (u : Timing) → r ≢ q → IsTimedBy q k looks time queue u → queue ≡ r → u ≡ At time
    at_one r queue (At t) apart h on = ap At (met_one queue (At t) h)
    at_one r queue (InBlock t) apart h on = absurd h
    at_one r queue (Exactly t) apart h on = absurd (apart (sym on ∙ h.1))
    at_one r queue AnyTime apart h on = absurd h

    module _ (a b : LooperState) (g : GoesOnTo q k looks time a b) where
      each_timed : AllByRecursion (λ x. IsTimedBy q k looks time x.queue x.timing) g.more
      each_timed = All_recursive (λ x. IsTimedBy q k looks time x.queue x.timing) g.more g.timed

      -- on its own queue
      pub own_on_time : (es whole : List Entry) → IsPrefix es whole → IsSoundOn s q whole → entries_by (controller s) whole ≡ entries_by (controller s) es → clock (empty_base (sender_count s)) es ≡ time
          → length (sent_on q b.sent) ≡ length (calls_in k whole) → are_on_time (timings q a.sent) (befores_called k es) ≡ true → are_on_time (timings q b.sent) (befores_called k whole) ≡ true
      own_on_time es whole front sound controlled at count h =
          let split = timings_more q a.sent b.sent g.more g.sent in
          let met : AllByRecursion (IsMet time time) (timings q g.more) = all_on (IsMet time time) q g.more
          (AllByRecursion-weaker (λ x. IsTimedBy q k looks time x.queue x.timing) (λ x. x.queue ≡ q → IsMet time time x.timing) (λ x h on. met_one x.queue x.timing h) g.more each_timed) in
          let met_here = subst (λ (n : ℕ). AllByRecursion (IsMet time n) (timings q g.more)) (sym at) met in
          let long : length (timings q a.sent ++ timings q g.more) ≡ length (befores_called k whole) = ap length (sym split) ∙ (length-map (sent_on q b.sent) (λ x. x.timing) ∙ (count ∙ sym (befores_called-count k whole))) in
          ap (λ ts. are_on_time ts (befores_called k whole)) split
          ∙ calls_on_time s q time k es whole front sound controlled (inl at) (timings q a.sent) (timings q g.more) met_here long (on_time_long (timings q a.sent) (befores_called k es) h) h

      -- and on another one
      pub elsewhere_on_time : (r : ℕ) (es whole : List Entry) → r ≢ q → IsPrefix es whole → IsSoundOn s r whole → entries_by (controller s) whole ≡ entries_by (controller s) es → IsAtTime (sender_count s) time es
          → length (sent_on r b.sent) ≡ length (entries_by k whole) → are_on_time (timings r a.sent) (befores k es) ≡ true → are_on_time (timings r b.sent) (befores k whole) ≡ true
      elsewhere_on_time r es whole apart front sound controlled at count h =
          let set = setting_for s r in
          let base = empty_base (sender_count s) in
          let more = front.0 in
          let split = timings_more r a.sent b.sent g.more g.sent in
          let all : AllByRecursion (λ u. u ≡ At time) (timings r g.more) = all_on (λ u. u ≡ At time) r g.more
          (AllByRecursion-weaker (λ x. IsTimedBy q k looks time x.queue x.timing) (λ x. x.queue ≡ r → x.timing ≡ At time) (λ x h on. at_one r x.queue x.timing apart h on) g.more each_timed) in
          let none = none_behind (controller s) es whole front controlled in
          let stood = befores_at set (controller s) refl refl k time es more (subst (IsLegal set base) (sym front.1) sound.legal) (subst (AreNumbered set base) (sym front.1) sound.numbered) none at in
          let splits = ap (befores k) (sym front.1) ∙ befores-append k es more in
          let were = on_time_long (timings r a.sent) (befores k es) h in
          let whole_count : length (befores k whole) ≡ length (entries_by k whole) = befores_long k whole in
          let long : length (timings r a.sent) + length (timings r g.more) ≡ length (befores k es) + length (befores_after k es more) =
          sym (length-append (timings r a.sent) (timings r g.more))
          ∙ (ap length (sym split) ∙ (length-map (sent_on r b.sent) (λ x. x.timing) ∙ (count ∙ (sym whole_count ∙ (ap length splits ∙ length-append (befores k es) (befores_after k es more)))))) in
          let rest : length (timings r g.more) ≡ length (befores_after k es more) = omega (arith, long, were) in
          ap (λ ts. are_on_time ts (befores k whole)) split
          ∙ (ap (are_on_time (timings r a.sent ++ timings r g.more)) splits
          ∙ on_time_more (timings r a.sent) (timings r g.more) (befores k es) (befores_after k es more) h (on_time_all time (timings r g.more) (befores_after k es more) all stood rest))

-- ---- all loopers

-- from a stage in which all have seen the same, over a round of loopers, to one in which all have seen the same again
module _ (s : Script) (text : HasText s) (st : Stage) (ls : List StageLooper) (st' : Stage) (is : IsStage s st) (is' : IsStage s st') (same' : HaveSeenTheSame st') (clock_is : st'.time ≡ st.time)
    (loopers : AreLoopers s st.hall ls) (on : LoopersGoOn ls) (plays : (k : ℕ) (d : StageLooper) → k < length st.loopers.items → PlaysOn s st.time (slice_index_or st.loopers.items k d) (slice_index_or ls k d))
    (threads : AtEach (ThreadKeeps HaveHeard) st.threads.items st'.threads.items) (kept : AtEach (LooperKeeps HaveHeard) ls st'.loopers.items) (heard : HaveHeard st.controller.kit.posters.items st'.controller.kit.posters.items)
    (step : IsInStep s st) where
  within_before : (q : ℕ) → q < length st'.controller.kit.posters.items → q < length st.controller.kit.posters.items
  within_before q lt = subst (λ (n : ℕ). q < n) heard.long lt

  within_after : (q : ℕ) → q < length st.controller.kit.posters.items → q < length st'.controller.kit.posters.items
  within_after q lt = subst (λ (n : ℕ). q < n) (sym heard.long) lt

  grown : (q : ℕ) (d : Sender) → q < length st.controller.kit.posters.items → IsPrefix (whole_on st.controller q d) (whole_on st'.controller q d)
  grown q d lt = (heard.each q d lt).more

  controlled : (q : ℕ) (d : Sender) → q < length st.controller.kit.posters.items → entries_by (controller s) (whole_on st'.controller q d) ≡ entries_by (controller s) (whole_on st.controller q d)
  controlled q d lt = heard_entries s st st' is is' heard q d lt

  sound_once : AreSound s st'.controller → AreSound s st.controller
  sound_once sound q d lt = sound_front s q (whole_on st.controller q d) (whole_on st'.controller q d) (grown q d lt) (sound q d (within_after q lt))

  -- there are as many loopers before, in between and after
  in_round : (k : ℕ) → k < length st'.loopers.items → (k < length st.loopers.items) × (k < length ls)
  in_round k lt = (subst (λ (n : ℕ). k < n) (is'.loopers.0 ∙ sym is.loopers.0) lt, subst (λ (n : ℕ). k < n) kept.long lt)

  -- the threads have called nothing
  round_first : CallsCameFirst s st'
  round_first sound q d lt' =
      let lt = within_before q lt' in
      let es = whole_on st.controller q d in
      let whole = whole_on st'.controller q d in
      let front : IsPrefix es whole = grown q d lt in
      subst (λ w. come_first s.threads w ≡ true) front.1 (first_more s.threads es front.0
      (λ k few. none_behind k es whole front (thread_made_none s st st' is is' step.same same' (threads_heard st.threads.items st'.threads.items threads) heard.long q k d lt few))
      (step.first (sound_once sound) q d lt))

  -- each queue is at the time still
  round_in_time : AreSound s st'.controller → AreInTime s st'
  round_in_time sound q l d lt' = by_time (step.in_time (sound_once sound) q l d lt)
    where
      lt : q < length st.loopers.items
      lt = (in_round q lt').0

      lt1 : q < length ls
      lt1 = (in_round q lt').1

      within : q < length st.controller.kit.posters.items
      within = subst (λ (n : ℕ). q < n) (sym (queues_count s st is)) lt

      front : IsPrefix (whole_on st.controller q d) (whole_on st'.controller q d)
      front = grown q d within

      ends : PlaysOn s st.time (slice_index_or st.loopers.items q l) (slice_index_or ls q l) → is_ended (slice_index_or st.loopers.items q l).last ≡ true → is_ended (slice_index_or ls q l).last ≡ true
      ends (inl stays) ended = ap (λ (z : StageLooper). is_ended z.last) stays ∙ ended
      ends (inr (run, played)) ended = ap (λ (z : StageLooper). is_ended z.last) (run.stopped (or_left _ _ ended)) ∙ ended

      still : clock (empty_base (sender_count s)) (whole_on st'.controller q d) ≡ clock (empty_base (sender_count s)) (whole_on st.controller q d)
      still =
          let base = empty_base (sender_count s) in
          let all = sound q d (within_after q within) in
          ap (clock base) (sym front.1)
          ∙ clock_stays (setting_for s q) (controller s) refl refl (whole_on st.controller q d) front.0 (subst (IsLegal (setting_for s q) base) (sym front.1) all.legal) (subst (AreNumbered (setting_for s q) base) (sym front.1) all.numbered)
          (none_behind (controller s) (whole_on st.controller q d) (whole_on st'.controller q d) front (controlled q d within))

      by_time : IsInTime s st.time (slice_index_or st.loopers.items q l) (whole_on st.controller q d) → IsInTime s st'.time (slice_index_or st'.loopers.items q l) (whole_on st'.controller q d)
      by_time (inl now) = inl (still ∙ (now ∙ sym clock_is))
      by_time (inr (ended, (gone, by))) = inr (
        ap is_ended (kept.each q l lt1).last ∙ ends (plays q l lt) ended,
        (
          subst (λ es. has_disposed (empty_base (sender_count s)) es ≡ true) front.1 (disposed_stays (empty_base (sender_count s)) (whole_on st.controller q d) front.0 gone),
          (let same = still in omega (arith, same, by, clock_is)),
        ),
      )

  module _ (sound : AreSound s st'.controller) (k : ℕ) (l : StageLooper) (lt' : k < length st'.loopers.items) where
    abbrev began : StageLooper
    began = slice_index_or st.loopers.items k l

    abbrev ran : StageLooper
    ran = slice_index_or ls k l

    abbrev left : StageLooper
    left = slice_index_or st'.loopers.items k l

    was_looper : k < length st.loopers.items
    was_looper = (in_round k lt').0

    abbrev sender : ℕ
    sender = looper_sender s k

    -- a looper that only heard others has made no entry
    none_made : LooperKeeps HaveHeard began left → (q : ℕ) (d : Sender) → q < length st.controller.kit.posters.items → entries_by sender (whole_on st'.controller q d) ≡ entries_by sender (whole_on st.controller q d)
    none_made keeps q d within =
        let many = as_many (posters_of began) st.controller.kit.posters.items (step.same.loopers k l was_looper) in
        looper_entries s st' is' same' k q l d d lt' (within_after q within)
        ∙ ((keeps.posters.each q d (subst (λ (n : ℕ). q < n) (sym many) within)).called ∙ sym (looper_entries s st is step.same k q l d d was_looper within))

    timely_before : IsTimelyLooper s st.controller began
    timely_before = step.played (sound_once sound) k l was_looper

    its_calls : AreCallsOnTime s st.controller k timely_before.state
    its_calls = subst (λ (n : ℕ). AreCallsOnTime s st.controller n timely_before.state) (is.loopers.1 k l was_looper).1 timely_before.on_time

    -- a looper that ran no round stands where it stood
    stays_played : LooperKeeps HaveHeard began left → IsTimelyLooper s st'.controller left
    stays_played keeps = record {
      state = timely_before.state;
      come = heard_come s st.hall is.hall began (is.loopers.1 k l was_looper).0 left keeps timely_before.state timely_before.come;
      on_time = subst (λ (n : ℕ). AreCallsOnTime s st'.controller n timely_before.state) (sym (is'.loopers.1 k l lt').1)
          (still_on_time s st st' k timely_before.state (λ q d. within_before q) grown (none_made keeps) its_calls);
    }

    in_ran : k < length ls
    in_ran = (in_round k lt').1

    in_queues : k < length st.controller.kit.posters.items
    in_queues = subst (λ (n : ℕ). k < n) (sym (queues_count s st is)) was_looper

    -- what the looper has seen of its queue in the round, all have seen after it
    has_seen : (d : Sender) → IsPrefix ran.looper.held.poster.view.seen (whole_on st'.controller k d)
    has_seen d =
        subst (IsPrefix ran.looper.held.poster.view.seen) (looper_sees s st' is' same' k l d lt') (own_kept s st.hall is.hall ran (loopers.1 k l in_ran).0 left (kept.each k l in_ran)).more

    -- where it came to by the round
    went : HasPlayed s st.time began ran → (parts : Parts) × (ran.parts ≡ Some parts)
        × ComesTo s k st.time timely_before.state ran.dispatched sender (whole_on st.controller k l.looper.held.poster) ran.looper.held.poster.view.seen ran.looper.held.journal.acts parts
    went played =
        let d = l.looper.held.poster in
        let was = is.loopers.1 k l was_looper in
        let p = looper_parts s st.hall is.hall ran (loopers.1 k l in_ran).0 in
        let some = played (on k l in_ran) text timely_before.state timely_before.come in
        let come = subst (λ (o : Option Parts). IsSomeAnd o (ComesTo s began.number st.time timely_before.state ran.dispatched began.sender began.looper.held.poster.view.seen ran.looper.held.poster.view.seen ran.looper.held.journal.acts)) p.1 some in
        let mine : began.sender ≡ sender = was.0.sender ∙ ap (λ (n : ℕ). s.threads + n) was.1 in (
          p.0,
          p.1,
          subst (λ es. ComesTo s k st.time timely_before.state ran.dispatched sender es ran.looper.held.poster.view.seen ran.looper.held.journal.acts p.0) (looper_sees s st is step.same k l d was_looper)
              (subst (λ (n : ℕ). ComesTo s k st.time timely_before.state ran.dispatched n began.looper.held.poster.view.seen ran.looper.held.poster.view.seen ran.looper.held.journal.acts p.0) mine
              (subst (λ (n : ℕ). ComesTo s n st.time timely_before.state ran.dispatched began.sender began.looper.held.poster.view.seen ran.looper.held.poster.view.seen ran.looper.held.journal.acts p.0) was.1 come)),
        )

    module _ (played : HasPlayed s st.time began ran) (going : is_ended began.last ≡ false) where
      abbrev came : ComesTo s k st.time timely_before.state ran.dispatched sender (whole_on st.controller k l.looper.held.poster) ran.looper.held.poster.view.seen ran.looper.held.journal.acts (went played).0
      came = (went played).2

      -- the looper stands at the new state
      comes_on : StandsBetweenRounds s ran came.state
      comes_on =
          let one = loopers.1 k l in_ran in
          let mine : sender ≡ ran.sender = ap (λ (n : ℕ). s.threads + n) (sym one.1) ∙ sym one.0.sender in (
            subst (λ (o : Option Parts). IsSomeAnd o (λ parts. StandsBy true s ran.number ran.sender ran.looper.held.poster.view.seen ran.looper.held.journal.acts parts came.state)) (sym (went played).1)
                (subst (λ (n : ℕ). StandsBy true s n ran.sender ran.looper.held.poster.view.seen ran.looper.held.journal.acts (went played).0 came.state) (sym one.1)
                (subst (λ (n : ℕ). StandsBy true s k n ran.looper.held.poster.view.seen ran.looper.held.journal.acts (went played).0 came.state) mine came.stands)),
            came.first,
          )

      comes_left : StandsBetweenRounds s left came.state
      comes_left = heard_come s st.hall is.hall ran (loopers.1 k l in_ran).0 left (kept.each k l in_ran) came.state comes_on

      -- its queue was at the time
      now_here : (d : Sender) → clock (empty_base (sender_count s)) (whole_on st.controller k d) ≡ st.time
      now_here d = at (step.in_time (sound_once sound) k l d was_looper)
        where
          at : IsInTime s st.time began (whole_on st.controller k d) → clock (empty_base (sender_count s)) (whole_on st.controller k d) ≡ st.time
          at (inl now) = now
          at (inr (ended, (gone, by))) = absurd (true≢false (sym ended ∙ going))

      at_time : (r : ℕ) (d : Sender) → r < length st.controller.kit.posters.items → IsAtTime (sender_count s) st.time (whole_on st.controller r d)
      at_time r d within = at (step.in_time (sound_once sound) r l d (subst (λ (n : ℕ). r < n) (queues_count s st is) within))
        where
          at : IsInTime s st.time (slice_index_or st.loopers.items r l) (whole_on st.controller r d) → IsAtTime (sender_count s) st.time (whole_on st.controller r d)
          at (inl now) = inl now
          at (inr (ended, (gone, by))) = inr (gone, by)

      its_looks : IsSeenThen s k st.time (whole_on st.controller k l.looper.held.poster) came.looks
      its_looks =
          let d = l.looper.held.poster in
          seen_then s k st.time (whole_on st.controller k d) came.looks (whole_on st'.controller k d) (subst (λ es. IsPrefix es (whole_on st'.controller k d)) came.saw (has_seen d)) (sound k d (within_after k in_queues)) (controlled k d in_queues) (now_here d)

      went_played : IsTimelyLooper s st'.controller left
      went_played = record {
        state = came.state;
        come = comes_left;
        on_time = subst (λ (n : ℕ). AreCallsOnTime s st'.controller n came.state) (sym (is'.loopers.1 k l lt').1) (record {
          own = λ d lt. own_on_time s k st.time sender (whole_on st.controller k l.looper.held.poster) came.looks its_looks timely_before.state came.state came.on (whole_on st.controller k d) (whole_on st'.controller k d) (grown k d in_queues) (sound k d lt) (controlled k d in_queues) (now_here d)
              (own_count s st' is' same' k l lt' came.state comes_left d) (its_calls.own d in_queues);
          elsewhere = λ r d apart lt.
              let within = within_before r lt in
              elsewhere_on_time s k st.time sender (whole_on st.controller k l.looper.held.poster) came.looks its_looks timely_before.state came.state came.on r (whole_on st.controller r d) (whole_on st'.controller r d) apart (grown r d within) (sound r d lt) (controlled r d within) (at_time r d within)
              (elsewhere_count s st' is' same' k l lt' came.state comes_left r d apart lt) (its_calls.elsewhere r d apart within);
        });
      }

      -- what it asked of its choreographer was for the time
      asked_now : (p : Parts) → began.parts ≡ Some p → AskAt st.time p (went played).0
      asked_now p has =
          let here = is.loopers.1 k l was_looper in
          let mine : began.sender ≡ sender = here.0.sender ∙ ap (λ (n : ℕ). s.threads + n) here.1 in
          let first : StandsBy true s began.number began.sender began.looper.held.poster.view.seen began.looper.held.journal.acts p timely_before.state =
          subst (λ (o : Option Parts). IsSomeAnd o (λ parts. StandsBy true s began.number began.sender began.looper.held.poster.view.seen began.looper.held.journal.acts parts timely_before.state)) has timely_before.come.0 in
          asks_in_round s k sender st.time st.time began.looper.held.poster.view.seen ran.looper.held.poster.view.seen came.looks began.looper.held.journal.acts ran.looper.held.journal.acts p (went played).0 timely_before.state came.state
          (subst (λ (n : ℕ). StandsBy true s n sender began.looper.held.poster.view.seen began.looper.held.journal.acts p timely_before.state) here.1
          (subst (λ (n : ℕ). StandsBy true s began.number n began.looper.held.poster.view.seen began.looper.held.journal.acts p timely_before.state) mine first)) came.stands came.on
          (λ t h. met_one s k st.time sender (whole_on st.controller k l.looper.held.poster) came.looks its_looks 0 (At t) h)

    -- a looper that only heard others has asked for nothing
    asks_kept : (p p' : Parts) → ran.parts ≡ Some p → left.parts ≡ Some p' → AskAt st.time p p'
    asks_kept p p' had has =
        let heard = (kept.each k l in_ran).rest (record { frames = p.frames; root = p.root; fired = p.fired.items; passed = p.passed; awaits = p.awaits }) (ap rest_in had) in
        let is_rest : heard.0 ≡ record { frames = p'.frames; root = p'.root; fired = p'.fired.items; passed = p'.passed; awaits = p'.awaits } = same_Some _ _ (sym heard.1 ∙ ap rest_in has) in
        asked_nothing st.time p p' (ap (λ (r : LooperRest). pass_asks r.frames) (sym is_rest) ∙ ap asks_in heard.2.frames.same.own)

    asked_one : PlaysOn s st.time began ran → (p p' : Parts) → began.parts ≡ Some p → left.parts ≡ Some p' → AskAt st.time p p'
    asked_one (inl stays) p p' had has = asks_kept p p' (ap (λ (z : StageLooper). z.parts) stays ∙ had) has
    asked_one (inr (run, played)) p p' had has = elim (cases_Bool (is_ended began.last || is_given_up began.last)) [
      | inl stopped ↦ asks_kept p p' (ap (λ (z : StageLooper). z.parts) (run.stopped stopped) ∙ had) has
      | inr going ↦
          let gone = went played in
          asked_behind st.time p gone.0 p' (asked_now played (not_first (is_ended began.last) (is_given_up began.last) going) p had) (asks_kept gone.0 p' gone.1 has)
    ]

    round_one : PlaysOn s st.time began ran → IsTimelyLooper s st'.controller left
    round_one (inl stays) = stays_played (subst (λ (z : StageLooper). LooperKeeps HaveHeard z left) stays (kept.each k l in_ran))
    round_one (inr (run, played)) = elim (cases_Bool (is_ended began.last || is_given_up began.last)) [
      | inl stopped ↦ stays_played (subst (λ (z : StageLooper). LooperKeeps HaveHeard z left) (run.stopped stopped) (kept.each k l in_ran))
      | inr going ↦ went_played played (not_first (is_ended began.last) (is_given_up began.last) going)
    ]

  -- all that a looper asks of its choreographer is for the time
  pub round_asks : AreSound s st'.controller → (k : ℕ) (l : StageLooper) → k < length st'.loopers.items → (p p' : Parts) → (slice_index_or st.loopers.items k l).parts ≡ Some p
      → (slice_index_or st'.loopers.items k l).parts ≡ Some p' → AskAt st.time p p'
  round_asks sound k l lt = asked_one sound k l lt (plays k l (in_round k lt).0)

  -- all stays in step
  pub round_in_step : IsInStep s st'
  round_in_step = record {
    same = same';
    in_time = round_in_time;
    played = λ sound k l lt. round_one sound k l lt (plays k l (in_round k lt).0);
    first = round_first;
  }
