-- The records are those of the loopers' runs: each looper's calls, frame callbacks and paints are those that its acts cause.
use Rattle.std.proofs.Common.{◌≡◌, ◌≢◌, ◌<◌, ◌≤◌, ◌+◌, ◌-◌, ℕ, zero, suc, Bool, true, false, List, [], ◌∷◌, ◌++◌, map, length, refl, sym, ap, ◌∙◌, subst, arith, slice_index_or, append-nil, Some, inl, inr}
use Rattle.std.specs.Prelude.{◌==◌, ◌||◌, if◌then◌else◌, MatchBool}
use Rattle.std.specs.List.{AllByRecursion, filter_map}
use Rattle.std.proofs.lemmas.Bool.{and_parts, eq-eqb, eqb-true, ne_eqb}
use Rattle.std.proofs.lemmas.List.{map-append, get_or_default, length-replicate}
use mathlib.Core.Logic.{dite}
use mathlib.Core.List.{IsPrefix}
use native.Mathlib.Decide.{ℕ_discrete, dec_lt}
use Rattle.run_model.specs.Planned.{history_of, Makes, AreFor, entries_by, looper_sender, controller, sender_count}
use Rattle.loop_model.specs.declared.call.Call.TheVariants.{Next}
use Rattle.loop_model.specs.declared.entry.Entry.{Entry}
use Rattle.loop_model.specs.Entries.{moment_of}
use Rattle.loop_model.specs.declared.journal.Journal.{Journal}
use Rattle.loop_model.specs.declared.record.QueueRecord.{QueueRecord}
use Rattle.loop_model.specs.declared.reply.Reply.TheVariants.{Disposed}
use Rattle.loop_model.specs.Base.{empty_base}
use Rattle.loop_model.specs.Answers.{has_disposed, Setting}
use Rattle.loop_model.specs.Dispatches.{act_dispatch, call_dispatch}
use Rattle.loop_model.proofs.NumberLaws.{AreNumbered-known}
use Rattle.loop_model.proofs.WellFormedLaws.{All_recursive, All_indexed}
use Rattle.frame_phases.specs.declared.entry.FrameRecord.{FrameRecord}
use Rattle.frame_phases.specs.Frames.{lawful}
use Rattle.dash_script.specs.declared.script.Script.{Script}
use Rattle.dash_script.specs.Causes.{phase_count}
use Rattle.looper_run.specs.Holding.{Sender}
use Rattle.choreographer.specs.Known.{Pass}
use Rattle.run_model.specs.AskedSoFar.{tokens_in}
use Rattle.run_model.specs.Moments.{Mode, IfLockstep}
use Rattle.run_model.specs.Control.{AnyTime, Timing, befores, are_on_time, are_controls, is_controlled}
use Rattle.run_model.specs.Parts.{is_quit_by_others, disposed_count, sent_on}
use Rattle.run_model.specs.Loopers.{LooperState, SentCall, first_looper, ActsLead, closing, IsSent, asked_then, has_frames, pulses_come_first}
use Rattle.run_model.specs.FrameRecords.{asks_in, AreAskedInTurn}
use Rattle.run_model.specs.Run.{IsAsPlanned, IsControlled, IsLooperRun, IsFrameRun, EachLooper, record_setting, caused_on}
use Rattle.run_model.proofs.RunLaws.{AreFor-snoc, sent_on-append, are_on_time-snoc}
use Rattle.run_model.proofs.Growth.{ActsLead-entries}
use Rattle.dash_hall.specs.declared.hall.Hall.{Hall}
use Rattle.dash_hall.specs.declared.kit.Kit.{Kit}
use Rattle.dash_hall.specs.Growth.{own}
use Rattle.dash_hall.specs.Hearing.{seen_by, HaveSeenAll}
use Rattle.dash_hall.specs.Kits.{badge_of, badge_for, IsHall, AreKitsOf}
use Rattle.dash_loopers.specs.declared.looper.StageLooper.{StageLooper}
use Rattle.dash_loopers.specs.Loopers.{is_disposal, calls_among, DisposesLast, HaveTold, IsLooperOf, IsSoundOn}
use Rattle.dash_loopers.specs.PlayingLaws.{sound_front}
use Rattle.loop_model.specs.Legal.{IsLegal, AreNumbered}
use Rattle.dash_stage.specs.declared.control.Controller.{Controller}
use Rattle.dash_stage.specs.Leaving.{HaveGiven}
use Rattle.dash_stage.specs.Playing.{befores_called, AreCallsOnTime}
use Rattle.dash_stage.specs.Records.{AreQueueRecords, AreFrameRecords, AreJournals, AreAllTheirs, HaveAll, HaveSeenOwn}
use Rattle.dash_stage.specs.Sharing.{OfKits}
use Rattle.dash_stage.specs.Stages.{LoopersGoOn}
use Rattle.dash_loopers.proofs.LooperKits.{kit_one}
use Rattle.dash_hall.proofs.Badges.{alike_length, poster_at, queue_count}
use Rattle.dash_stage.specs.Controllers.{IsControllerIn}
use Rattle.dash_stage.specs.Runs.{HaveRunAll}
use Rattle.dash_stage.proofs.Played.Asked.{HasAskedInTurn, asked_by_all}
use Rattle.dash_stage.proofs.Ends.Carried.{numbered_count, threads_asked}
use Rattle.dash_stage.proofs.Controller.Controlling.{turns_on, pass_count}
use Rattle.dash_stage.proofs.Controller.Controls.{main_is_not_disposed, looks_dispose}
use Rattle.dash_stage.proofs.Played.Dispatched.{each_looper, dispatches_of_records}
use Rattle.dash_loopers.proofs.Disposing.{thread_disposes_nothing, controls_dispose_nothing, none_of_all, none_by, none_counted, none_disposed, calls_dispose_nothing, calls_are_all, closing_sent}
use Rattle.dash_stage.proofs.Played.Disposing.{befores_are, befores_end}
use Rattle.dash_stage.proofs.Ends.HallEnds.{some_of}
use Rattle.dash_loopers.proofs.OwnLooks.{NoneDisposes, LooksAtOwn, looks_at_own, none_elsewhere}
use Rattle.dash_loopers.specs.Played.{HasLeft}
use Rattle.dash_stage.proofs.Played.Standing.{StandsAt}
use Rattle.dash_stage.proofs.Stages.Timely.{few, in_posters, within, history, number, is_seen, setting_is}

-- the timings of calls
abbrev timings : List SentCall → List Timing
timings xs = map (λ x. x.timing) xs

-- one call on its own queue, and on another
one_here : (k : ℕ) (x : SentCall) → x.queue ≡ k → sent_on k (x ∷ []) ≡ x ∷ []
one_here k x is = let here = eq-eqb x.queue k is in rw here refl

one_elsewhere : (k : ℕ) (x : SentCall) → x.queue ≢ k → sent_on k (x ∷ []) ≡ []
one_elsewhere k x apart = let there = ne_eqb x.queue k apart in rw there refl

-- the look that closes looper k
abbrev last_look : ℕ → ℕ → SentCall
last_look k at = record { queue = k; ask = Makes (Next at); reply = Some Disposed; timing = AnyTime }

-- on another queue the acts cause no more than the calls so far
closing_elsewhere : (r k at : ℕ) → r ≢ k → (t : Bool) → sent_on r (if t then [] else last_look k at ∷ []) ≡ []
closing_elsewhere r k at apart true = refl
closing_elsewhere r k at apart false = one_elsewhere r (last_look k at) (λ same. apart (sym same))

caused_elsewhere : (r k at : ℕ) (a : LooperState) → r ≢ k → caused_on r a k at ≡ sent_on r a.sent
caused_elsewhere r k at a apart =
    sent_on-append r a.sent (closing k at) ∙ (ap (λ l. sent_on r a.sent ++ l) (closing_elsewhere r k at apart (k == 0)) ∙ append-nil (sent_on r a.sent))

-- main is not closed
caused_main : (k at : ℕ) (a : LooperState) → k ≡ 0 → caused_on k a k at ≡ sent_on k a.sent
caused_main k at a main =
    let none : closing k at ≡ [] = ap (λ (t : Bool). if t then [] else last_look k at ∷ []) (eq-eqb k 0 main) in
    sent_on-append k a.sent (closing k at) ∙ (ap (λ l. sent_on k a.sent ++ sent_on k l) none ∙ append-nil (sent_on k a.sent))

-- another looper's last call closes it
caused_side : (k at : ℕ) (a : LooperState) → 0 < k → caused_on k a k at ≡ sent_on k a.sent ++ last_look k at ∷ []
caused_side k at a side =
    let one : closing k at ≡ last_look k at ∷ [] = ap (λ (t : Bool). if t then [] else last_look k at ∷ []) (ne_eqb k 0 (λ e. absurd (omega (arith, side, e)))) in
    sent_on-append k a.sent (closing k at) ∙ ap (λ l. sent_on k a.sent ++ l) (ap (sent_on k) one ∙ one_here k (last_look k at) refl)

-- what follows in lockstep
pub in_step : (b : Bool) (P Q : Type 0) → (P → Q) → MatchBool b P (Unit {0}) → MatchBool b Q (Unit {0})
in_step true P Q f p = f p
in_step false P Q f p = tt

-- and what holds by its being lockstep
in_step_by : (b : Bool) (P : Type 0) → (b ≡ true → P) → MatchBool b P (Unit {0})
in_step_by true P f = f refl
in_step_by false P f = tt

-- its calls came at their times: on its own queue all but the looks that disposed of it, and on each other queue all
record AreTimely (s : Script) (queues : List QueueRecord) (k : ℕ) (a : LooperState) : Type 0 where
  here : (x : QueueRecord) → are_on_time (timings (sent_on k a.sent)) (befores_called (looper_sender s k) (history_of (slice_index_or queues k x))) ≡ true
  elsewhere : (r : ℕ) (x : QueueRecord) → r < length queues → r ≢ k → are_on_time (timings (sent_on r a.sent)) (befores (looper_sender s k) (history_of (slice_index_or queues r x))) ≡ true

-- what is known of one looper, by its place: where it left, what its poster of each queue made, and what stands in the records
record Known (m : Mode) (s : Script) (queues : List QueueRecord) (k : ℕ) (j : Journal) (f : FrameRecord) (kit : Kit) (a : LooperState) : Type 0 where
  left : HasLeft m.lockstep s k j kit a
  one : k < length queues
  number : (r : ℕ) (x : QueueRecord) → r < length queues → (slice_index_or queues r x).looper ≡ r
  made : (r : ℕ) (x : QueueRecord) (p : Sender) → r < length queues → entries_by (looper_sender s k) (history_of (slice_index_or queues r x)) ≡ own (slice_index_or kit.posters.items r p)
  posters : length queues ≤ length kit.posters.items
  poster : Sender
  seen : (x : QueueRecord) → IsPrefix (slice_index_or kit.posters.items k poster).view.seen (history_of (slice_index_or queues k x))
  pass : Pass
  frames : IsPrefix (slice_index_or kit.frames.items 0 pass).view.seen f.entries
  lawful_ : IsFrameRun s f
  told : (x : QueueRecord) → filter_map act_dispatch j.acts ≡ filter_map (λ e. call_dispatch e.call e.reply) (entries_by (looper_sender s k) (history_of (slice_index_or queues k x)))
  asked : AreAskedInTurn m.lockstep (asks_in f.entries) (asked_then s k a)
  timely : IfLockstep m (AreTimely s queues k a)
  framed : IfLockstep m (has_frames j.acts a ≡ true)

module _ (mode : Mode) (s : Script) (queues : List QueueRecord) (k : ℕ) (j : Journal) (f : FrameRecord) (kit : Kit) (a : LooperState) (h : Known mode s queues k j f kit a) where
  -- its acts lead there
  is_lawful : lawful s.period (phase_count s.edition) f.entries ≡ true
  is_lawful = (λ i. lawful (sym h.lawful_.interval i) (sym h.lawful_.phases i) f.entries) ∙ h.lawful_.lawful

  led : (x : QueueRecord) → ActsLead s k (history_of (slice_index_or queues k x)) f.entries (first_looper s) j.acts a
  led x =
      let begins = h.seen x in
      subst (λ (es : List Entry). ActsLead s k es f.entries (first_looper s) j.acts a) begins.1
      (ActsLead-entries s k (slice_index_or kit.posters.items k h.poster).view.seen f.entries begins.0 (first_looper s) j.acts a (h.left.led h.poster h.pass f.entries h.frames is_lawful))

  -- it looks at its own queue alone
  looks_own : (x : QueueRecord) → LooksAtOwn s k a
  looks_own x = looks_at_own s k (history_of (slice_index_or queues k x)) f.entries j.acts (first_looper s) a (led x) tt

  -- its calls elsewhere
  calls_elsewhere : (r : ℕ) (x : QueueRecord) → r < length queues → r ≢ k → AreFor IsSent [] (sent_on r a.sent) (entries_by (looper_sender s k) (history_of (slice_index_or queues r x)))
  calls_elsewhere r x lt apart =
      let long = h.posters in
      subst (λ (es : List Entry). AreFor IsSent [] (sent_on r a.sent) es) (sym (h.made r x h.poster lt)) (h.left.elsewhere r h.poster apart (omega (arith, lt, long)))

  -- dispose of nothing
  nothing_elsewhere : (r : ℕ) (x : QueueRecord) → r < length queues → r ≢ k → NoneDisposes (entries_by (looper_sender s k) (history_of (slice_index_or queues r x)))
  nothing_elsewhere r x lt apart = none_elsewhere s k r a (entries_by (looper_sender s k) (history_of (slice_index_or queues r x))) apart (looks_own x) (calls_elsewhere r x lt apart)

  -- its calls on its own queue
  calls_here : (x : QueueRecord) → AreFor IsSent [] (sent_on k a.sent) (calls_among (entries_by (looper_sender s k) (history_of (slice_index_or queues k x))))
  calls_here x = subst (λ (es : List Entry). AreFor IsSent [] (sent_on k a.sent) (calls_among es)) (sym (h.made k x h.poster h.one)) (h.left.calls h.poster)

  abbrev CallsAt : ℕ → ℕ → List Entry → Type 0
  CallsAt at r es = AreFor IsSent [] (caused_on r a k at) (entries_by (looper_sender s k) es)

  abbrev TimeAt : ℕ → ℕ → List Entry → Type 0
  TimeAt at r es = are_on_time (timings (caused_on r a k at)) (befores (looper_sender s k) es) ≡ true

  -- what is so on its own queue and on the others makes its run
  run_of : (at : ℕ) (x : QueueRecord) → CallsAt at k (history_of (slice_index_or queues k x)) → (AreTimely s queues k a → TimeAt at k (history_of (slice_index_or queues k x))) → IsLooperRun mode s queues (slice_index_or queues k x) j f
  run_of at x calls time =
      let q = slice_index_or queues k x in
      let is : q.looper ≡ k = h.number k x h.one in
      let each_calls : AllByRecursion (λ (r : QueueRecord). CallsAt at r.looper (history_of r)) queues =
      All_recursive (λ (r : QueueRecord). CallsAt at r.looper (history_of r)) queues (λ r y lt.
      subst (λ (m : ℕ). CallsAt at m (history_of (slice_index_or queues r y))) (sym (h.number r y lt)) (calls_at r y lt)) in
      let each_time : AreTimely s queues k a → AllByRecursion (λ (r : QueueRecord). TimeAt at r.looper (history_of r)) queues =
      λ t. All_recursive (λ (r : QueueRecord). TimeAt at r.looper (history_of r)) queues (λ r y lt.
      subst (λ (m : ℕ). TimeAt at m (history_of (slice_index_or queues r y))) (sym (h.number r y lt)) (time_at t r y lt)) in
      record {
        final = a;
        acts = subst (λ (m : ℕ). ActsLead s m (history_of q) f.entries (first_looper s) j.acts a) (sym is) (led x);
        settled = h.left.settled;
        dispatches = h.told x ∙ ap (λ (m : ℕ). filter_map (λ (e : Entry). call_dispatch e.call e.reply) (entries_by (looper_sender s m) (history_of q))) (sym is);
        disposed_at = at;
        calls = subst (λ (m : ℕ). AllByRecursion (λ (r : QueueRecord). AreFor IsSent [] (caused_on r.looper a m at) (entries_by (looper_sender s m) (history_of r))) queues) (sym is) each_calls;
        asked = subst (λ (m : ℕ). AreAskedInTurn mode.lockstep (asks_in f.entries) (asked_then s m a)) (sym is) h.asked;
        on_time = in_step mode.lockstep (AreTimely s queues k a) (AllByRecursion (λ (r : QueueRecord). are_on_time (timings (caused_on r.looper a q.looper at)) (befores (looper_sender s q.looper) (history_of r)) ≡ true) queues)
            (λ t. subst (λ (m : ℕ). AllByRecursion (λ (r : QueueRecord). are_on_time (timings (caused_on r.looper a m at)) (befores (looper_sender s m) (history_of r)) ≡ true) queues) (sym is) (each_time t)) h.timely;
        pulses = h.framed;
        pulses_first = in_step_by mode.lockstep (pulses_come_first j.acts ≡ true) h.left.pulses_first;
      }
    where
      same : (r : ℕ) (y : QueueRecord) → r ≡ k → r < length queues → (history_of (slice_index_or queues k x)) ≡ (history_of (slice_index_or queues r y))
      same r y here lt = ap (λ (z : QueueRecord). history_of z) (get_or_default queues k x y h.one) ∙ ap (λ m. (history_of (slice_index_or queues m y))) (sym here)

      calls_at : (r : ℕ) (y : QueueRecord) → r < length queues → CallsAt at r (history_of (slice_index_or queues r y))
      calls_at r y lt = dite (ℕ_discrete r k)
          (λ here. subst (λ (m : ℕ). CallsAt at m (history_of (slice_index_or queues r y))) (sym here) (subst (CallsAt at k) (same r y here lt) calls))
          (λ apart. subst (λ l. AreFor IsSent [] l (entries_by (looper_sender s k) (history_of (slice_index_or queues r y)))) (sym (caused_elsewhere r k at a apart)) (calls_elsewhere r y lt apart))

      time_at : AreTimely s queues k a → (r : ℕ) (y : QueueRecord) → r < length queues → TimeAt at r (history_of (slice_index_or queues r y))
      time_at t r y lt = dite (ℕ_discrete r k)
          (λ here. subst (λ (m : ℕ). TimeAt at m (history_of (slice_index_or queues r y))) (sym here) (subst (TimeAt at k) (same r y here lt) (time t)))
          (λ apart.
          ap (λ l. are_on_time (timings l) (befores (looper_sender s k) (history_of (slice_index_or queues r y)))) (caused_elsewhere r k at a apart) ∙ t.elsewhere r y lt apart)

  -- main's
  main_run : (x : QueueRecord) → k ≡ 0 → NoneDisposes (entries_by (looper_sender s k) (history_of (slice_index_or queues k x))) → IsLooperRun mode s queues (slice_index_or queues k x) j f
  main_run x main none =
      let es = (history_of (slice_index_or queues k x)) in
      let all = calls_are_all (entries_by (looper_sender s k) es) none in
      run_of 0 x
      (subst (λ l. AreFor IsSent [] l (entries_by (looper_sender s k) es)) (sym (caused_main k 0 a main)) (subst (λ (l : List Entry). AreFor IsSent [] (sent_on k a.sent) l) all (calls_here x)))
      (λ t. (λ i. are_on_time (timings (caused_main k 0 a main i)) (befores_are (looper_sender s k) es none i)) ∙ t.here x)

  -- another's, which disposes of its queue by its last call
  side_run : (x : QueueRecord) → 0 < k → (e : Entry) → entries_by (looper_sender s k) (history_of (slice_index_or queues k x)) ≡ calls_among (entries_by (looper_sender s k) (history_of (slice_index_or queues k x))) ++ e ∷ [] → is_disposal e ≡ true
      → IsLooperRun mode s queues (slice_index_or queues k x) j f
  side_run x side e whole is =
      let es = (history_of (slice_index_or queues k x)) in
      let cs = calls_among (entries_by (looper_sender s k) es) in
      let at = moment_of e.call in
      let look = last_look k at in
      let ends = befores_end (looper_sender s k) es cs e whole (calls_dispose_nothing (entries_by (looper_sender s k) es)) is in
      let late : are_on_time (AnyTime ∷ []) (ends.0 ∷ []) ≡ true = refl in
      run_of at x
      (subst (λ l. AreFor IsSent [] l (entries_by (looper_sender s k) es)) (sym (caused_side k at a side))
      (subst (λ (l : List Entry). AreFor IsSent [] (sent_on k a.sent ++ look ∷ []) l) (sym whole) (AreFor-snoc IsSent (sent_on k a.sent) look cs e (calls_here x) (closing_sent k (tokens_in cs) e is))))
      (λ t. (λ i. are_on_time (timings (caused_side k at a side i)) (ends.1 i))
      ∙ (ap (λ ts. are_on_time ts (befores_called (looper_sender s k) es ++ ends.0 ∷ [])) (map-append (λ (y : SentCall). y.timing) (sent_on k a.sent) (look ∷ []))
      ∙ are_on_time-snoc (timings (sent_on k a.sent)) AnyTime (befores_called (looper_sender s k) es) ends.0 (t.here x) late))

-- the parts of what is said of the controller's calls on a queue
controlled_parts : (main lockstep : Bool) (n end : ℕ) (es : List Entry) → is_controlled main lockstep n end es ≡ true
    → (are_controls main lockstep end (is_quit_by_others n es) (entries_by n es) ≡ true) × ((main || disposed_count es == 1) ≡ true)
unfolding is_controlled
controlled_parts main lockstep n end es h = and_parts (are_controls main lockstep end (is_quit_by_others n es) (entries_by n es)) (main || disposed_count es == 1) h

-- a history that was not disposed of has no disposal
open_history : (m : ℕ) (es : List Entry) → has_disposed (empty_base m) es ≡ false → NoneDisposes es
unfolding has_disposed
open_history m es h = none_disposed es h

-- a disposal, where one is counted
side_count : (main : Bool) (k : ℕ) → main ≡ false → (main || k == 1) ≡ true → k ≡ 1
side_count true k side h = absurd cc
side_count false k side h = eqb-true k 1 h

module _ (mode : Mode) (s : Script) (hall : Hall) (kits : List Kit) (queues : List QueueRecord) (h : IsHall s hall) (are : AreKitsOf s hall kits) (c : Controller) (held : (d : Kit) → slice_index_or kits (controller s) d ≡ c.kit)
    (recs : AreQueueRecords mode s queues) (all : HaveAll kits queues) (seen : OfKits (HaveSeenAll (seen_by c.kit.posters.items)) kits) (small : s.threads + s.loopers < 100)
    (js : List Journal) (fs : List FrameRecord) (ls : List StageLooper) (are_js : AreJournals s js) (are_fs : AreFrameRecords s fs) (own_seen : HaveSeenOwn s.threads kits fs) (told : HaveTold s js kits)
    (given : HaveGiven s ls js kits) (going : LoopersGoOn ls) (many : length ls ≡ s.loopers) (stands : (k : ℕ) → k < s.loopers → StandsAt mode.lockstep s c js kits k)
    (planned : AllByRecursion (IsAsPlanned mode s) queues) (controls : AllByRecursion (IsControlled s) queues)
    (is_controller : IsControllerIn mode.lockstep s hall c) (run : HaveRunAll mode s kits) (theirs : AreAllTheirs s kits fs) where
  count : length queues ≡ s.loopers
  count = few mode s hall kits queues h are c held recs all seen

  kit_at : ℕ → Kit
  kit_at k = slice_index_or kits (s.threads + k) c.kit

  in_kits : (k : ℕ) → k < length queues → s.threads + k < length kits
  in_kits k lt = let long = are.count in let short = count in omega (arith, lt, long, short)

  in_loopers : (k : ℕ) → k < length queues → k < length ls
  in_loopers k lt = let short = count in omega (arith, lt, short, many)

  in_journals : (k : ℕ) → k < length queues → k < length js
  in_journals k lt = let short = count in let long = numbered_count (λ (z : Journal). z.looper) s.loopers js are_js in omega (arith, lt, short, long)

  in_frames : (k : ℕ) → k < length queues → k < length fs
  in_frames k lt = let short = count in let long = numbered_count (λ (z : FrameRecord). z.looper) s.loopers fs are_fs.loopers in omega (arith, lt, short, long)

  poster_in : (k : ℕ) → k < length queues → k < length (kit_at k).posters.items
  unfolding kit_at
  poster_in k lt = in_posters mode s hall kits queues h are c held recs all seen (s.threads + k) k c.kit (in_kits k lt) lt

  stood : (k : ℕ) → k < length queues → StandsAt mode.lockstep s c js kits k
  stood k lt = stands k (let short = count in omega (arith, lt, short))

  -- what its frame record was asked for was asked in turn by those who ask
  asked : (k : ℕ) (j : Journal) (f : FrameRecord) (p : Pass) (lt : k < length queues)
      → AreAskedInTurn mode.lockstep (asks_in (slice_index_or fs k f).entries) (asked_then s k (stood k lt).state)
  unfolding stood
  asked k j f p lt =
      let short = count in
      let one : k < s.loopers = omega (arith, lt, short) in
      let left = (stood k lt).left j c.kit in
      let passes = pass_count (turns_on h is_controller one) in
      asked_by_all mode.lockstep s k kits c.kit p (stood k lt).state (slice_index_or fs k f).entries (theirs k c.kit p f (in_frames k lt))
      (λ thread below. threads_asked s hall h kits are mode run k thread c.kit p one below) (left.asked p)
      (ap (λ (z : Kit). (slice_index_or z.frames.items k p).view.own) (held c.kit) ∙ is_controller.idle k p (omega (arith, one, passes)))
      (in_step mode.lockstep ((x : Pass) → HasAskedInTurn s k (slice_index_or c.kit.frames.items k x) (stood k lt).state) (HasAskedInTurn s k (slice_index_or (slice_index_or kits (controller s) c.kit).frames.items k p) (stood k lt).state)
      (λ t. subst (λ (z : Kit). HasAskedInTurn s k (slice_index_or z.frames.items k p) (stood k lt).state) (sym (held c.kit)) (t p)) (stood k lt).in_turn)

  -- in lockstep what its poster of its own queue has seen is a history of that queue
  own_sound : mode.lockstep ≡ true → (k : ℕ) (p : Sender) → k < length queues → IsSoundOn s k (slice_index_or (kit_at k).posters.items k p).view.seen
  unfolding kit_at
  own_sound step k p lt =
      let x = some_of queues k lt in
      let mine = slice_index_or queues k x in
      let is = history mode s hall kits queues h are c held recs all seen k x lt in
      let set = setting_is mode s k mine is (number mode s hall kits queues h are c held recs all seen k x lt) step in
      let begins = (all (s.threads + k) k c.kit p x (in_kits k lt) lt).1 in
      let whole : IsSoundOn s k (history_of mine) = record {
        legal = subst (λ (z : Setting). IsLegal z (empty_base z.senders) (history_of mine)) set is.legal;
        numbered = subst (λ (z : Setting). AreNumbered z (empty_base z.senders) (history_of mine)) set is.numbered;
      } in
      sound_front s k (slice_index_or (kit_at k).posters.items k p).view.seen begins.0 (subst (IsSoundOn s k) (sym begins.1) whole)

  -- what is known of each looper
  known : (k : ℕ) (j : Journal) (f : FrameRecord) (lt : k < length queues) → Known mode s queues k (slice_index_or js k j) (slice_index_or fs k f) (kit_at k) (stood k lt).state
  unfolding kit_at stood
  known k j f lt =
      let kit = slice_index_or kits (s.threads + k) c.kit in
      let is = are.each (s.threads + k) c.kit (in_kits k lt) in
      let l = some_of ls k (in_loopers k lt) in
      let long = alike_length badge_of (badge_for (s.threads + k)) kit.posters.items hall.queues.items is.posters ∙ queue_count hall.lockstep s hall.pool hall.queues.items h.queues in
      let short = count in
      let of : IsLooperOf s hall k = record { few = small; one = omega (arith, lt, short); is_hall = h } in
      let single = kit_one s hall k of kit is in
      record {
        left = (stood k lt).left j c.kit;
        one = lt;
        number = number mode s hall kits queues h are c held recs all seen;
        made = λ r x p below. (all (s.threads + k) r c.kit p x (in_kits k lt) below).0;
        posters = omega (arith, short, long);
        poster = some_of kit.posters.items k (poster_in k lt);
        seen = λ x. (all (s.threads + k) k c.kit (some_of kit.posters.items k (poster_in k lt)) x (in_kits k lt) lt).1;
        pass = some_of kit.frames.items 0 (omega (arith, single));
        frames = own_seen k c.kit (some_of kit.frames.items 0 (omega (arith, single))) f (in_frames k lt);
        lawful_ = All_indexed (IsFrameRun s) fs are_fs.lawful k f (in_frames k lt);
        told = λ x. dispatches_of_records s hall h kits are queues js recs.loopers all are_js told k x j lt;
        asked = asked k j f (some_of kit.frames.items 0 (omega (arith, single))) lt;
        timely = in_step mode.lockstep (AreCallsOnTime s c k (stood k lt).state) (AreTimely s queues k (stood k lt).state) (λ on_time. record {
          here = λ x.
              let there = within mode s hall kits queues h are c held recs all seen k lt in
              let d = some_of c.kit.posters.items k there in
              subst (λ (es : List Entry). are_on_time (timings (sent_on k (stood k lt).state.sent)) (befores_called (looper_sender s k) es) ≡ true) (sym (is_seen mode s hall kits queues h are c held recs all seen k d x lt))
              (on_time.own d there);
          elsewhere = λ r x below apart.
              let there = within mode s hall kits queues h are c held recs all seen r below in
              let d = some_of c.kit.posters.items r there in
              subst (λ (es : List Entry). are_on_time (timings (sent_on r (stood k lt).state.sent)) (befores (looper_sender s k) es) ≡ true) (sym (is_seen mode s hall kits queues h are c held recs all seen r d x below))
              (on_time.elsewhere r d apart there);
        }) (stood k lt).on_time;
        framed = in_step_by mode.lockstep (has_frames (slice_index_or js k j).acts (stood k lt).state ≡ true)
            (λ step. (let p = some_of kit.posters.items k (poster_in k lt) in ((stood k lt).left j c.kit).pulses p step (own_sound step k p lt)));
      }

  -- no other sender than its looper disposes of a queue
  others_dispose_nothing : (r : ℕ) (x : QueueRecord) (j : Journal) (f : FrameRecord) → r < length queues → (m : ℕ) → m < sender_count s → m ≢ looper_sender s r → NoneDisposes (entries_by m (history_of (slice_index_or queues r x)))
  others_dispose_nothing r x j f lt m below apart =
      let es = (history_of (slice_index_or queues r x)) in
      dite (dec_lt m s.threads)
      (λ thread. thread_disposes_nothing mode s m (slice_index_or queues r x).looper es (All_indexed (IsAsPlanned mode s) queues planned r x lt m thread))
      (λ no_thread. dite (ℕ_discrete m (controller s))
      (λ is.
      let q = slice_index_or queues r x in
      let parts = controlled_parts q.main q.lockstep (controller s) s.end es (All_indexed (IsControlled s) queues controls r x lt) in
      subst (λ n. NoneDisposes (entries_by n es)) (sym is) (controls_dispose_nothing q.main q.lockstep s.end (is_quit_by_others (controller s) es) (entries_by (controller s) es) parts.0))
      (λ other.
      let k = m - s.threads in
      let is : m ≡ looper_sender s k = omega (arith, no_thread) in
      let short = count in
      let one : k < length queues = omega (arith, below, other, no_thread, short) in
      let elsewhere : r ≢ k = λ same. apart (omega (arith, is, same)) in
      subst (λ n. NoneDisposes (entries_by n es)) (sym is) (nothing_elsewhere mode s queues k (slice_index_or js k j) (slice_index_or fs k f) (kit_at k) (stood k one).state (known k j f one) r x lt elsewhere)))

  -- of its own calls there none disposed of it, or the last one alone did
  own_disposes : (k : ℕ) (x : QueueRecord) (j : Journal) → k < length queues → DisposesLast (entries_by (looper_sender s k) (history_of (slice_index_or queues k x)))
  own_disposes k x j lt =
      let n : ℕ = s.threads + k in
      let l = some_of ls k (in_loopers k lt) in
      let kit = slice_index_or kits n c.kit in
      let badges = (are.each n c.kit (in_kits k lt)).posters in
      let there = in_posters mode s hall kits queues h are c held recs all seen n k c.kit (in_kits k lt) lt in
      let p = some_of kit.posters.items k there in
      let poster = slice_index_or kit.posters.items k p in
      let short = count in
      let in_queues : k < length hall.queues.items = omega (arith, lt, short, queue_count hall.lockstep s hall.pool hall.queues.items h.queues) in
      let sender = (poster_at n hall.queues.items kit.posters.items badges k p (some_of hall.queues.items k in_queues) there).1 in
      let made = (all n k c.kit p x (in_kits k lt) lt).0 in
      subst DisposesLast (ap (λ (m : ℕ). entries_by m poster.view.seen) (sym sender) ∙ sym made) ((given k l j c.kit (in_journals k lt)).disposes (going k l (in_loopers k lt)) p)

  -- each looper's run
  looper_run : (k : ℕ) (x : QueueRecord) (j : Journal) (f : FrameRecord) → k < length queues → IsLooperRun mode s queues (slice_index_or queues k x) (slice_index_or js k j) (slice_index_or fs k f)
  looper_run zero x j f lt =
      let q = slice_index_or queues zero x in
      let is = history mode s hall kits queues h are c held recs all seen zero x lt in
      let main = is.main ∙ eq-eqb q.looper 0 (number mode s hall kits queues h are c held recs all seen zero x lt) in
      main_run mode s queues zero (slice_index_or js zero j) (slice_index_or fs zero f) (kit_at zero) (stood zero lt).state (known zero j f lt) x refl
      (none_by (looper_sender s zero) (history_of q) (open_history q.senders (history_of q) (main_is_not_disposed (record_setting q) q.senders main (history_of q) is.legal)))
  looper_run (suc k) x j f lt = by_last (own_disposes (suc k) x j lt)
    where
      by_last : DisposesLast (entries_by (looper_sender s (suc k)) (history_of (slice_index_or queues (suc k) x))) → IsLooperRun mode s queues (slice_index_or queues (suc k) x) (slice_index_or js (suc k) j) (slice_index_or fs (suc k) f)
      by_last (inl none) = (
          let q = slice_index_or queues (suc k) x in
          let is = history mode s hall kits queues h are c held recs all seen (suc k) x lt in
          let side : q.main ≡ false = is.main ∙ ne_eqb q.looper 0 (λ e. absurd (let place = number mode s hall kits queues h are c held recs all seen (suc k) x lt in omega (arith, e, place))) in
          let mine : NoneDisposes (entries_by (looper_sender s (suc k)) (history_of q)) = subst NoneDisposes none (calls_dispose_nothing (entries_by (looper_sender s (suc k)) (history_of q))) in
          let senders = is.senders in
          let by_each : (m : ℕ) → m < q.senders → NoneDisposes (entries_by m (history_of q)) = λ m below. dite (ℕ_discrete m (looper_sender s (suc k)))
          (λ same. subst (λ n. NoneDisposes (entries_by n (history_of q))) (sym same) mine)
          (λ apart. others_dispose_nothing (suc k) x j f lt m (omega (arith, below, senders)) apart) in
          let all_known = AreNumbered-known (record_setting q) (empty_base q.senders) (history_of q) (length-replicate q.senders 0) is.numbered in
          let every = none_of_all q.senders (history_of q) (subst (λ n. AllByRecursion (λ (e : Entry). e.sender < n) (history_of q)) (length-replicate q.senders 0) all_known) by_each in
          let zero_ : disposed_count (history_of q) ≡ 0 = none_counted (history_of q) (looks_dispose (record_setting q) q.senders (history_of q) is.legal) every in
          let one_ : disposed_count (history_of q) ≡ 1 = side_count q.main (disposed_count (history_of q)) side (controlled_parts q.main q.lockstep (controller s) s.end (history_of q) (All_indexed (IsControlled s) queues controls (suc k) x lt)).1 in
          absurd (let wrong : ◌≡◌ {A = ℕ} 0 1 = sym zero_ ∙ one_ in omega (arith, wrong)))
      by_last (inr last) =
          side_run mode s queues (suc k) (slice_index_or js (suc k) j) (slice_index_or fs (suc k) f) (kit_at (suc k)) (stood (suc k) lt).state (known (suc k) j f lt) x (omega arith) last.0 last.1 last.2

  -- the loopers' runs
  pub loopers_of_records : EachLooper (IsLooperRun mode s queues) queues js fs
  loopers_of_records =
      let short = count in
      let many_js = numbered_count (λ (z : Journal). z.looper) s.loopers js are_js in
      let many_fs = numbered_count (λ (z : FrameRecord). z.looper) s.loopers fs are_fs.loopers in
      each_looper (IsLooperRun mode s queues) queues js fs (many_js ∙ sym short) (many_fs ∙ sym short) looper_run
