-- What a stage's beginning, a block and the controller's turns make of what all senders have seen.
use Rattle.std.proofs.Common.{◌≡◌, ◌≢◌, ◌<◌, ◌≤◌, ◌+◌, ◌==◌, ◌⊎◌, inl, inr, ℕ, Bool, suc, true, ◌-◌, false, List, [], ◌∷◌, ◌++◌, map, length, filter, refl, sym, ap, ◌∙◌, subst, arith, true≢false, Option, Some, None, ap₂}
use Rattle.std.specs.Prelude.{slice_index_or, IsTrue, is_some, not, if◌then◌else◌}
use Rattle.std.specs.List.{AllByRecursion}
use Rattle.std.proofs.lemmas.Bool.{ne_eqb, cases_Bool, and_from, false_from_ne_true}
use Rattle.std.proofs.lemmas.List.{length-append, length-replicate, get_or_default}
use mathlib.Core.List.{IsPrefix}
use mathlib.Core.Logic.{dite}
use native.Mathlib.Decide.{ℕ_discrete, dec_lt}
use Rattle.loop_model.specs.declared.entry.Entry.{Entry}
use Rattle.loop_model.specs.Base.{empty_base}
use Rattle.loop_model.specs.Entries.{is_next, is_disposed, is_quit_done}
use Rattle.loop_model.specs.Legal.{IsLegal, AreNumbered, CallFitsTime}
use Rattle.loop_model.proofs.NumberLaws.{AreNumbered-known}
use Rattle.loop_model.proofs.Prefixes.{prefix_self}
use Rattle.dash_script.specs.declared.script.Block.{Block}
use Rattle.dash_script.specs.declared.script.Line.{Line}
use Rattle.dash_script.specs.declared.script.Script.{Script}
use Rattle.dash_script.specs.Reading.{times_rise}
use Rattle.looper_run.specs.Holding.{Sender}
use Rattle.run_model.specs.Planned.{controller, sender_count, AreFor, entries_by, token_in, TimedCommand, lines_of, labels_on, lines_on, looper_sender}
use Rattle.run_model.specs.Moments.{in_lockstep}
use Rattle.run_model.specs.Parts.{lines_in}
use Rattle.run_model.specs.Control.{is_call_in_time, is_called_in_time, are_before_quit, ends_halted, befores, before, InBlock, is_on_time, are_on_time, AreReached, is_advance, is_halt, come_first}
use Rattle.run_model.specs.Run.{are_in_order}
use Rattle.run_model.proofs.RunLaws.{entries_by-append, entries_by-others, lines_on-append}
use Rattle.dash_threads.specs.declared.thread.PostingThread.{PostingThread}
use Rattle.dash_loopers.specs.declared.looper.StageLooper.{StageLooper}
use Rattle.dash_stage.specs.declared.control.Controller.{Controller}
use Rattle.dash_stage.specs.declared.stage.Stage.{Stage}
use Rattle.dash_hall.specs.Growth.{own}
use Rattle.dash_stage.specs.Controllers.{are_advances, IsMoving}
use Rattle.dash_threads.specs.Threads.{IsUpTo, HasCalled}
use Rattle.dash_loopers.specs.Loopers.{IsSoundOn, is_disposal, setting_for, is_given_up, LooperKeeps, HasNoneDue, posters_of, until_of}
use Rattle.dash_stage.specs.Stages.{IsStage, HaveRunInLockstep, LoopersGoOn, AreThreads, AreLoopers}
use Rattle.dash_hall.specs.Hearing.{AtEach, HaveHeard, seen_by}
use Rattle.dash_stage.specs.Sharing.{HaveSeenTheSame, OfThreads, OfLoopers}
use Rattle.dash_stage.specs.Timeliness.{whole_on, AreSound, IsTimelyUpTo, AreTimelyUpTo, TurnsOn, EachTurnsOn, HasHaltedLast, AreRested, MovesNot, WaitForNothing}
use Rattle.dash_stage.specs.Playing.{AreAtBlock, befores_called, HaveBegun, IsInStep}
use Rattle.dash_loopers.proofs.OwnLooks.{NoneDisposes}
use Rattle.dash_loopers.proofs.Disposing.{lines_dispose_nothing, none_of_all, none_answered}
use Rattle.dash_stage.proofs.Controller.Controls.{looks_dispose}
use Rattle.dash_stage.proofs.BlockTimes.{lines_more, main_reached, nothing_first}
use Rattle.run_model.proofs.FreshLaws.{all_reached_on, one_reached}
use Rattle.run_model.proofs.BlockOrder.{called_in, in_order_block, in_order_one}
use Rattle.dash_stage.proofs.Stages.Timely.{back_all, in_time_one, in_time_more, before_quit_one, before_quit_block, moves_quit_not, timely_others, timely_block}
use Rattle.dash_stage.proofs.Ends.HallEnds.{some_of}
use Rattle.dash_stage.proofs.Stages.StageWhole.{Turned, as_many, controller_entries, thread_entries, looper_made_none, sound_front, sound_grown, none_behind, controls_above, longer, turned_on, turned_left, sound_by_turns, queues_count}
use Rattle.loop_model.specs.declared.call.Call.{Call}
use Rattle.loop_model.specs.declared.call.Call.TheVariants.{Post, Barrier, Unbarrier, Remove, Quit, Next, Advance, Halt}
use Rattle.loop_model.specs.declared.reply.Reply.{Reply}
use Rattle.loop_model.specs.declared.reply.Reply.TheVariants.{QuitDone, NotAllowed}
use Rattle.loop_model.specs.Live.{live}
use Rattle.loop_model.specs.Pick.{first_eligible, pick}
use Rattle.loop_model.specs.Answers.{Setting, answer, clock, quit_place, quit_reply, has_disposed, has_halted}
use Rattle.loop_model.proofs.LegalLaws.{IsLegal-last}
use Rattle.looper_run.specs.Round.{is_ended}
use Rattle.run_model.proofs.ControlLaws.{advance_alone}
use Rattle.std.specs.Option.{option_map}
use Rattle.atomic_table.specs.Seated.{TableId}
use Rattle.shared_queue.specs.Known.{Shared}
use Rattle.loop_model.specs.Items.{when_of}
use Rattle.run_model.specs.Loopers.{first_looper}
use Rattle.dash_hall.specs.Kits.{badge_of, badge_for, ArePostersOf, IsHall, AreUnseen}
use Rattle.dash_hall.proofs.Badges.{alike_length, queue_count}
use Rattle.dash_loopers.proofs.LooperShares.{looper_posters}

-- ==== what a block of the threads, and the controller's turns that move no time, make of what all senders have seen of each queue

-- ---- lists and histories

-- the entries for lines are as many as the lines
pub for_count : {X : Type 0} (P : List ℕ → X → Entry → Type 0) (tokens : List ℕ) (xs : List X) (es : List Entry) → AreFor P tokens xs es → length xs ≡ length es
for_count P tokens [] [] h = refl
for_count P tokens [] (e ∷ es) h = absurd h
for_count P tokens (x ∷ xs) [] h = absurd h
for_count P tokens (x ∷ xs) (e ∷ es) h = ap suc (for_count P (tokens ++ token_in e.reply) xs es h.1)

all_same : (time : ℕ) (ls : List Line) → AllByRecursion (λ (t : TimedCommand). t.time ≡ time) (map (λ (l : Line). record { time = time; command = l.command }) ls)
all_same time [] = tt
all_same time (l ∷ ls) = (refl, all_same time ls)

-- a thread's lines in a block have the block's time
lines_at : (k : ℕ) (b : Block) → AllByRecursion (λ (t : TimedCommand). t.time ≡ b.time) (lines_in k b)
lines_at k b = all_same b.time (filter (λ l. l.thread == k) b.lines)

-- ---- a block

-- a thread that has come so far has made a call for each of its lines there
called_count : (s : Script) (bs : List Block) (k : ℕ) (t : PostingThread) → t.number ≡ k → IsUpTo in_lockstep s (lines_of k bs) t → (q : ℕ) (d : Sender) → q < length t.kit.posters.items
    → length (lines_on s (labels_on q (lines_of k s.blocks)) q (lines_of k bs)) ≡ length (own (slice_index_or t.kit.posters.items q d))
called_count s bs k t number up q d lt = for_count _ [] _ _ (subst (λ n. HasCalled in_lockstep s (lines_of k bs) n t.kit.posters.items) number up.called q d lt)

-- and it has disposed of nothing there
called_none : (s : Script) (bs : List Block) (k : ℕ) (t : PostingThread) → t.number ≡ k → IsUpTo in_lockstep s (lines_of k bs) t → (q : ℕ) (d : Sender) → q < length t.kit.posters.items
    → NoneDisposes (own (slice_index_or t.kit.posters.items q d))
called_none s bs k t number up q d lt =
    lines_dispose_nothing in_lockstep s (labels_on q (lines_of k s.blocks)) q [] _ _ (subst (λ n. HasCalled in_lockstep s (lines_of k bs) n t.kit.posters.items) number up.called q d lt)

module _ (s : Script) (q : ℕ) (es whole : List Entry) (front : IsPrefix es whole) (sound : IsSoundOn s q whole) (controlled : entries_by (controller s) whole ≡ entries_by (controller s) es) where
  -- the controller called nothing
  in_time_behind : is_called_in_time (controller s) whole ≡ is_called_in_time (controller s) es
  in_time_behind = ap (is_called_in_time (controller s)) (sym front.1) ∙ in_time_more (controller s) es front.0 (none_behind (controller s) es whole front controlled)

  -- nothing disposed of the queue where only threads called, and none of them did
  none_disposed_on : ((k : ℕ) → k < s.threads → NoneDisposes (entries_by k whole)) → ((k : ℕ) → k < sender_count s → s.threads ≤ k → entries_by k whole ≡ entries_by k es) → AllByRecursion (λ e. is_disposed e.reply ≡ false) front.0
  none_disposed_on theirs none =
      let set = setting_for s q in
      let base = empty_base (sender_count s) in
      let legal = subst (IsLegal set base) (sym front.1) sound.legal in
      let numbered = subst (AreNumbered set base) (sym front.1) sound.numbered in
      let known : AllByRecursion (λ (e : Entry). e.sender < sender_count s) front.0 =
      back_all (λ e. e.sender < sender_count s) es front.0 (subst (λ n. AllByRecursion (λ (e : Entry). e.sender < n) (es ++ front.0)) (length-replicate (sender_count s) 0) (AreNumbered-known set base (es ++ front.0) (length-replicate (sender_count s) 0) numbered)) in
      let by_each : (k : ℕ) → k < sender_count s → NoneDisposes (entries_by k front.0) = λ k below. dite (dec_lt k s.threads)
      (λ thread. back_all (λ e. is_disposal e ≡ false) (entries_by k es) (entries_by k front.0) (subst NoneDisposes (sym (ap (entries_by k) front.1) ∙ entries_by-append k es front.0) (theirs k thread)))
      (λ other. subst NoneDisposes (sym (none_behind k es whole front (none k below (omega (arith, other))))) tt) in
      none_answered front.0 (back_all (λ e. is_disposed e.reply ≡ true → is_next e.call ≡ true) es front.0 (looks_dispose set (sender_count s) (es ++ front.0) legal)) (none_of_all (sender_count s) front.0 known by_each)

  -- a thread that has made the calls of one block more, while nothing disposed of the queue, is on time
  block_on_time : (past : List Block) (b : Block) (k : ℕ) → AllByRecursion (λ e. is_disposed e.reply ≡ false) front.0 → is_on_time (InBlock b.time) (before es) ≡ true → (let labels = labels_on q (lines_of k s.blocks) in
      length (lines_on s labels q (lines_of k past)) ≡ length (entries_by k es) → length (lines_on s labels q (lines_of k (past ++ b ∷ []))) ≡ length (entries_by k whole)
      → are_on_time (map (λ l. InBlock l.time) (lines_on s labels q (lines_of k past))) (befores k es) ≡ true
      → are_on_time (map (λ l. InBlock l.time) (lines_on s labels q (lines_of k (past ++ b ∷ [])))) (befores k whole) ≡ true)
  block_on_time past b k keeps at were are h =
      let set = setting_for s q in
      let base = empty_base (sender_count s) in
      let labels = labels_on q (lines_of k s.blocks) in
      let numbered = subst (AreNumbered set base) (sym front.1) sound.numbered in
      let legal = subst (IsLegal set base) (sym front.1) sound.legal in
      let more = lines_more k past b in
      let lines : length (lines_on s labels q (lines_of k (past ++ b ∷ []))) ≡ length (lines_on s labels q (lines_of k past)) + length (lines_on s labels q (lines_in k b)) =
      ap (λ l. length (lines_on s labels q l)) (sym more) ∙ ap length (lines_on-append s labels q (lines_of k past) (lines_in k b)) ∙ length-append (lines_on s labels q (lines_of k past)) (lines_on s labels q (lines_in k b)) in
      let entries : length (entries_by k whole) ≡ length (entries_by k es) + length (entries_by k front.0) =
      ap (λ l. length (entries_by k l)) (sym front.1) ∙ ap length (entries_by-append k es front.0) ∙ length-append (entries_by k es) (entries_by k front.0) in
      let long : length (entries_by k front.0) ≡ length (lines_on s labels q (lines_in k b)) = omega (arith, were, are, lines, entries) in
      subst (λ (ls : List TimedCommand). are_on_time (map (λ l. InBlock l.time) (lines_on s labels q ls)) (befores k whole) ≡ true) more
      (subst (λ (l : List Entry). are_on_time (map (λ l. InBlock l.time) (lines_on s labels q (lines_of k past ++ lines_in k b))) (befores k l) ≡ true) front.1
      (timely_block set (controller s) refl refl s labels q k b.time (lines_of k past) (lines_in k b) es front.0 legal numbered (none_behind (controller s) es whole front controlled) keeps at (lines_at k b) long h))

-- the controller's posters, which have heard others, have its entries as before
pub heard_entries : (s : Script) (st st' : Stage) → IsStage s st → IsStage s st' → HaveHeard st.controller.kit.posters.items st'.controller.kit.posters.items → (q : ℕ) (d : Sender) → q < length st.controller.kit.posters.items
    → entries_by (controller s) (whole_on st'.controller q d) ≡ entries_by (controller s) (whole_on st.controller q d)
heard_entries s st st' is is' heard q d lt =
    controller_entries s st' is' q d (subst (λ (n : ℕ). q < n) (sym heard.long) lt) ∙ (heard.each q d lt).called ∙ sym (controller_entries s st is q d lt)

-- where the loopers only heard others, no sender but the threads has made anything
pub only_threads : (s : Script) (st st' : Stage) → IsStage s st → IsStage s st' → HaveSeenTheSame st → HaveSeenTheSame st' → AtEach (LooperKeeps HaveHeard) st.loopers.items st'.loopers.items
    → HaveHeard st.controller.kit.posters.items st'.controller.kit.posters.items → (q : ℕ) (d : Sender) → q < length st.controller.kit.posters.items
    → (k : ℕ) → k < sender_count s → s.threads ≤ k → entries_by k (whole_on st'.controller q d) ≡ entries_by k (whole_on st.controller q d)
only_threads s st st' is is' same same' kept heard q d lt k known above = dite (ℕ_discrete k (controller s))
    (λ at. subst (λ (m : ℕ). entries_by m (whole_on st'.controller q d) ≡ entries_by m (whole_on st.controller q d)) (sym at) (heard_entries s st st' is is' heard q d lt))
    (λ apart.
    let at : s.threads + (k - s.threads) ≡ k = omega (arith, above) in
    let looper : k - s.threads < s.loopers = omega (arith, above, known, apart) in
    subst (λ (m : ℕ). entries_by m (whole_on st'.controller q d) ≡ entries_by m (whole_on st.controller q d)) at (looper_made_none s st st' is is' same same' kept heard.long q (k - s.threads) d lt looper))

-- the next block, which the threads have run at its time, where the controller has only moved the time so far
pub block_timely : (s : Script) (st st' : Stage) (b : Block) (past rest : List Block) → past ++ b ∷ rest ≡ s.blocks → IsTrue (times_rise s.blocks) → IsMoving s st.controller → IsStage s st → IsStage s st' → HaveRunInLockstep s past st.threads.items → HaveRunInLockstep s (past ++ b ∷ []) st'.threads.items
    → AtEach (LooperKeeps HaveHeard) st.loopers.items st'.loopers.items → HaveHeard st.controller.kit.posters.items st'.controller.kit.posters.items → HaveSeenTheSame st' → (AreSound s st.controller → AreAtBlock s b.time st)
    → AreTimelyUpTo s past st → AreTimelyUpTo s (past ++ b ∷ []) st'
block_timely s st st' b past rest next rising moving is is' run run' kept heard same' at timely = record {
  same = same';
  timely = λ sounds q d lt'.
      let sound' = sounds q d lt' in
      let sounds_before = sound_grown s st.controller st'.controller heard.long (λ r e here. (heard.each r e here).more) sounds in
      let lt : q < length st.controller.kit.posters.items = subst (λ (n : ℕ). q < n) heard.long lt' in
      let es = whole_on st.controller q d in
      let whole = whole_on st'.controller q d in
      let front : IsPrefix es whole = (heard.each q d lt).more in
      let controlled = heard_entries s st st' is is' heard q d lt in
      let was = timely.timely sounds_before q d lt in
      let theirs : (k : ℕ) → k < s.threads → NoneDisposes (entries_by k whole) = λ k few.
      let in_st' : k < length st'.threads.items = subst (λ (n : ℕ). k < n) (sym is'.threads.0) few in
      let z' = some_of st'.threads.items k in_st' in
      let t' : PostingThread = slice_index_or st'.threads.items k z' in
      let here' : q < length t'.kit.posters.items = subst (λ (n : ℕ). q < n) (sym (as_many t'.kit.posters.items st'.controller.kit.posters.items (same'.threads k z' in_st'))) lt' in
      subst NoneDisposes (sym (thread_entries s st' is' same' k q z' d d in_st' lt')) (called_none s (past ++ b ∷ []) k t' (is'.threads.1 k z' in_st').1 (run' k z' in_st') q d here') in
      let were : (k : ℕ) → k < s.threads → called_in s q k past ≡ length (entries_by k es) = λ k few.
      let in_st : k < length st.threads.items = subst (λ (n : ℕ). k < n) (sym is.threads.0) few in
      let z = some_of st.threads.items k in_st in
      let t : PostingThread = slice_index_or st.threads.items k z in
      let here : q < length t.kit.posters.items = subst (λ (n : ℕ). q < n) (sym (as_many t.kit.posters.items st.controller.kit.posters.items (timely.same.threads k z in_st))) lt in
      called_count s past k t (is.threads.1 k z in_st).1 (run k z in_st) q d here ∙ ap length (sym (thread_entries s st is timely.same k q z d d in_st lt)) in
      let are : (k : ℕ) → k < s.threads → called_in s q k (past ++ b ∷ []) ≡ length (entries_by k whole) = λ k few.
      let in_st' : k < length st'.threads.items = subst (λ (n : ℕ). k < n) (sym is'.threads.0) few in
      let z' = some_of st'.threads.items k in_st' in
      let t' : PostingThread = slice_index_or st'.threads.items k z' in
      let here' : q < length t'.kit.posters.items = subst (λ (n : ℕ). q < n) (sym (as_many t'.kit.posters.items st'.controller.kit.posters.items (same'.threads k z' in_st'))) lt' in
      called_count s (past ++ b ∷ []) k t' (is'.threads.1 k z' in_st').1 (run' k z' in_st') q d here' ∙ ap length (sym (thread_entries s st' is' same' k q z' d d in_st' lt')) in
      let keeps = none_disposed_on s q es whole front sound' controlled theirs (only_threads s st st' is is' timely.same same' kept heard q d lt) in record {
        controls = in_time_behind s q es whole front sound' controlled ∙ was.controls;
        before_quit = subst (λ (l : List Entry). are_before_quit s.threads (controller s) l ≡ true) front.1
            (before_quit_block s.threads (controller s) es front.0 (none_behind (controller s) es whole front controlled)
            (moves_quit_not s.end (controller s) es (ap (are_advances s.end) (controller_entries s st is q d lt) ∙ moving q d lt)) was.before_quit);
        threads = λ k few. block_on_time s q es whole front sound' controlled past b k keeps (at sounds_before q d lt).on_time (were k few) (are k few) (was.threads k few);
        in_order = subst (λ (l : List Entry). are_in_order s q l ≡ true) front.1
            (in_order_block s q past rest b next rising es front.0 were (λ k few. are k few ∙ ap (λ (l : List Entry). length (entries_by k l)) (sym front.1)) was.in_order);
        reached = λ main. subst (AreReached (past ++ b ∷ [])) front.1
            (all_reached_on (past ++ b ∷ []) es front.0 (one_reached past b es (was.reached main)
            (main_reached s b.time es (subst (λ (n : ℕ). IsSoundOn s n es) main (sounds_before q d lt)) (ap (are_advances s.end) (controller_entries s st is q d lt) ∙ moving q d lt) (at sounds_before q d lt).on_time)));
      };
}

-- ---- turns of the controller that move no time

-- a history stays timely by one entry of the controller that is in time
timely_other : (s : Script) (past : List Block) (q : ℕ) (es : List Entry) (e : Entry) → is_call_in_time es e.call e.reply ≡ true → e.sender ≡ controller s → IsTimelyUpTo s past q es → IsTimelyUpTo s past q (es ++ e ∷ [])
timely_other s past q es e in_time sender timely = record {
  controls = in_time_one (controller s) es e in_time timely.controls;
  before_quit = before_quit_one s.threads (controller s) es e (controls_above s e sender) timely.before_quit;
  threads = λ k lt. timely_others k _ es (e ∷ []) (entries_by-others k (e ∷ []) (ne_eqb e.sender k (λ at. absurd (omega (arith, at, sender, lt))), tt)) (timely.threads k lt);
  in_order = in_order_one s q es e (controls_above s e sender) timely.in_order;
  reached = λ main. all_reached_on past es (e ∷ []) (timely.reached main);
}

-- what the controller's turn left is in time
abbrev pub IsInTimeBy : (Entry → Type 0) → Script → ℕ → List Entry → Type 0
IsInTimeBy P s q es = (e : Entry) → IsSoundOn s q (es ++ e ∷ []) → P e → is_call_in_time es e.call e.reply ≡ true

-- a history stays timely by a turn of the controller that is in time
timely_turned : (P : Entry → Type 0) (s : Script) (past : List Block) (q : ℕ) (es whole : List Entry) → IsInTimeBy P s q es → IsSoundOn s q whole
    → (whole ≡ es) ⊎ ((e : Entry) × (whole ≡ es ++ e ∷ []) × P e × (e.sender ≡ controller s)) → (IsSoundOn s q es → IsTimelyUpTo s past q es) → IsTimelyUpTo s past q whole
timely_turned P s past q es whole in_time sound (inl same) timely = subst (IsTimelyUpTo s past q) (sym same) (timely (subst (IsSoundOn s q) same sound))
timely_turned P s past q es whole in_time sound (inr t) timely =
    let e : Entry = t.0 in
    let before = sound_front s q es whole (e ∷ [], sym t.1) sound in
    subst (IsTimelyUpTo s past q) (sym t.1) (timely_other s past q es e (in_time e (subst (IsSoundOn s q) t.1 sound) t.2) t.3 (timely before))

-- a controller that has taken no turn
pub turns_none : (P : Entry → Type 0) (c : Controller) → EachTurnsOn P c c
turns_none P c = record {
  long = refl;
  each = λ q d lt. record { found = (slice_index_or c.kit.posters.items q d).view.seen; begins = prefix_self (slice_index_or c.kit.posters.items q d).view.seen; made = refl; sender = refl; step = inl refl };
}

-- the queues from this one on are as they were
abbrev pub AreKeptFrom : ℕ → Controller → Controller → Type 0
AreKeptFrom n first now = (q : ℕ) (d : Sender) → n ≤ q → slice_index_or now.kit.posters.items q d ≡ slice_index_or first.kit.posters.items q d

-- one queue more had its turn, and the others none
pub turns_more : (P : Entry → Type 0) (first now after : Controller) (n : ℕ) → EachTurnsOn P first now → AreKeptFrom n first now → length after.kit.posters.items ≡ length now.kit.posters.items
    → ((d : Sender) → TurnsOn P (slice_index_or now.kit.posters.items n d) (slice_index_or after.kit.posters.items n d))
    → ((q : ℕ) (d : Sender) → q ≢ n → slice_index_or after.kit.posters.items q d ≡ slice_index_or now.kit.posters.items q d)
    → EachTurnsOn P first after × AreKeptFrom (n + 1) first after
turns_more P first now after n turns kept long here elsewhere = (
  record {
    long = long ∙ turns.long;
    each = λ q d lt. dite (ℕ_discrete q n)
        (λ at. subst (λ (m : ℕ). TurnsOn P (slice_index_or first.kit.posters.items m d) (slice_index_or after.kit.posters.items m d)) (sym at)
        (subst (λ (p : Sender). TurnsOn P p (slice_index_or after.kit.posters.items n d)) (kept n d (omega arith)) (here d)))
        (λ apart. subst (λ (p : Sender). TurnsOn P (slice_index_or first.kit.posters.items q d) p) (sym (elsewhere q d apart)) (turns.each q d lt));
  },
  λ q d le. elsewhere q d (λ at. absurd (omega (arith, at, le))) ∙ kept q d (omega (arith, le)),
)

-- over turns behind which all have seen the same again
module _ {lockstep : Bool} {P : Entry → Type 0} {s : Script} {st : Stage} {c : Controller} {st' : Stage} (o : Turned lockstep P s st c st') where
  -- the histories stay timely, where on each queue no turn was taken, or what it left is in time
  pub turned_timely : (past : List Block) → ((q : ℕ) (d : Sender) → q < length st.controller.kit.posters.items → (slice_index_or c.kit.posters.items q d ≡ slice_index_or st.controller.kit.posters.items q d) ⊎ IsInTimeBy P s q (whole_on st.controller q d))
      → AreTimelyUpTo s past st → AreTimelyUpTo s past st'
  turned_timely past in_time timely = record {
    same = o.same';
    timely = λ sounds q d lt'.
        let sound = sounds q d lt' in
        let lt : q < length st.controller.kit.posters.items = subst (λ (n : ℕ). q < n) (longer o) lt' in
        let es = whole_on st.controller q d in
        let whole = whole_on st'.controller q d in
        let was = timely.timely (sound_by_turns o sounds) q d lt in
        elim (in_time q d lt) [
          | inl kept ↦ subst (IsTimelyUpTo s past q) (sym (turned_left o q d lt sound.numbered ∙ ap (λ (p : Sender). p.view.seen) kept)) was
          | inr one ↦ timely_turned P s past q es whole one sound (turned_on o q d lt sound.numbered) (λ so. was)
        ];
  }

  -- where the controller halted main, main's history ends with the halt
  pub halted_stays : ((d : Sender) → ends_halted (whole_on c 0 d) ≡ true) → HasHaltedLast s st'
  halted_stays halted d lt numbered = ap ends_halted (turned_left o 0 d (subst (λ (n : ℕ). 0 < n) (longer o) lt) numbered) ∙ halted d

-- ---- what stays while others are heard

-- the loopers go on
pub go_on_kept : (R : List Sender → List Sender → Type 0) (ls ls' : List StageLooper) → AtEach (LooperKeeps R) ls ls' → LoopersGoOn ls → LoopersGoOn ls'
go_on_kept R ls ls' kept on k d lt =
    let within : k < length ls = subst (λ (n : ℕ). k < n) kept.long lt in
    ap is_given_up (kept.each k d within).last ∙ on k d within

-- ==== the controller's turns at the end: its quits and its halt are in time

-- ---- the halt

-- a halt is in time
pub halt_in_time : (es : List Entry) (c : Call) (r : Reply) → is_halt c ≡ true → is_call_in_time es c r ≡ true
halt_in_time es (Halt now) r h = refl
halt_in_time es (Post p) r h = absurd cc
halt_in_time es (Barrier now) r h = absurd cc
halt_in_time es (Unbarrier t) r h = absurd cc
halt_in_time es (Remove f) r h = absurd cc
halt_in_time es (Quit safe now) r h = absurd cc
halt_in_time es (Next now) r h = absurd cc
halt_in_time es (Advance now) r h = absurd cc

-- and moves no time
pub halt_moves_not : (c : Call) → is_halt c ≡ true → is_advance c ≡ false
halt_moves_not c halts = false_from_ne_true (is_advance c) (λ moves. true≢false (sym halts ∙ (advance_alone c moves).0))

-- ---- the quits

-- the number of senders changes nothing of what is due
pick_same : (m now : ℕ) (es : List Entry) → pick (empty_base m) es now ≡ pick (empty_base 0) es now
unfolding pick first_eligible live
pick_same m now es = refl

module _ (set : Setting) (m : ℕ) (es : List Entry) (side : set.main ≡ false) (lockstep : set.lockstep ≡ true) (quiet : HasNoneDue (empty_base m) es (clock (empty_base m) es)) where
  -- a quit of a queue that isn't quitting is done
  quit_done : (safe : Bool) (now : ℕ) (r : Reply) → answer set (empty_base m) es (Quit safe now) ≡ Some r → is_quit_done r ≡ true
  unfolding answer
  quit_done safe now r is =
      let said : Some (if set.main then NotAllowed else quit_reply (quit_place (empty_base m) es)) ≡ Some QuitDone =
      ap (λ (b : Bool). Some (if b then NotAllowed else quit_reply (quit_place (empty_base m) es))) side ∙ ap (λ (o : Option ℕ). Some (quit_reply o)) quiet.not_quitting in
      let same : Some QuitDone ≡ Some r = sym said ∙ is in
      let reply : QuitDone ≡ r = cc in
      ap is_quit_done (sym reply)

  -- and none is due at its moment
  none_due : (now : ℕ) → now ≡ clock (empty_base m) es → is_some (pick (empty_base 0) es now) ≡ false
  none_due now at = ap is_some (sym (pick_same m now es) ∙ (ap (pick (empty_base m) es) at ∙ quiet.none))

  -- so a call that moves no time is in time
  in_time_by_call : (c : Call) (r : Reply) → answer set (empty_base m) es c ≡ Some r → CallFitsTime true (clock (empty_base m) es) c → is_advance c ≡ false → is_call_in_time es c r ≡ true
  in_time_by_call (Quit safe now) r is at h = and_from _ _ (quit_done safe now r is) (ap not (none_due now at))
  in_time_by_call (Halt now) r is at h = refl
  in_time_by_call (Post p) r is at h = refl
  in_time_by_call (Barrier now) r is at h = refl
  in_time_by_call (Unbarrier t) r is at h = refl
  in_time_by_call (Remove f) r is at h = refl
  in_time_by_call (Next now) r is at h = refl
  in_time_by_call (Advance now) r is at h = absurd cc

-- on a side queue that has none due, what moves no time is in time
side_in_time : (s : Script) (q : ℕ) (es : List Entry) → 0 < q → HasNoneDue (empty_base (sender_count s)) es (clock (empty_base (sender_count s)) es) → IsInTimeBy MovesNot s q es
side_in_time s q es side quiet e sound moves_not =
    let may = IsLegal-last (setting_for s q) (empty_base (sender_count s)) es e sound.legal in
    in_time_by_call (setting_for s q) (sender_count s) es (ne_eqb q 0 (λ z. absurd (omega (arith, z, side)))) refl quiet e.call e.reply may.reply may.timely moves_not

-- main's queue, and each whose looper has ended, is as it was
abbrev pub AreKeptWhereEnded : List StageLooper → Controller → Controller → Type 0
AreKeptWhereEnded ls first now = (q : ℕ) (d : Sender) → (0 ≡ q) ⊎ ((l : StageLooper) → is_ended (slice_index_or ls q l).last ≡ true) → slice_index_or now.kit.posters.items q d ≡ slice_index_or first.kit.posters.items q d

-- so it is after a turn on the queue of a looper that hasn't ended
pub kept_where_ended : (ls : List StageLooper) (first now after : Controller) (n : ℕ) (l : StageLooper) → 0 < n → is_ended (slice_index_or ls n l).last ≡ false → AreKeptWhereEnded ls first now
    → ((q : ℕ) (d : Sender) → q ≢ n → slice_index_or after.kit.posters.items q d ≡ slice_index_or now.kit.posters.items q d) → AreKeptWhereEnded ls first after
kept_where_ended ls first now after n l side going kept elsewhere q d why = elsewhere q d (apart why) ∙ kept q d why
  where
    apart : (0 ≡ q) ⊎ ((l : StageLooper) → is_ended (slice_index_or ls q l).last ≡ true) → q ≢ n
    apart (inl main) at = absurd (omega (arith, main, at, side))
    apart (inr ended) at = true≢false (sym (subst (λ (m : ℕ). is_ended (slice_index_or ls m l).last ≡ true) at (ended l)) ∙ going)

-- what the quits left of loopers that have come to rest and haven't ended is in time, where no other queue was quit
pub quit_in_time : (s : Script) (st : Stage) (c : Controller) → IsStage s st → AreKeptWhereEnded st.loopers.items st.controller c → AreRested s st → (q : ℕ) (d : Sender) → q < length st.controller.kit.posters.items
    → (slice_index_or c.kit.posters.items q d ≡ slice_index_or st.controller.kit.posters.items q d) ⊎ IsInTimeBy MovesNot s q (whole_on st.controller q d)
quit_in_time s st c is kept rested q d lt = dite (ℕ_discrete q 0)
    (λ main. inl (kept q d (inl (sym main))))
    (λ side.
    let in_loopers : q < length st.loopers.items = subst (λ (n : ℕ). q < n) (queues_count s st is) lt in
    let l : StageLooper = some_of st.loopers.items q in_loopers in
    elim (cases_Bool (is_ended (slice_index_or st.loopers.items q l).last)) [
      | inl ended ↦ inl (kept q d (inr (λ k. subst (λ (z : StageLooper). is_ended z.last ≡ true) (get_or_default st.loopers.items q l k in_loopers) ended)))
      | inr going ↦ inr (side_in_time s q (whole_on st.controller q d) (omega (arith, side)) ((rested q l d in_loopers).quiet going))
    ])

-- ==== a stage whose senders have seen nothing

-- posters that have seen nothing have seen the same
unseen_same : (ps cs : List Sender) → length ps ≡ length cs → AreUnseen ps → AreUnseen cs → seen_by ps ≡ seen_by cs
unseen_same [] [] long a b = refl
unseen_same [] (c ∷ cs) long a b = absurd (omega (arith, long))
unseen_same (p ∷ ps) [] long a b = absurd (omega (arith, long))
unseen_same (p ∷ ps) (c ∷ cs) long a b =
    ap₂ (λ (x : List Entry) (xs : List (List Entry)). x ∷ xs) (a 0 p (omega arith) ∙ sym (b 0 c (omega arith)))
    (unseen_same ps cs (omega (arith, long)) (λ q d lt. a (suc q) d (omega (arith, lt))) (λ q d lt. b (suc q) d (omega (arith, lt))))

-- senders' posters of the same queues are as many
as_long : (k n : ℕ) (qs : List (Shared TableId)) (ps cs : List Sender) → ArePostersOf k qs ps → ArePostersOf n qs cs → length ps ≡ length cs
as_long k n qs ps cs a b = alike_length badge_of (badge_for k) ps qs a ∙ sym (alike_length badge_of (badge_for n) cs qs b)

-- with no call seen and no block run each history is timely
nothing_timely : (s : Script) (q : ℕ) → IsTimelyUpTo s [] q []
unfolding is_called_in_time are_before_quit befores are_in_order
nothing_timely s q = record { controls = refl; before_quit = refl; threads = λ k lt. refl; in_order = refl; reached = λ main. tt }

-- there is no message before the first call
nothing_eligible : (n : ℕ) → option_map when_of (first_eligible (empty_base n) []) ≡ None
unfolding first_eligible live
nothing_eligible n = refl

-- and the queue is neither over nor quitting, and has none due
nothing_due : (n : ℕ) → HasNoneDue (empty_base n) [] (clock (empty_base n) [])
unfolding has_disposed has_halted quit_place pick first_eligible live clock
nothing_due n = record { going = refl; not_quitting = refl; none = refl }

-- and its clock shows 0
nothing_timed : (n : ℕ) → clock (empty_base n) [] ≡ 0
unfolding clock
nothing_timed n = refl

-- no call was made
nothing_called : (k : ℕ) → are_on_time [] (befores_called k []) ≡ true
unfolding befores_called
nothing_called k = refl

nothing_stood : (k : ℕ) → are_on_time [] (befores k []) ≡ true
unfolding befores
nothing_stood k = refl

module _ (s : Script) (st : Stage) (k : ℕ) (is_hall : IsHall s st.hall) where
  -- the histories are timely, and all have seen the same
  pub begins_timely : AreThreads s st.hall st.threads.items → AreLoopers s st.hall st.loopers.items → ArePostersOf k st.hall.queues.items st.controller.kit.posters.items
      → OfThreads AreUnseen st.threads.items → OfLoopers AreUnseen st.loopers.items → AreUnseen st.controller.kit.posters.items → AreTimelyUpTo s [] st
  begins_timely threads loopers controller of_threads of_loopers unseen = record {
    same = record {
      threads = λ n d lt. unseen_same (slice_index_or st.threads.items n d).kit.posters.items st.controller.kit.posters.items
          (as_long (slice_index_or st.threads.items n d).number k st.hall.queues.items (slice_index_or st.threads.items n d).kit.posters.items st.controller.kit.posters.items (threads.1 n d lt).0.posters controller) (of_threads n d lt) unseen;
      loopers = λ n d lt. unseen_same (posters_of (slice_index_or st.loopers.items n d)) st.controller.kit.posters.items
          (as_long _ k st.hall.queues.items (posters_of (slice_index_or st.loopers.items n d)) st.controller.kit.posters.items (looper_posters s st.hall is_hall (slice_index_or st.loopers.items n d) (loopers.1 n d lt).0) controller) (of_loopers n d lt) unseen;
      controller = refl;
    };
    timely = λ sound q d lt. subst (IsTimelyUpTo s [] q) (sym (unseen q d lt)) (nothing_timely s q);
  }

  -- the loopers wait for nothing
  pub begins_rested : AreLoopers s st.hall st.loopers.items → ArePostersOf k st.hall.queues.items st.controller.kit.posters.items → AreUnseen st.controller.kit.posters.items → WaitForNothing st.loopers.items → AreRested s st
  begins_rested loopers controller unseen waits = λ q l d lt.
      let queues : length st.controller.kit.posters.items ≡ s.loopers = alike_length badge_of (badge_for k) st.controller.kit.posters.items st.hall.queues.items controller ∙ queue_count st.hall.lockstep s st.hall.pool st.hall.queues.items is_hall.queues in
      let none = unseen q d (subst (λ (n : ℕ). q < n) (loopers.0 ∙ sym queues) lt) in
      let wait = waits q l lt in record {
        quiet = λ on. subst (λ (es : List Entry). HasNoneDue (empty_base (sender_count s)) es (clock (empty_base (sender_count s)) es)) (sym none) (nothing_due (sender_count s));
        waits = λ on. ap until_of wait ∙ sym (ap (λ (es : List Entry). option_map when_of (first_eligible (empty_base (sender_count s)) es)) none ∙ nothing_eligible (sender_count s));
        ended = λ over. absurd (let wrong : false ≡ true = sym (ap is_ended wait) ∙ over in cc);
      }

  -- the queues are at time 0, and each looper stands at the state before the first act
  pub begins_in_step : AreTimelyUpTo s [] st → AreLoopers s st.hall st.loopers.items → ArePostersOf k st.hall.queues.items st.controller.kit.posters.items → AreUnseen st.controller.kit.posters.items → st.time ≡ 0
      → HaveBegun s st.loopers.items → IsInStep s st
  begins_in_step timely loopers controller unseen zero begun = record {
    same = timely.same;
    in_time = λ sound q l d lt.
        let queues : length st.controller.kit.posters.items ≡ s.loopers = alike_length badge_of (badge_for k) st.controller.kit.posters.items st.hall.queues.items controller ∙ queue_count st.hall.lockstep s st.hall.pool st.hall.queues.items is_hall.queues in
        inl (ap (clock (empty_base (sender_count s))) (unseen q d (subst (λ (n : ℕ). q < n) (loopers.0 ∙ sym queues) lt)) ∙ (nothing_timed (sender_count s) ∙ sym zero));
    first = λ sound q d lt. ap (come_first s.threads) (unseen q d lt) ∙ nothing_first s.threads;
    played = λ sound n l lt. record {
      state = first_looper s;
      come = begun n l lt;
      on_time = record {
        own = λ d near. ap (λ es. are_on_time [] (befores_called (looper_sender s (slice_index_or st.loopers.items n l).number) es)) (unseen _ d near) ∙ nothing_called (looper_sender s (slice_index_or st.loopers.items n l).number);
        elsewhere = λ r d apart near. ap (λ es. are_on_time [] (befores (looper_sender s (slice_index_or st.loopers.items n l).number) es)) (unseen r d near) ∙ nothing_stood (looper_sender s (slice_index_or st.loopers.items n l).number);
      };
    };
  }
