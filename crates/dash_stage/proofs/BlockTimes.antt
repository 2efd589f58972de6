-- When the blocks come and in which order, and what a script's limits say of them.
use Rattle.std.proofs.Common.{◌≡◌, ◌<◌, ◌+◌, ℕ, List, [], ◌∷◌, ◌++◌, length, take, drop, sym, ap, ◌∙◌, subst, slice_index_or, ◌≤◌, inl, inr, true, false, refl, arith, max, Bool, map}
use Rattle.std.proofs.lemmas.List.{take_more, drop_more, take-append-drop, flat_map_more}
use Rattle.std.proofs.lemmas.Grind.{flat_map-append}
use Rattle.dash_script.specs.declared.script.Block.{Block}
use Rattle.dash_script.specs.declared.script.Script.{Script}
use Rattle.run_model.specs.Planned.{TimedCommand, lines_of, entries_by, controller, sender_count}
use Rattle.run_model.specs.Parts.{lines_in, is_threads, comes_first}
use Rattle.dash_threads.specs.declared.thread.PostingThread.{PostingThread}
use Rattle.run_model.specs.Moments.{in_lockstep}
use Rattle.dash_threads.specs.Threads.{IsUpTo}
use Rattle.dash_stage.specs.Stages.{HaveRunInLockstep, EachRunsBlock, IsPlayable}
use Rattle.std.specs.Prelude.{not, nat_lt, ◌==◌, if◌then◌else◌, zero, suc, ◌&&◌, nat_le, IsTrue}
use Rattle.std.specs.List.{AllByRecursion, list_all, flat_map, enumerate_from}
use Rattle.std.proofs.lemmas.Bool.{and_from, or_left, or_right, eq-eqb, le-ltb, lt-ltb, cases_Bool, or_parts, eqb-true, and_parts, leb-true, ltb-true}
use mathlib.Core.Logic.{dite}
use native.Mathlib.Decide.{dec_lt}
use Rattle.loop_model.specs.declared.base.Base.{Base}
use Rattle.loop_model.specs.declared.entry.Entry.{Entry}
use Rattle.loop_model.specs.Base.{empty_base}
use Rattle.loop_model.specs.Answers.{Setting, clock, has_disposed, has_halted}
use Rattle.loop_model.specs.Legal.{AreNumbered}
use Rattle.loop_model.proofs.AfterLaws.{disposed_stays}
use Rattle.run_model.specs.Control.{each_behind, come_first, Before, before, InBlock, is_on_time, is_reached}
use Rattle.run_model.proofs.ControlLaws.{each_behind-snoc, each_behind-append}
use Rattle.run_model.proofs.RunLaws.{entries_by-others, entries_by-own, entries_by-unchanged}
use Rattle.run_model.proofs.FreshLaws.{fresh_called, start_reached, reached_on, reached_by_last}
use Rattle.dash_stage.specs.AtBlocks.{IsFresh}
use Rattle.dash_stage.proofs.Stages.Timely.{of_others, own_of_none, numbered_next, no_threads, clock_same, has_disposed_same}
use Rattle.loop_model.specs.Entries.{moment_of}
use Rattle.loop_model.proofs.Growing.{entry_by_entry}
use Rattle.dash_loopers.specs.Loopers.{IsSoundOn, setting_for}
use Rattle.dash_stage.specs.Controllers.{are_advances, time_in}
use Rattle.dash_stage.proofs.Controller.Controls.{own_advances, time_in-snoc, time_by_controller, main_is_not_over}
use Rattle.std.proofs.lemmas.List.Folds.{list_all-append}
use Rattle.std.proofs.lemmas.List.Sums.{AllPass-from_list_all}
use Rattle.std.proofs.lemmas.Bool.Decides.{nat_tests}
use Rattle.dash_script.specs.declared.statement.Statement.{Statement}
use Rattle.dash_script.specs.declared.form.LineKind.TheVariants as kind
use Rattle.dash_script.specs.Text.{script_lines, lines_before_end, say, opening_lines, handler_statement, gauge_statement, rule_line, block_lines}
use Rattle.dash_script.specs.Causes.{numbers_pass, is_within, each_number}
use Rattle.dash_script.specs.Reading.{HasText, times_rise}

-- ==== one block more

module _ (bs : List Block) (i : ℕ) (b : Block) (lt : i < length bs) (is : b ≡ slice_index_or bs i b) where
  -- the blocks before, this one and those behind it are all
  pub blocks_next : take i bs ++ b ∷ drop (i + 1) bs ≡ bs
  blocks_next = ap (λ (l : List Block). take i bs ++ l) (ap (λ (x : Block). x ∷ drop (i + 1) bs) is ∙ sym (drop_more bs i b lt)) ∙ take-append-drop i bs

  -- with this block they are one block more
  pub blocks_past : take i bs ++ b ∷ [] ≡ take (i + 1) bs
  blocks_past = ap (λ (x : Block). take i bs ++ x ∷ []) is ∙ sym (take_more bs i b lt)

-- a thread's lines of the blocks before, and of this one
pub lines_more : (k : ℕ) (past : List Block) (b : Block) → lines_of k past ++ lines_in k b ≡ lines_of k (past ++ b ∷ [])
lines_more k past b = flat_map_more (lines_in k) [] past b

-- the threads have run one block more
pub run_one_more : (s : Script) (past rest : List Block) (b : Block) → past ++ b ∷ rest ≡ s.blocks → (ts ts' : List PostingThread)
    → ((k : ℕ) (d : PostingThread) → k < length ts → (slice_index_or ts k d).number ≡ k) → length ts' ≡ length ts → EachRunsBlock s b ts ts' → HaveRunInLockstep s past ts → HaveRunInLockstep s (past ++ b ∷ []) ts'
run_one_more s past rest b whole ts ts' numbers long on run = λ k d below.
    let lt = subst (λ n. k < n) long below in
    let t = slice_index_or ts k d in
    let t' = slice_index_or ts' k d in
    let goes : (p r : List TimedCommand) → p ++ (lines_in k b ++ r) ≡ lines_of k s.blocks → IsUpTo in_lockstep s p t → IsUpTo in_lockstep s (p ++ lines_in k b) t' =
    subst (λ m. (p r : List TimedCommand) → p ++ (lines_in m b ++ r) ≡ lines_of m s.blocks → IsUpTo in_lockstep s p t → IsUpTo in_lockstep s (p ++ lines_in m b) t') (numbers k d lt) (on k d lt) in
    subst (λ (l : List TimedCommand). IsUpTo in_lockstep s l t') (lines_more k past b)
    (goes (lines_of k past) (lines_of k rest) (sym (flat_map-append (lines_in k) past (b ∷ rest)) ∙ ap (lines_of k) whole) (run k d lt))

-- ==== the threads' calls come first at their time, over entries of threads and of others

pub nothing_first : (threads : ℕ) → come_first threads [] ≡ true
unfolding come_first
nothing_first threads = refl

-- a thread called last
thread_called : (threads : ℕ) (es : List Entry) (e : Entry) → nat_lt e.sender threads ≡ true → IsFresh threads es → IsFresh threads (es ++ e ∷ [])
thread_called threads es e thread (inl gone) = inl (disposed_stays (empty_base 0) es (e ∷ []) gone)
thread_called threads es e thread (inr fresh) = inr (fresh_called (is_threads threads) es e thread fresh)

-- what comes then comes first
one_comes_first : (threads : ℕ) (past : List Entry) (e : Entry) → IsFresh threads past → comes_first threads past e ≡ true
one_comes_first threads past e (inl gone) = or_right _ _ (or_left _ _ gone)
one_comes_first threads past e (inr fresh) = or_right _ _ (or_right _ _ fresh)

-- entries of threads alone
threads_come_first : (threads : ℕ) (past es : List Entry) → AllByRecursion (λ e. nat_lt e.sender threads ≡ true) es → IsFresh threads past → each_behind (comes_first threads) past es ≡ true
threads_come_first threads past [] all fresh = refl
threads_come_first threads past (e ∷ es) all fresh =
    and_from _ _ (one_comes_first threads past e fresh) (threads_come_first threads (past ++ e ∷ []) es all.1 (thread_called threads past e all.0 fresh))

-- come first behind a move of the time
pub first_block : (threads : ℕ) (es more : List Entry) → AllByRecursion (λ e. nat_lt e.sender threads ≡ true) more → IsFresh threads es → come_first threads es ≡ true → come_first threads (es ++ more) ≡ true
unfolding come_first
first_block threads es more all fresh h = each_behind-append (comes_first threads) [] es more ∙ and_from _ _ h (threads_come_first threads es more all fresh)

-- one more entry, which is no thread's
pub first_one : (threads : ℕ) (es : List Entry) (e : Entry) → threads ≤ e.sender → come_first threads es ≡ true → come_first threads (es ++ e ∷ []) ≡ true
unfolding come_first
first_one threads es e above h = each_behind-snoc (comes_first threads) [] es e h (or_left _ _ (ap not (le-ltb e.sender threads above)))

others_come_first : (threads : ℕ) (past es : List Entry) → AllByRecursion (λ e. nat_lt e.sender threads ≡ false) es → each_behind (comes_first threads) past es ≡ true
others_come_first threads past [] others = refl
others_come_first threads past (e ∷ es) others = and_from _ _ (or_left _ _ (ap not others.0)) (others_come_first threads (past ++ e ∷ []) es others.1)

-- entries of which no thread has one
pub first_more : (threads : ℕ) (es more : List Entry) → ((k : ℕ) → k < threads → entries_by k more ≡ []) → come_first threads es ≡ true → come_first threads (es ++ more) ≡ true
unfolding come_first
first_more threads es more none h = each_behind-append (comes_first threads) [] es more ∙ and_from _ _ h (others_come_first threads es more (no_threads threads more none))

-- where none but threads made anything more, the rest is theirs
pub all_threads : (set : Setting) (b : Base) (threads : ℕ) (es more : List Entry) → AreNumbered set b (es ++ more) → ((k : ℕ) → k < set.senders → threads ≤ k → entries_by k more ≡ [])
    → AllByRecursion (λ e. nat_lt e.sender threads ≡ true) more
all_threads set b threads es [] numbered none = tt
all_threads set b threads es (e ∷ more) numbered none =
    let next = numbered_next set b es more e numbered in (
      dite (dec_lt e.sender threads)
          (λ below. lt-ltb e.sender threads below)
          (λ above. absurd (own_of_none e.sender e more (eq-eqb e.sender e.sender refl) (none e.sender next.0.known (omega (arith, above))))),
      all_threads set b threads (es ++ e ∷ []) more next.1 (λ k known above. entries_by-others k more (of_others k (e ∷ more) (none k known above)).1),
    )

-- ==== the times to which a queue's time was moved, as its history goes on, and that main's was moved to a block's at its start

-- where a sender has only moved the time, the time to which it has moved was reached
pub time_is_reached : (k end : ℕ) (es : List Entry) → are_advances end (entries_by k es) ≡ true → is_reached (time_in (entries_by k es)) es ≡ true
unfolding clock
time_is_reached k end = entry_by_entry (λ es. are_advances end (entries_by k es) ≡ true → is_reached (time_in (entries_by k es)) es ≡ true)
    (λ h. start_reached [])
    (λ es e before h.
    let moves = own_advances end k es e h in
    let was = before moves.0 in
    let gone : ℕ = time_in (entries_by k es) in
    let now : ℕ = moment_of e.call in
    elim (cases_Bool (e.sender == k)) [
      | inl own ↦
          let grown : time_in (entries_by k (es ++ e ∷ [])) ≡ max gone now = ap time_in (entries_by-own k es e own) ∙ time_in-snoc (entries_by k es) e in
          dite (dec_lt gone now)
          (λ later. subst (λ (t : ℕ). is_reached t (es ++ e ∷ []) ≡ true) (let at : now ≡ time_in (entries_by k (es ++ e ∷ [])) = omega (arith, later, grown) in at) (reached_by_last es e (moves.1 own)))
          (λ late. subst (λ (t : ℕ). is_reached t (es ++ e ∷ []) ≡ true) (let at : gone ≡ time_in (entries_by k (es ++ e ∷ [])) = omega (arith, late, grown) in at) (reached_on gone es (e ∷ []) was))
      | inr other ↦ subst (λ (t : ℕ). is_reached t (es ++ e ∷ []) ≡ true) (sym (ap time_in (entries_by-unchanged k es (e ∷ []) (other, tt)))) (reached_on gone es (e ∷ []) was)
    ])

-- a queue that stands in a block and was not disposed of shows the block's time
clock_in_block : (time : ℕ) (b : Before) → is_on_time (InBlock time) b ≡ true → b.disposed ≡ false → b.clock ≡ time
clock_in_block time b on_time kept = eqb-true b.clock time (sym (ap (λ (t : Bool). if t then nat_lt b.clock time else b.clock == time) kept) ∙ on_time)

-- main stands in a block, so that its time was moved to the block's
pub main_reached : (s : Script) (time : ℕ) (es : List Entry) → IsSoundOn s 0 es → are_advances s.end (entries_by (controller s) es) ≡ true
    → is_on_time (InBlock time) (before es) ≡ true → is_reached time es ≡ true
main_reached s time es sound moving on_time =
    let base = empty_base (sender_count s) in
    let going = main_is_not_over (setting_for s 0) (controller s) refl refl s.end es sound.legal sound.numbered moving in
    let kept : has_disposed (empty_base 0) es ≡ false = sym (has_disposed_same (sender_count s) es) ∙ (or_parts (has_disposed base es) (has_halted base es) going).0 in
    let shows : clock base es ≡ time = clock_same (sender_count s) es ∙ clock_in_block time (before es) on_time kept in
    let moved : time_in (entries_by (controller s) es) ≡ time = sym (time_by_controller (setting_for s 0) (controller s) refl refl es sound.legal sound.numbered) ∙ shows in
    subst (λ (t : ℕ). is_reached t es ≡ true) moved (time_is_reached (controller s) s.end es moving)

-- ==== a script's loopers and threads are few, its period is not 0, and no block comes after its end

between : (low high n : ℕ) → IsTrue ((nat_le low n && nat_le n high) && true) → n ≤ high
between low high n h = grind (arith, nat_tests)

-- of a list whose members all pass, the second and the third pass
second_and_third : (p : Statement → Bool) (a b c : Statement) (rest : List Statement) → IsTrue (list_all p (a ∷ b ∷ c ∷ rest)) → IsTrue (p b) × IsTrue (p c)
second_and_third p a b c rest h =
    let behind = (and_parts _ _ h).1 in
    let last = (and_parts _ _ behind).1 in
    ((and_parts _ _ behind).0, (and_parts _ _ last).0)

at_least : (low high n : ℕ) → IsTrue ((nat_le low n && nat_le n high) && true) → low ≤ n
at_least low high n h = grind (arith, nat_tests)

front_passes : (p : Statement → Bool) (xs ys : List Statement) → IsTrue (list_all p (xs ++ ys)) → IsTrue (list_all p xs)
front_passes p xs ys h = (and_parts _ _ (sym (list_all-append p xs ys) ∙ h)).0

back_passes : (p : Statement → Bool) (xs ys : List Statement) → IsTrue (list_all p (xs ++ ys)) → IsTrue (list_all p ys)
back_passes p xs ys h = (and_parts _ _ (sym (list_all-append p xs ys) ∙ h)).1

pub few : (s : Script) → HasText s → (s.loopers ≤ 8) × (s.threads ≤ 16) × (1 ≤ s.loopers)
unfolding lines_before_end each_number
few s h =
    let both = second_and_third (numbers_pass (is_within s)) (say (if s.edition == 2 then kind.Edition2 else kind.Edition1) []) (say kind.Loopers (s.loopers ∷ [])) (say kind.Threads (s.threads ∷ [])) (drop 3 (script_lines s)) h.limits in
    (between 1 8 s.loopers both.0, between 1 16 s.threads both.1, at_least 1 8 s.loopers both.0)

pub paced : (s : Script) → HasText s → 1000000 ≤ s.period
unfolding lines_before_end each_number
paced s h =
    let p = numbers_pass (is_within s) in
    let handlers = map handler_statement (enumerate_from 0 s.handlers) in
    let gauges = map gauge_statement (enumerate_from 0 s.gauges) in
    let vsync = say kind.Vsync (s.period ∷ []) ∷ [] in
    let rules = map rule_line s.rules in
    let blocks = flat_map block_lines s.blocks in
    let all = front_passes p (opening_lines s ++ handlers ++ gauges ++ vsync ++ rules ++ blocks) (say kind.End (s.end ∷ []) ∷ []) h.limits in
    let ruled = front_passes p (opening_lines s ++ handlers ++ gauges ++ vsync ++ rules) blocks all in
    let timed = front_passes p (opening_lines s ++ handlers ++ gauges ++ vsync) rules ruled in
    at_least 1000000 1000000000 s.period (and_parts _ _ (back_passes p (opening_lines s ++ handlers ++ gauges) vsync timed)).0

-- no run takes longer than a day
pub ends_early : (s : Script) → HasText s → s.end ≤ 86400000
unfolding lines_before_end each_number
ends_early s h =
    let p = numbers_pass (is_within s) in
    let handlers = map handler_statement (enumerate_from 0 s.handlers) in
    let gauges = map gauge_statement (enumerate_from 0 s.gauges) in
    let vsync = say kind.Vsync (s.period ∷ []) ∷ [] in
    let rules = map rule_line s.rules in
    let blocks = flat_map block_lines s.blocks in
    between 0 86400000 s.end (and_parts _ _ (back_passes p (opening_lines s ++ handlers ++ gauges ++ vsync ++ rules ++ blocks) (say kind.End (s.end ∷ []) ∷ []) h.limits)).0

-- so it can be played
pub playable : (s : Script) → HasText s → IsPlayable s
playable s h =
    let small = few s h in
    let least = paced s h in
    let a = small.0 in
    let b = small.1 in
    let some = small.2 in
    record { loopers = omega (arith, some); period = omega (arith, least); few = omega (arith, a, b) }

-- no block comes after the end
pub before_end : (s : Script) (i : ℕ) (b : Block) → HasText s → i < length s.blocks → b ≡ slice_index_or s.blocks i b → b.time ≤ s.end
before_end s i b h lt is =
    leb-true b.time s.end (subst (λ (z : Block). nat_le z.time s.end ≡ true) (sym is) (AllPass-from_list_all (λ (z : Block). nat_le z.time s.end) s.blocks h.end i b lt))

-- where times rise, each is earlier than one behind it
rises : (bs : List Block) → IsTrue (times_rise bs) → (i j : ℕ) (d e : Block) → i < j → j < length bs → (slice_index_or bs i d).time < (slice_index_or bs j e).time
rises [] h i j d e less lt = absurd (omega (arith, lt))
rises (b ∷ bs) h i zero d e less lt = absurd (omega (arith, less))
rises (b ∷ bs) h zero (suc j) d e less lt =
    let later = AllPass-from_list_all (λ (z : Block). nat_lt b.time z.time) bs (and_parts _ _ h).0 j e (omega (arith, lt)) in
    ltb-true b.time (slice_index_or bs j e).time later
rises (b ∷ bs) h (suc i) (suc j) d e less lt = rises bs (and_parts _ _ h).1 i j d e (omega (arith, less)) (omega (arith, lt))

-- the next block is later than this one
pub before_next : (s : Script) (i : ℕ) (b d : Block) → HasText s → b ≡ slice_index_or s.blocks i b → i + 1 < length s.blocks → b.time < (slice_index_or s.blocks (i + 1) d).time
before_next s i b d h is lt = subst (λ (z : Block). z.time < (slice_index_or s.blocks (i + 1) d).time) (sym is) (rises s.blocks h.times i (i + 1) b d (omega arith) lt)
