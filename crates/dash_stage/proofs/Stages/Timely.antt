-- What senders have seen is timely, from one step to the next and into the records.
use Rattle.std.proofs.Common.{◌≡◌, ℕ, ◌<◌, ◌≤◌, ◌+◌, suc, Bool, true, false, List, [], ◌∷◌, ◌++◌, map, length, refl, sym, ap, ◌∙◌, subst, arith, inl, inr, append_assoc, ◌==◌, slice_index_or}
use Rattle.std.specs.Prelude.{◌&&◌, ◌||◌, not, nat_lt, filter, if◌then◌else◌}
use Rattle.std.specs.List.{AllByRecursion, remove}
use Rattle.std.proofs.Math.Bool.{and-true, or-false}
use Rattle.std.proofs.lemmas.Bool.{and_parts, and_from, or_from, or_left, or_right, false_from_ne_true, eq-eqb, le-leb, lt-ltb, ltb-true}
use Rattle.std.proofs.lemmas.List.Folds.{list_any-append}
use Rattle.std.proofs.lemmas.List.{append-nil, append_cancel_left, map-append, get_or-map}
use mathlib.Core.List.{IsPrefix}
use Rattle.dash_script.specs.declared.script.Script.{Script}
use Rattle.loop_model.specs.declared.base.Base.{Base}
use Rattle.loop_model.specs.declared.entry.Entry.{Entry}
use Rattle.loop_model.specs.Entries.{is_halted, is_disposed}
use Rattle.loop_model.specs.Base.{empty_base}
use Rattle.loop_model.specs.Answers.{Setting, clock, has_disposed}
use Rattle.loop_model.specs.Legal.{IsLegal, AreNumbered, IsNextOfSender, AreNumberedAfter}
use Rattle.loop_model.proofs.AfterLaws.{has_disposed-snoc, disposed_stays}
use Rattle.loop_model.proofs.Growing.{entry_by_entry}
use Rattle.loop_model.proofs.LegalLaws.{IsLegal-front}
use Rattle.loop_model.proofs.NumberLaws.{AreNumbered-front, AreNumbered-last}
use Rattle.loop_model.proofs.Sorting.{AllByRecursion-filter, AllByRecursion-weaker}
use Rattle.run_model.specs.Planned.{entries_by, TimedCommand, lines_on, history_of, controller, sender_count, lines_of, labels_on}
use Rattle.run_model.specs.Control.{is_quit, is_call_in_time, each_behind, is_called_in_time, are_before_quit, ends_halted, Before, before, befores, befores_from, Timing, At, InBlock, is_on_time, are_on_time, AreReached, come_first, AreBlocksFirst, main_entries, AreBlocksReached}
use Rattle.run_model.specs.Parts.{comes_in_time, has_quit_by, comes_before_quit, befores_after, all_entries, IsBeforeQuit}
use Rattle.run_model.proofs.ControlLaws.{each_behind-snoc, each_behind-append, advance_alone}
use Rattle.run_model.proofs.RunLaws.{AreOfOthers, entries_by-append, entries_by-others, entries_by-unchanged, befores_after-append, befores-others, lines_on-append}
use Rattle.dash_stage.specs.Timeliness.{IsAtTime, whole_on, AreSound, IsTimelyUpTo}
use Rattle.dash_stage.specs.Controllers.{are_advances, time_in}
use Rattle.dash_stage.proofs.Controller.Controls.{own_advances, time_by_controller}
use Rattle.loop_model.specs.declared.record.QueueRecord.{QueueRecord}
use Rattle.loop_model.proofs.WellFormedLaws.{All_recursive, All_indexed}
use Rattle.looper_run.specs.Holding.{Sender}
use Rattle.run_model.specs.Moments.{in_lockstep, Mode}
use Rattle.run_model.specs.Run.{IsRecordOf, IsTimely, record_setting, main_ends_halted, are_in_order, IsRun, IsStaged}
use Rattle.dash_hall.specs.declared.hall.Hall.{Hall}
use Rattle.dash_hall.specs.declared.kit.Kit.{Kit}
use Rattle.dash_threads.specs.declared.thread.PostingThread.{PostingThread}
use Rattle.dash_loopers.specs.declared.looper.StageLooper.{StageLooper}
use Rattle.dash_stage.specs.declared.control.Controller.{Controller}
use Rattle.dash_hall.specs.Kits.{badge_of, badge_for, IsHall, AreKitsOf}
use Rattle.dash_loopers.specs.Loopers.{IsSoundOn, setting_for, posters_of}
use Rattle.dash_stage.specs.Records.{AreQueueRecords, HaveAll}
use Rattle.dash_hall.specs.Hearing.{seen_by, HaveSeenAll}
use Rattle.dash_stage.specs.Sharing.{OfThreads, OfLoopers, OfKits}
use Rattle.dash_hall.proofs.Badges.{alike_length, queue_count, poster_at}
use Rattle.dash_stage.proofs.Sharing.{each_more}
use Rattle.dash_stage.proofs.Ends.HallEnds.{some_of}
use Rattle.dash_stage.proofs.Ends.Carried.{numbered_count, numbered_at}
use Rattle.dash_stage.specs.RunEnds.{HasEndedBy, HasEndedInLockstep, HasEndedByClock}
use Rattle.dash_stage.specs.declared.stage.Stage.{Stage}
use Rattle.run_model.specs.declared.report.Report.{Report}
use Rattle.dash_stage.specs.Keeping.{HoldsKept}
use Rattle.run_model.specs.ByClock.{in_free_mode, IsStagedByClock}

-- ==== from what all senders of a queue in lockstep have seen of its history to what they have seen a while later

-- what holds of all members of a list holds of those behind
pub back_all : {X : Type 0} (P : X → Type 0) (xs ys : List X) → AllByRecursion P (xs ++ ys) → AllByRecursion P ys
back_all P [] ys h = h
back_all P (x ∷ xs) ys h = back_all P xs ys h.1

-- what a sender has made more in a longer history is its entries in the rest
pub more_of : (k : ℕ) (es more made : List Entry) → entries_by k (es ++ more) ≡ entries_by k es ++ made → entries_by k more ≡ made
more_of k es more made longer = append_cancel_left (entries_by k es) (entries_by k more) made (sym (entries_by-append k es more) ∙ longer)

-- a sender that has made nothing more in a longer history has no entry in the rest
pub none_of : (k : ℕ) (es more : List Entry) → entries_by k (es ++ more) ≡ entries_by k es → entries_by k more ≡ []
none_of k es more same = more_of k es more [] (same ∙ sym (append-nil (entries_by k es)))

-- the front of an empty list is empty
pub none_front : {A : Type 0} (xs ys : List A) → xs ++ ys ≡ [] → xs ≡ []
none_front [] ys none = refl
none_front (x ∷ xs) ys none = absurd (cc none)

-- a sender that has no entry has not made the first one
pub own_of_none : (k : ℕ) (e : Entry) (es : List Entry) → (e.sender == k) ≡ true → entries_by k (e ∷ es) ≡ [] → ⊥
own_of_none k e es own none = absurd (let wrong : e ∷ entries_by k es ≡ [] = ap (λ (b : Bool). if b then e ∷ entries_by k es else entries_by k es) (sym own) ∙ none in cc wrong)

-- the entries of a history in which a sender has none are of others
pub of_others : (k : ℕ) (es : List Entry) → entries_by k es ≡ [] → AreOfOthers k es
of_others k [] none = tt
of_others k (e ∷ es) none =
    let other = false_from_ne_true (e.sender == k) (λ own. own_of_none k e es own none) in
    (other, of_others k es (ap (λ (b : Bool). if b then e ∷ entries_by k es else entries_by k es) (sym other) ∙ none))

module _ (set : Setting) (b : Base) where
  -- the first entry of the rest is the next of its sender, and the rest goes on behind it
  pub numbered_next : (es more : List Entry) (e : Entry) → AreNumbered set b (es ++ e ∷ more) → IsNextOfSender set b es e × AreNumbered set b ((es ++ e ∷ []) ++ more)
  numbered_next es more e numbered =
      let on = subst (AreNumbered set b) (sym (append_assoc es (e ∷ []) more)) numbered in
      (AreNumbered-last set b es e (AreNumbered-front set b (es ++ e ∷ []) more on), on)

  -- where no sender has made anything more, there is nothing more
  pub nothing_more : (es more : List Entry) → AreNumbered set b (es ++ more) → ((k : ℕ) → k < set.senders → entries_by k more ≡ []) → more ≡ []
  nothing_more es [] numbered none = refl
  nothing_more es (e ∷ more) numbered none =
      absurd (own_of_none e.sender e more (eq-eqb e.sender e.sender refl) (none e.sender (numbered_next es more e numbered).0.known))

  -- a beginning that has all entries of each sender is the whole
  pub is_whole : (es whole : List Entry) → IsPrefix es whole → AreNumbered set b whole → ((k : ℕ) → k < set.senders → entries_by k whole ≡ entries_by k es) → whole ≡ es
  is_whole es whole front numbered same =
      let none : front.0 ≡ [] = nothing_more es front.0 (subst (AreNumbered set b) (sym front.1) numbered) (λ k lt. none_of k es front.0 (ap (entries_by k) front.1 ∙ same k lt)) in
      sym front.1 ∙ ap (λ l. es ++ l) none ∙ append-nil es

-- a history ends with a halt where its last entry is one
pub ends_halted-snoc : (es : List Entry) (e : Entry) → ends_halted (es ++ e ∷ []) ≡ is_halted e.reply
ends_halted-snoc [] e = refl
ends_halted-snoc (f ∷ []) e = refl
ends_halted-snoc (f ∷ g ∷ es) e = ends_halted-snoc (g ∷ es) e

-- what stood before a sender's entries, in a longer history
pub befores-append : (k : ℕ) (es more : List Entry) → befores k (es ++ more) ≡ befores k es ++ befores_after k es more
unfolding befores
befores-append k es more = befores_after-append k [] es more

-- what stood before a sender's entries stays the same where it has made nothing more
pub befores_of_others : (k : ℕ) (es more : List Entry) → entries_by k more ≡ [] → befores k (es ++ more) ≡ befores k es
befores_of_others k es more none = befores-others k es more (of_others k more none)

-- both lists have one member more, or both have none
counted_first : (t : Bool) (b : Before) (e : Entry) (bs : List Before) (es : List Entry) → length bs ≡ length es → length ((if t then b ∷ [] else []) ++ bs) ≡ length (if t then e ∷ es else es)
counted_first true b e bs es h = ap suc h
counted_first false b e bs es h = h

-- for each entry that passes the test there is what stood before it
pub befores_from-count : (test : Entry → Bool) (past es : List Entry) → length (befores_from test past es) ≡ length (filter test es)
befores_from-count test past [] = refl
befores_from-count test past (e ∷ es) = counted_first (test e) (before past) e (befores_from test (past ++ e ∷ []) es) (filter test es) (befores_from-count test (past ++ e ∷ []) es)

-- and for each entry of the sender
pub befores_count : (k : ℕ) (es more : List Entry) → length (befores_after k es more) ≡ length (entries_by k more)
befores_count k es more = befores_from-count (λ e. e.sender == k) es more

-- calls that are on time, and more of them
pub on_time_more : (ts us : List Timing) (bs cs : List Before) → are_on_time ts bs ≡ true → are_on_time us cs ≡ true → are_on_time (ts ++ us) (bs ++ cs) ≡ true
on_time_more [] us [] cs first more = more
on_time_more [] us (b ∷ bs) cs first more = absurd cc
on_time_more (t ∷ ts) us [] cs first more = absurd cc
on_time_more (t ∷ ts) us (b ∷ bs) cs first more =
    let parts = and_parts (is_on_time t b) (are_on_time ts bs) first in
    and_from _ _ parts.0 (on_time_more ts us bs cs parts.1 more)

-- a sender that has made nothing more is on time as it was
pub timely_others : (k : ℕ) (ts : List Timing) (es more : List Entry) → entries_by k more ≡ [] → are_on_time ts (befores k es) ≡ true → are_on_time ts (befores k (es ++ more)) ≡ true
timely_others k ts es more none h = ap (are_on_time ts) (befores_of_others k es more none) ∙ h

-- lines of one block are on time where what stood before each call is
pub on_time_at : (time : ℕ) (lines : List TimedCommand) (bs : List Before) → AllByRecursion (λ l. l.time ≡ time) lines → AllByRecursion (λ b. is_on_time (InBlock time) b ≡ true) bs → length lines ≡ length bs
    → are_on_time (map (λ l. InBlock l.time) lines) bs ≡ true
on_time_at time [] [] at all long = refl
on_time_at time [] (b ∷ bs) at all long = absurd (omega (arith, long))
on_time_at time (l ∷ lines) [] at all long = absurd (omega (arith, long))
on_time_at time (l ∷ lines) (b ∷ bs) at all long =
    and_from _ _ (ap (λ t. is_on_time (InBlock t) b) at.0 ∙ all.0) (on_time_at time lines bs at.1 all.1 (omega (arith, long)))

-- ---- the controller's calls

-- one more entry that is in time
pub in_time_one : (n : ℕ) (es : List Entry) (e : Entry) → is_call_in_time es e.call e.reply ≡ true → is_called_in_time n es ≡ true → is_called_in_time n (es ++ e ∷ []) ≡ true
unfolding is_called_in_time
in_time_one n es e one h = each_behind-snoc (comes_in_time n) [] es e h (or_right _ _ one)

-- entries of others
in_time_others : (n : ℕ) (past es : List Entry) → AreOfOthers n es → each_behind (comes_in_time n) past es ≡ true
in_time_others n past [] others = refl
in_time_others n past (e ∷ es) others = and_from _ _ (ap (λ t. not t || is_call_in_time past e.call e.reply) others.0) (in_time_others n (past ++ e ∷ []) es others.1)

-- change nothing of it
pub in_time_more : (n : ℕ) (es more : List Entry) → entries_by n more ≡ [] → is_called_in_time n (es ++ more) ≡ is_called_in_time n es
unfolding is_called_in_time
in_time_more n es more none =
    each_behind-append (comes_in_time n) [] es more ∙ ap (λ t. each_behind (comes_in_time n) [] es && t) (in_time_others n es more (of_others n more none)) ∙ and-true (each_behind (comes_in_time n) [] es)

-- ---- the threads' calls come before the controller's quit

-- one more entry, which is no thread's
pub before_quit_one : (threads n : ℕ) (es : List Entry) (e : Entry) → threads ≤ e.sender → are_before_quit threads n es ≡ true → are_before_quit threads n (es ++ e ∷ []) ≡ true
unfolding are_before_quit
before_quit_one threads n es e above h = each_behind-snoc (comes_before_quit threads n) [] es e h (ap (λ t. not t || not (has_quit_by n es)) (not_below e.sender threads above))
  where
    not_below : (k m : ℕ) → m ≤ k → nat_lt k m ≡ false
    not_below k m le = false_from_ne_true (nat_lt k m) (λ lt. let less = ltb-true k m lt in absurd (omega (arith, less, le)))

-- entries of which no thread has one
pub no_threads : (threads : ℕ) (es : List Entry) → ((k : ℕ) → k < threads → entries_by k es ≡ []) → AllByRecursion (λ e. nat_lt e.sender threads ≡ false) es
no_threads threads [] none = tt
no_threads threads (e ∷ es) none = (
  false_from_ne_true (nat_lt e.sender threads) (λ lt. own_of_none e.sender e es (eq-eqb e.sender e.sender refl) (none e.sender (ltb-true e.sender threads lt))),
  no_threads threads es (λ k lt. entries_by-others k es (of_others k (e ∷ es) (none k lt)).1),
)

before_quit_others : (threads n : ℕ) (past es : List Entry) → AllByRecursion (λ e. nat_lt e.sender threads ≡ false) es → each_behind (comes_before_quit threads n) past es ≡ true
before_quit_others threads n past [] others = refl
before_quit_others threads n past (e ∷ es) others = and_from _ _ (ap (λ t. not t || not (has_quit_by n past)) others.0) (before_quit_others threads n (past ++ e ∷ []) es others.1)

-- change nothing of it
pub before_quit_more : (threads n : ℕ) (es more : List Entry) → ((k : ℕ) → k < threads → entries_by k more ≡ []) → are_before_quit threads n es ≡ true → are_before_quit threads n (es ++ more) ≡ true
unfolding are_before_quit
before_quit_more threads n es more none h =
    each_behind-append (comes_before_quit threads n) [] es more ∙ and_from _ _ h (before_quit_others threads n es more (no_threads threads more none))

-- where the controller has not quit, it has not quit behind entries of others either
none_quits_more : (n : ℕ) (es : List Entry) (e : Entry) → (e.sender == n) ≡ false → has_quit_by n es ≡ false → has_quit_by n (es ++ e ∷ []) ≡ false
none_quits_more n es e other none = list_any-append (λ e. e.sender == n && is_quit e.call) es (e ∷ []) ∙ or_from _ _ none (ap (λ t. t && is_quit e.call || false) other)

before_quit_while : (threads n : ℕ) (past es : List Entry) → AreOfOthers n es → has_quit_by n past ≡ false → each_behind (comes_before_quit threads n) past es ≡ true
before_quit_while threads n past [] others none = refl
before_quit_while threads n past (e ∷ es) others none =
    and_from _ _ (or_right _ _ (ap not none)) (before_quit_while threads n (past ++ e ∷ []) es others.1 (none_quits_more n past e others.0 none))

-- so calls that come while the controller has not quit come before its quit
pub before_quit_block : (threads n : ℕ) (es more : List Entry) → entries_by n more ≡ [] → has_quit_by n es ≡ false → are_before_quit threads n es ≡ true → are_before_quit threads n (es ++ more) ≡ true
unfolding are_before_quit
before_quit_block threads n es more none quit h =
    each_behind-append (comes_before_quit threads n) [] es more ∙ and_from _ _ h (before_quit_while threads n es more (of_others n more none) quit)

quits_not : (own quits : Bool) → (own ≡ true → quits ≡ false) → (own && quits || false) ≡ false
quits_not true quits h = ap (λ t. t || false) (h refl)
quits_not false quits h = refl

-- a controller that has only moved the time has not quit
pub moves_quit_not : (end n : ℕ) (es : List Entry) → are_advances end (entries_by n es) ≡ true → has_quit_by n es ≡ false
moves_quit_not end n = entry_by_entry (λ es. are_advances end (entries_by n es) ≡ true → has_quit_by n es ≡ false)
    (λ h. refl)
    (λ es e before h.
    let moved = own_advances end n es e h in
    list_any-append (λ e. e.sender == n && is_quit e.call) es (e ∷ []) ∙ or_from _ _ (before moved.0) (quits_not (e.sender == n) (is_quit e.call) (λ own. (advance_alone e.call (moved.1 own)).1)))

-- ---- the time of a call

-- the number of senders changes nothing of the time
pub clock_same : (m : ℕ) (es : List Entry) → clock (empty_base m) es ≡ clock (empty_base 0) es
unfolding clock
clock_same m es = refl

-- nor of whether it was disposed of
pub has_disposed_same : (m : ℕ) (es : List Entry) → has_disposed (empty_base m) es ≡ has_disposed (empty_base 0) es
unfolding has_disposed
has_disposed_same m es = refl

-- a call that comes at the time, or after the disposal by then, is on time
on_time_now : (senders time : ℕ) (es : List Entry) → IsAtTime senders time es → is_on_time (At time) (before es) ≡ true
on_time_now senders time es (inl now) = or_left _ _ (eq-eqb (clock (empty_base 0) es) time (sym (clock_same senders es) ∙ now))
on_time_now senders time es (inr (gone, by)) =
    or_right _ _ (and_from _ _ (sym (has_disposed_same senders es) ∙ gone) (le-leb (clock (empty_base 0) es) time (subst (λ n. n ≤ time) (clock_same senders es) by)))

-- a thread's call is on time on a queue that isn't disposed of, at its time
pub on_time_open : (senders time : ℕ) (es : List Entry) → has_disposed (empty_base senders) es ≡ false → clock (empty_base senders) es ≡ time → is_on_time (InBlock time) (before es) ≡ true
on_time_open senders time es none now =
    ap (λ (t : Bool). if t then nat_lt (clock (empty_base 0) es) time else clock (empty_base 0) es == time) (sym (has_disposed_same senders es) ∙ none)
    ∙ eq-eqb (clock (empty_base 0) es) time (sym (clock_same senders es) ∙ now)

-- and on one that was disposed of earlier
pub on_time_gone : (senders time : ℕ) (es : List Entry) → has_disposed (empty_base senders) es ≡ true → clock (empty_base senders) es < time → is_on_time (InBlock time) (before es) ≡ true
on_time_gone senders time es gone earlier =
    ap (λ (t : Bool). if t then nat_lt (clock (empty_base 0) es) time else clock (empty_base 0) es == time) (sym (has_disposed_same senders es) ∙ gone)
    ∙ lt-ltb (clock (empty_base 0) es) time (subst (λ n. n < time) (clock_same senders es) earlier)

-- what is so before the first entry, where it is the sender's, and before the rest
stood_first : (P : Before → Type 0) (t : Bool) (b : Before) (bs : List Before) → P b → AllByRecursion P bs → AllByRecursion P ((if t then b ∷ [] else []) ++ bs)
stood_first P true b bs one all = (one, all)
stood_first P false b bs one all = all

-- an entry that neither moves the time nor disposes of the queue
before_same : (es : List Entry) (e : Entry) → clock (empty_base 0) (es ++ e ∷ []) ≡ clock (empty_base 0) es → is_disposed e.reply ≡ false → before (es ++ e ∷ []) ≡ before es
before_same es e still keeps =
    let as_it_was : has_disposed (empty_base 0) (es ++ e ∷ []) ≡ has_disposed (empty_base 0) es =
    has_disposed-snoc (empty_base 0) es e ∙ ap (λ t. has_disposed (empty_base 0) es || t) keeps ∙ or-false (has_disposed (empty_base 0) es) in
    λ i. record { clock = still i; disposed = as_it_was i }

module _ (set : Setting) (n : ℕ) (last : n + 1 ≡ set.senders) where
  module _ (lockstep : set.lockstep ≡ true) where
    -- the time stands still where the controller has made nothing more
    pub clock_stays : (es more : List Entry) → IsLegal set (empty_base set.senders) (es ++ more) → AreNumbered set (empty_base set.senders) (es ++ more) → entries_by n more ≡ []
        → clock (empty_base set.senders) (es ++ more) ≡ clock (empty_base set.senders) es
    clock_stays es more legal numbered none =
        let base = empty_base set.senders in
        time_by_controller set n last lockstep (es ++ more) legal numbered ∙ ap time_in (entries_by-unchanged n es more (of_others n more none))
        ∙ sym (time_by_controller set n last lockstep es (IsLegal-front set base es more legal) (AreNumbered-front set base es more numbered))

    -- the time stands still, and a queue that was disposed of stays so
    pub stays_at : (time : ℕ) (es more : List Entry) → IsLegal set (empty_base set.senders) (es ++ more) → AreNumbered set (empty_base set.senders) (es ++ more) → entries_by n more ≡ []
        → IsAtTime set.senders time es → IsAtTime set.senders time (es ++ more)
    stays_at time es more legal numbered none (inl now) = inl (clock_stays es more legal numbered none ∙ now)
    stays_at time es more legal numbered none (inr (gone, by)) = inr (disposed_stays (empty_base set.senders) es more gone, subst (λ n. n ≤ time) (sym (clock_stays es more legal numbered none)) by)

    -- each call that came more is on time for the time at which they began
    pub befores_at : (k time : ℕ) (es more : List Entry) → IsLegal set (empty_base set.senders) (es ++ more) → AreNumbered set (empty_base set.senders) (es ++ more) → entries_by n more ≡ [] → IsAtTime set.senders time es
        → AllByRecursion (λ b. is_on_time (At time) b ≡ true) (befores_after k es more)
    befores_at k time es [] legal numbered none at = tt
    befores_at k time es (e ∷ more) legal numbered none at =
        let base = empty_base set.senders in
        let whole = sym (append_assoc es (e ∷ []) more) in
        let legal_on = subst (IsLegal set base) whole legal in
        let numbered_on = subst (AreNumbered set base) whole numbered in
        let others = of_others n (e ∷ more) none in
        let then_at = stays_at time es (e ∷ []) (IsLegal-front set base (es ++ e ∷ []) more legal_on) (AreNumbered-front set base (es ++ e ∷ []) more numbered_on) (entries_by-others n (e ∷ []) (others.0, tt)) at in
        stood_first (λ b. is_on_time (At time) b ≡ true) (e.sender == k) (before es) _ (on_time_now set.senders time es at) (befores_at k time (es ++ e ∷ []) more legal_on numbered_on (entries_by-others n more others.1) then_at)

    -- while the time stands still and nothing disposes of the queue, the same stands before each call
    befores_same : (k : ℕ) (es more : List Entry) → IsLegal set (empty_base set.senders) (es ++ more) → AreNumbered set (empty_base set.senders) (es ++ more) → entries_by n more ≡ []
        → AllByRecursion (λ e. is_disposed e.reply ≡ false) more → AllByRecursion (λ b. b ≡ before es) (befores_after k es more)
    befores_same k es [] legal numbered none keeps = tt
    befores_same k es (e ∷ more) legal numbered none keeps =
        let base = empty_base set.senders in
        let whole = sym (append_assoc es (e ∷ []) more) in
        let legal_on = subst (IsLegal set base) whole legal in
        let numbered_on = subst (AreNumbered set base) whole numbered in
        let others = of_others n (e ∷ more) none in
        let still = clock_stays es (e ∷ []) (IsLegal-front set base (es ++ e ∷ []) more legal_on) (AreNumbered-front set base (es ++ e ∷ []) more numbered_on) (entries_by-others n (e ∷ []) (others.0, tt)) in
        let same : before (es ++ e ∷ []) ≡ before es = before_same es e (sym (clock_same set.senders (es ++ e ∷ [])) ∙ (still ∙ clock_same set.senders es)) keeps.0 in
        stood_first (λ b. b ≡ before es) (e.sender == k) (before es) _ refl
        (subst (λ x. AllByRecursion (λ b. b ≡ x) (befores_after k (es ++ e ∷ []) more)) same (befores_same k (es ++ e ∷ []) more legal_on numbered_on (entries_by-others n more others.1) keeps.1))

    -- a thread that has made the calls of one block more, while nothing disposed of the queue, is on time as before
    pub timely_block : (s : Script) (labels : List ℕ) (q k time : ℕ) (past lines : List TimedCommand) (es more : List Entry) → IsLegal set (empty_base set.senders) (es ++ more)
        → AreNumbered set (empty_base set.senders) (es ++ more) → entries_by n more ≡ [] → AllByRecursion (λ e. is_disposed e.reply ≡ false) more → is_on_time (InBlock time) (before es) ≡ true
        → AllByRecursion (λ l. l.time ≡ time) lines → length (entries_by k more) ≡ length (lines_on s labels q lines) → are_on_time (map (λ l. InBlock l.time) (lines_on s labels q past)) (befores k es) ≡ true
        → are_on_time (map (λ l. InBlock l.time) (lines_on s labels q (past ++ lines))) (befores k (es ++ more)) ≡ true
    timely_block s labels q k time past lines es more legal numbered none keeps at same long h =
        let timing : TimedCommand → Timing = λ l. InBlock l.time in
        let before_them = map timing (lines_on s labels q past) in
        let theirs = map timing (lines_on s labels q lines) in
        let split : map timing (lines_on s labels q (past ++ lines)) ≡ before_them ++ theirs = ap (map timing) (lines_on-append s labels q past lines) ∙ map-append timing (lines_on s labels q past) (lines_on s labels q lines) in
        let stood = AllByRecursion-weaker (λ b. b ≡ before es) (λ b. is_on_time (InBlock time) b ≡ true) (λ b is. ap (is_on_time (InBlock time)) is ∙ at) (befores_after k es more) (befores_same k es more legal numbered none keeps) in
        let each = on_time_at time (lines_on s labels q lines) (befores_after k es more) (AllByRecursion-filter (λ l. l.time ≡ time) _ lines same) stood (sym (befores_count k es more ∙ long)) in
        ap (λ ts. are_on_time ts (befores k (es ++ more))) split ∙ ap (are_on_time (before_them ++ theirs)) (befores-append k es more) ∙ on_time_more before_them theirs (befores k es) (befores_after k es more) h each

-- ==== what all senders have seen of the queues at the end is what the records keep, so that the records are timely

-- the threads behind the first one
other_threads_of : (P : List Sender → Type 0) (ts : List PostingThread) → OfThreads P ts → 0 < length ts → OfThreads P (remove ts 0)
other_threads_of P [] h some = absurd (omega (arith, some))
other_threads_of P (x ∷ ts) h some = λ k d lt. h (suc k) d (omega (arith, lt))

-- the loopers behind the first one
other_loopers_of : (P : List Sender → Type 0) (ls : List StageLooper) → OfLoopers P ls → 0 < length ls → OfLoopers P (remove ls 0)
other_loopers_of P [] h some = absurd (omega (arith, some))
other_loopers_of P (x ∷ ls) h some = λ k d lt. h (suc k) d (omega (arith, lt))

-- no kit yet
pub none_yet : (P : List Sender → Type 0) (kits : List Kit) → kits ≡ [] → OfKits P kits
none_yet P kits none = subst (OfKits P) (sym none) (λ k d lt. absurd (omega (arith, lt)))

-- one kit more
pub kit_more : (P : List Sender → Type 0) (kits kits' : List Kit) (kit : Kit) → kits' ≡ kits ++ kit ∷ [] → P kit.posters.items → OfKits P kits → OfKits P kits'
kit_more P kits kits' kit grown one before = subst (OfKits P) (sym grown) (each_more (λ k (z : Kit). P z.posters.items) kits kit before one)

-- one thread more has given its kit back
pub thread_gives : (P : List Sender → Type 0) (ts ts' : List PostingThread) (kits kits' : List Kit) (t : PostingThread) (kit : Kit) → 0 < length ts → t ≡ slice_index_or ts 0 t → ts' ≡ remove ts 0
    → kit ≡ t.kit → kits' ≡ kits ++ kit ∷ [] → OfThreads P ts × OfKits P kits → OfThreads P ts' × OfKits P kits'
thread_gives P ts ts' kits kits' t kit some is_t rest is_kit grown before = (
  subst (OfThreads P) (sym rest) (other_threads_of P ts before.0 some),
  kit_more P kits kits' kit grown
      (subst (λ (z : Kit). P z.posters.items) (sym is_kit) (subst (λ (z : PostingThread). P z.kit.posters.items) (sym is_t) (before.0 0 t some))) before.1,
)

-- one looper more has given its kit back
pub looper_gives : (P : List Sender → Type 0) (ls ls' : List StageLooper) (kits kits' : List Kit) (l : StageLooper) (kit : Kit) → 0 < length ls → l ≡ slice_index_or ls 0 l → ls' ≡ remove ls 0
    → kit.posters.items ≡ posters_of l → kits' ≡ kits ++ kit ∷ [] → OfLoopers P ls × OfKits P kits → OfLoopers P ls' × OfKits P kits'
looper_gives P ls ls' kits kits' l kit some is_l rest are grown before = (
  subst (OfLoopers P) (sym rest) (other_loopers_of P ls before.0 some),
  kit_more P kits kits' kit grown (subst P (sym are) (subst (λ (z : StageLooper). P (posters_of z)) (sym is_l) (before.0 0 l some))) before.1,
)

-- posters that have seen these histories have seen at each place the one there
seen_at : (ps whole : List Sender) (q : ℕ) (p d : Sender) → HaveSeenAll (seen_by whole) ps → q < length ps → q < length whole → (slice_index_or ps q p).view.seen ≡ (slice_index_or whole q d).view.seen
seen_at ps whole q p d seen lt lt' =
    sym (get_or-map (λ (z : Sender). z.view.seen) ps q p [] lt) ∙ ap (λ l. slice_index_or l q []) seen ∙ get_or-map (λ (z : Sender). z.view.seen) whole q d [] lt'

-- the setting of a looper's record
pub setting_is : (m : Mode) (s : Script) (q : ℕ) (r : QueueRecord) → IsRecordOf m all_entries s r → r.looper ≡ q → m.lockstep ≡ true → record_setting r ≡ setting_for s q
setting_is m s q r is number step =
    let main = is.main ∙ ap (λ (l : ℕ). l == 0) number in
    let lockstep = is.lockstep ∙ step in
    let senders = is.senders in
    λ i. record { main = main i; lockstep = lockstep i; senders = senders i }

-- of a queue's setting its numbering knows the senders alone
numbered_after : (set set' : Setting) (b : Base) (past es : List Entry) → set'.senders ≡ set.senders → AreNumberedAfter set b past es → AreNumberedAfter set' b past es
numbered_after set set' b past [] same h = tt
numbered_after set set' b past (e ∷ es) same h = (
  record { known = subst (λ (n : ℕ). e.sender < n) (sym same) h.0.known; counted = h.0.counted; controller = λ c. h.0.controller c ∙ sym same },
  numbered_after set set' b (past ++ e ∷ []) es same h.1,
)

numbered_by : (set set' : Setting) (b : Base) (es : List Entry) → set'.senders ≡ set.senders → AreNumbered set b es → AreNumbered set' b es
unfolding AreNumbered
numbered_by set set' b es same h = numbered_after set set' b [] es same h

-- what is so of the history is so of the record
timely_record : (s : Script) (q : ℕ) (r : QueueRecord) (es : List Entry) → r.looper ≡ q → (history_of r) ≡ es → IsTimelyUpTo s s.blocks q es → IsTimely s r
timely_record s q r es number same h = record {
  controls = ap (is_called_in_time (controller s)) same ∙ h.controls;
  threads = λ thread below. subst (λ (l : ℕ). are_on_time (map (λ x. InBlock x.time) (lines_on s (labels_on l (lines_of thread s.blocks)) l (lines_of thread s.blocks))) (befores thread (history_of r)) ≡ true) (sym number)
      (subst (λ (l : List Entry). are_on_time (map (λ x. InBlock x.time) (lines_on s (labels_on q (lines_of thread s.blocks)) q (lines_of thread s.blocks))) (befores thread l) ≡ true) (sym same) (h.threads thread below));
  in_order = subst (λ (l : ℕ). are_in_order s l (history_of r) ≡ true) (sym number) (ap (are_in_order s q) same ∙ h.in_order);
}

-- main's record is the first one
main_is_first : (records : List QueueRecord) (r : QueueRecord) → 0 < length records → ends_halted (history_of (slice_index_or records 0 r)) ≡ true → main_ends_halted records ≡ true
main_is_first [] r some h = absurd (omega (arith, some))
main_is_first (x ∷ records) r some h = h

-- and its history is main's
main_entries_at : (records : List QueueRecord) (r : QueueRecord) → 0 < length records → (history_of (slice_index_or records 0 r)) ≡ main_entries records
main_entries_at [] r some = absurd (omega (arith, some))
main_entries_at (x ∷ records) r some = refl

module _ (m : Mode) (s : Script) (hall : Hall) (kits : List Kit) (records : List QueueRecord) (h : IsHall s hall) (are : AreKitsOf s hall kits) (c : Controller) (held : (d : Kit) → slice_index_or kits (controller s) d ≡ c.kit)
    (recs : AreQueueRecords m s records) (all : HaveAll kits records) (seen : OfKits (HaveSeenAll (seen_by c.kit.posters.items)) kits) where
  pub few : length records ≡ s.loopers
  few = numbered_count (λ (z : QueueRecord). z.looper) s.loopers records recs.loopers

  -- each kit has a poster of each record's queue
  pub in_posters : (k q : ℕ) (d : Kit) → k < length kits → q < length records → q < length (slice_index_or kits k d).posters.items
  in_posters k q d in_kits lt =
      let kit = slice_index_or kits k d in
      let long = alike_length badge_of (badge_for k) kit.posters.items hall.queues.items (are.each k d in_kits).posters ∙ queue_count hall.lockstep s hall.pool hall.queues.items h.queues in
      let short = few in
      omega (arith, lt, short, long)

  last : controller s < length kits
  last = let count = are.count in omega (arith, count)

  -- the controller has a poster of each record's queue
  pub within : (q : ℕ) → q < length records → q < length c.kit.posters.items
  within q lt = subst (λ (z : Kit). q < length z.posters.items) (held c.kit) (in_posters (controller s) q c.kit last lt)

  -- each sender's entries in a record are those in what all senders have seen
  made_by : (k q : ℕ) (d : Sender) (r : QueueRecord) → k < length kits → q < length records → entries_by k (history_of (slice_index_or records q r)) ≡ entries_by k (whole_on c q d)
  made_by k q d r in_kits lt =
      let kit = slice_index_or kits k c.kit in
      let there = in_posters k q c.kit in_kits lt in
      let in_queues : q < length hall.queues.items = omega (arith, lt, few, queue_count hall.lockstep s hall.pool hall.queues.items h.queues) in
      let sender = (poster_at k hall.queues.items kit.posters.items (are.each k c.kit in_kits).posters q d (some_of hall.queues.items q in_queues) there).1 in
      (all k q c.kit d r in_kits lt).0
      ∙ (ap (λ (n : ℕ). entries_by n (slice_index_or kit.posters.items q d).view.seen) sender
      ∙ ap (entries_by k) (seen_at kit.posters.items c.kit.posters.items q d d (seen k c.kit in_kits) there (within q lt)))

  pub history : (q : ℕ) (r : QueueRecord) → q < length records → IsRecordOf m all_entries s (slice_index_or records q r)
  history q r lt = All_indexed (IsRecordOf m all_entries s) records recs.histories q r lt

  pub number : (q : ℕ) (r : QueueRecord) → q < length records → (slice_index_or records q r).looper ≡ q
  number q r lt = numbered_at (λ (z : QueueRecord). z.looper) s.loopers records recs.loopers q r lt

  -- a record keeps what all senders have seen
  pub is_seen : (q : ℕ) (d : Sender) (r : QueueRecord) → q < length records → (history_of (slice_index_or records q r)) ≡ whole_on c q d
  is_seen q d r lt =
      let mine = slice_index_or records q r in
      let is = history q r lt in
      let count = are.count in
      let senders = is.senders in
      let begins = (all (controller s) q c.kit d r last lt).1 in
      is_whole (record_setting mine) (empty_base mine.senders) (whole_on c q d) (history_of mine)
      (subst (λ (z : Kit). IsPrefix (slice_index_or z.posters.items q d).view.seen (history_of mine)) (held c.kit) begins) is.numbered
      (λ k below. made_by k q d r (omega (arith, below, senders, count)) lt)

  -- the controller has no poster of another queue
  pub known : (q : ℕ) → q < length c.kit.posters.items → q < length records
  known q lt =
      let kit = slice_index_or kits (controller s) c.kit in
      let long = alike_length badge_of (badge_for (controller s)) kit.posters.items hall.queues.items (are.each (controller s) c.kit last).posters ∙ queue_count hall.lockstep s hall.pool hall.queues.items h.queues in
      let mine : length kit.posters.items ≡ length c.kit.posters.items = ap (λ (z : Kit). length z.posters.items) (held c.kit) in
      let short = few in
      omega (arith, lt, mine, short, long)

  -- in which each sender's entries are numbered on
  pub is_numbered : (q : ℕ) (d : Sender) (r : QueueRecord) → q < length records → AreNumbered (setting_for s q) (empty_base (sender_count s)) (whole_on c q d)
  is_numbered q d r lt =
      let mine = slice_index_or records q r in
      let is = history q r lt in
      subst (AreNumbered (setting_for s q) (empty_base (sender_count s))) (is_seen q d r lt)
      (numbered_by (record_setting mine) (setting_for s q) (empty_base (sender_count s)) (history_of mine) (sym is.senders)
      (subst (λ (n : ℕ). AreNumbered (record_setting mine) (empty_base n) (history_of mine)) is.senders is.numbered))

  -- in each record the threads' calls come before the controller's quit
  pub before_quit_of_records : ((q : ℕ) (d : Sender) → q < length c.kit.posters.items → are_before_quit s.threads (controller s) (whole_on c q d) ≡ true) → AllByRecursion (IsBeforeQuit s) records
  before_quit_of_records before = All_recursive (IsBeforeQuit s) records (λ q r lt.
      let d = some_of c.kit.posters.items q (within q lt) in
      ap (are_before_quit s.threads (controller s)) (is_seen q d r lt) ∙ before q d (within q lt))

  -- main's record ends with its halt
  pub halted_of_records : 0 < s.loopers → ((d : Sender) → 0 < length c.kit.posters.items → AreNumbered (setting_for s 0) (empty_base (sender_count s)) (whole_on c 0 d) → ends_halted (whole_on c 0 d) ≡ true) → main_ends_halted records ≡ true
  halted_of_records some halted =
      let short = few in
      let lt : 0 < length records = omega (arith, some, short) in
      let d = some_of c.kit.posters.items 0 (within 0 lt) in
      let r = some_of records 0 lt in
      main_is_first records r lt (ap ends_halted (is_seen 0 d r lt) ∙ halted d (within 0 lt) (is_numbered 0 d r lt))

-- the same in lockstep
module _ (s : Script) (hall : Hall) (kits : List Kit) (records : List QueueRecord) (h : IsHall s hall) (are : AreKitsOf s hall kits) (c : Controller) (held : (d : Kit) → slice_index_or kits (controller s) d ≡ c.kit)
    (recs : AreQueueRecords in_lockstep s records) (all : HaveAll kits records) (seen : OfKits (HaveSeenAll (seen_by c.kit.posters.items)) kits) where
  -- and it is one that the queue may have
  pub is_sound : (q : ℕ) (d : Sender) (r : QueueRecord) → q < length records → IsSoundOn s q (whole_on c q d)
  is_sound q d r lt =
      let mine = slice_index_or records q r in
      let is = history in_lockstep s hall kits records h are c held recs all seen q r lt in
      let set = setting_is in_lockstep s q mine is (number in_lockstep s hall kits records h are c held recs all seen q r lt) refl in
      let same = is_seen in_lockstep s hall kits records h are c held recs all seen q d r lt in
      record {
        legal = subst (IsLegal (setting_for s q) (empty_base (sender_count s))) same (subst (λ (z : Setting). IsLegal z (empty_base z.senders) (history_of mine)) set is.legal);
        numbered = subst (AreNumbered (setting_for s q) (empty_base (sender_count s))) same (subst (λ (z : Setting). AreNumbered z (empty_base z.senders) (history_of mine)) set is.numbered);
      }

  -- each queue's history is one that it may have
  pub all_sound : AreSound s c
  all_sound q d lt = let below = known in_lockstep s hall kits records h are c held recs all seen q lt in is_sound q d (some_of records q below) below

  -- each record is timely
  pub timely_of_records : (AreSound s c → (q : ℕ) (d : Sender) → q < length c.kit.posters.items → IsTimelyUpTo s s.blocks q (whole_on c q d)) → AllByRecursion (IsTimely s) records
  timely_of_records timely = All_recursive (IsTimely s) records (λ q r lt.
      let d = some_of c.kit.posters.items q (within in_lockstep s hall kits records h are c held recs all seen q lt) in
      timely_record s q (slice_index_or records q r) (whole_on c q d) (number in_lockstep s hall kits records h are c held recs all seen q r lt) (is_seen in_lockstep s hall kits records h are c held recs all seen q d r lt) (timely all_sound q d (within in_lockstep s hall kits records h are c held recs all seen q lt)))

  -- in each record the threads' calls come first at their time
  pub first_of_records : (AreSound s c → (q : ℕ) (d : Sender) → q < length c.kit.posters.items → come_first s.threads (whole_on c q d) ≡ true) → AreBlocksFirst s records
  first_of_records first = All_recursive (λ (r : QueueRecord). come_first s.threads (history_of r) ≡ true) records (λ q r lt.
      let d = some_of c.kit.posters.items q (within in_lockstep s hall kits records h are c held recs all seen q lt) in
      ap (come_first s.threads) (is_seen in_lockstep s hall kits records h are c held recs all seen q d r lt) ∙ first all_sound q d (within in_lockstep s hall kits records h are c held recs all seen q lt))

  -- in main's record the time was moved to each block's
  pub reached_of_records : 0 < s.loopers → (AreSound s c → (q : ℕ) (d : Sender) → q < length c.kit.posters.items → IsTimelyUpTo s s.blocks q (whole_on c q d)) → AreBlocksReached s records
  reached_of_records some timely =
      let short = few in_lockstep s hall kits records h are c held recs all seen in
      let lt : 0 < length records = omega (arith, some, short) in
      let d = some_of c.kit.posters.items 0 (within in_lockstep s hall kits records h are c held recs all seen 0 lt) in
      let r = some_of records 0 lt in
      let same : whole_on c 0 d ≡ main_entries records = sym (is_seen in_lockstep s hall kits records h are c held recs all seen 0 d r lt) ∙ main_entries_at records r lt in
      subst (AreReached s.blocks) same ((timely all_sound 0 d (within in_lockstep s hall kits records h are c held recs all seen 0 lt)).reached refl)

-- a run that has ended in lockstep has ended, where no moment is asked for
pub ended_in_step : (s : Script) (st : Stage) → HasEndedInLockstep s st → HasEndedBy in_lockstep s st
ended_in_step s st out = record {
  stage = out.stage;
  same = out.at.timely.same;
  clocked = record { threads = λ k d lt q p near. tt; loopers = λ k d lt q p near. tt; controller = λ q p near. tt };
}

-- ==== a report that holds what is kept of a stage at the end of its run is a run of the script, in lockstep or by a clock

pub staged : (s : Script) (st : Stage) (r : Report) → HasEndedInLockstep s st → HoldsKept s st 0 r → IsStaged s r
staged s st r out holds =
    let kept = holds.kept in
    let by = ended_in_step s st out in
    let queues = kept.queues in_lockstep by in
    record {
      run = record {
        report = record { script = holds.script; queues = queues.loopers; journals = kept.journals; frames = kept.frames.loopers };
        records = record { mode = holds.start; start = refl; histories = queues.histories };
        planned = kept.planned in_lockstep out.at.run;
        controls = kept.controls in_lockstep by out.closed;
        loopers = kept.loopers out;
        frames = kept.run;
        timely = record { halted = kept.halted in_lockstep by out.halted; before_quit = kept.before_quit out; histories = kept.timely out; moves = kept.moves out };
      };
      blocks = kept.first out;
      reached = kept.reached out;
    }

-- by a clock
module _ (shows : ℕ → Bool) (s : Script) (st : Stage) (start : ℕ) (shown : shows start ≡ true) (out : HasEndedByClock (in_free_mode shows start) s st) where
  pub staged_by_clock : (r : Report) → HoldsKept s st start r → IsStagedByClock shows s r
  staged_by_clock r holds =
      let m : Mode = in_free_mode shows start in
      let kept = holds.kept in
      let queues = kept.queues m out.out in
      let run : IsRun m s r = record {
        report = record { script = holds.script; queues = queues.loopers; journals = kept.journals; frames = kept.frames.loopers };
        records = record { mode = holds.start; start = shown; histories = queues.histories };
        planned = kept.planned m out.ran.run;
        controls = kept.controls m out.out out.closed;
        loopers = kept.by_clock m out;
        frames = kept.run;
        timely = record { halted = kept.halted m out.out out.halted; before_quit = kept.before_quit_by_clock m out; histories = tt; moves = tt };
      } in
      record { run = subst (λ (n : ℕ). IsRun (in_free_mode shows n) s r) (sym holds.start) run }
