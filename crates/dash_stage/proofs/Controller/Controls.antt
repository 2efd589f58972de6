-- The controller's own entries, and what is known of them while it calls nothing.
use Rattle.std.proofs.Common.{◌≡◌, ℕ, ◌≤◌, ◌+◌, max, Bool, true, false, List, [], ◌∷◌, ◌++◌, Option, Some, None, refl, sym, ap, ◌∙◌, subst, arith, cond, zero, suc, ◌<◌, length, slice_index_or, inl, inr, ◌⊎◌}
use Rattle.std.specs.Prelude.{◌==◌, ◌&&◌, ◌||◌, not, nat_le, is_some, IfSome, if◌then◌else◌}
use Rattle.std.specs.List.{list_any, AllByRecursion}
use Rattle.std.proofs.lemmas.List.Folds.{list_any-append}
use Rattle.std.proofs.lemmas.List.Sums.{sum_by-append}
use Rattle.std.proofs.Math.Bool.{and_assoc, or-false}
use Rattle.std.proofs.Math.Nat.{max-eq_left}
use Rattle.std.proofs.lemmas.Bool.{and_parts, and_from, cases_Bool, or_parts, or_from, or_left, or_right, or_cases, false_from_ne_true, leb-true, le-leb, eq-eqb, ne_eqb}
use mathlib.Core.List.{IsPrefix}
use Rattle.run_model.specs.Planned.{history_of, entries_by, controller, sender_count}
use Rattle.loop_model.specs.declared.post.Post.{Post as PostData}
use Rattle.loop_model.specs.declared.call.Call.{Call}
use Rattle.loop_model.specs.declared.call.Call.TheVariants.{Post, Barrier, Unbarrier, Remove, Quit, Next, Advance, Halt}
use Rattle.loop_model.specs.declared.reply.Reply.{Reply}
use Rattle.loop_model.specs.declared.reply.Reply.TheVariants.{Unbarriered, NotPosted, NotAllowed, Advanced, Halted}
use Rattle.loop_model.specs.declared.item.Item.{Item}
use Rattle.loop_model.specs.declared.item.Item.TheVariants.{Post as Message, Barrier as SyncBarrier}
use Rattle.loop_model.specs.declared.record.QueueRecord.{QueueRecord}
use Rattle.loop_model.specs.declared.base.Base.{Base}
use Rattle.loop_model.specs.declared.entry.Entry.{Entry}
use Rattle.loop_model.specs.Entries.{moment_of, is_next, is_quit_done, is_disposed, is_halted}
use Rattle.loop_model.specs.Base.{empty_base}
use Rattle.loop_model.specs.Pick.{pick}
use Rattle.loop_model.specs.Answers.{Setting, clock, answer, is_over, has_disposed, has_halted, quit_place, accepted_count, post_reply, quit_reply, next_reply}
use Rattle.loop_model.specs.Legal.{IsLegal, AreNumbered, CallFitsTime, IsNextOfSender, MayFollow, is_control}
use Rattle.loop_model.specs.Listed.{quit_at}
use Rattle.loop_model.proofs.AfterLaws.{clock-snoc, quit_place-snoc, has_disposed-snoc, has_halted-snoc, disposed_stays}
use Rattle.loop_model.proofs.Growing.{entry_by_entry}
use Rattle.loop_model.proofs.LegalLaws.{IsLegal-front, IsLegal-last}
use Rattle.loop_model.proofs.NumberLaws.{AreNumbered-front, AreNumbered-last}
use Rattle.loop_model.proofs.Sorting.{AllByRecursion-append}
use Rattle.loop_model.proofs.WellFormedLaws.{All_recursive, All_indexed}
use Rattle.dash_script.specs.declared.script.Script.{Script}
use Rattle.looper_run.specs.Holding.{Sender}
use Rattle.run_model.specs.Moments.{Mode}
use Rattle.run_model.specs.Run.{IsRecordOf, IsControlled, record_setting}
use Rattle.run_model.specs.Parts.{all_entries, is_quit_by_others, disposed_count}
use Rattle.run_model.specs.Control.{is_advance, is_halt, is_quit, is_safe_quit, is_empty, is_closing, are_controls, is_controlled}
use Rattle.run_model.proofs.RunLaws.{entries_by-append, entries_by-own, entries_by-unchanged}
use Rattle.run_model.proofs.ControlLaws.{advance_alone, are_advances as are_advances_in, are_controls-last, are_controls-quit}
use Rattle.dash_hall.specs.declared.hall.Hall.{Hall}
use Rattle.dash_hall.specs.declared.kit.Kit.{Kit}
use Rattle.dash_stage.specs.declared.control.Controller.{Controller}
use Rattle.dash_hall.specs.Growth.{own}
use Rattle.dash_hall.specs.Kits.{badge_of, badge_for, ArePostersOf, IsHall, AreKitsOf, OthersAreOver, IsUnusedKit}
use Rattle.dash_stage.specs.Controllers.{are_advances, time_in, calls_on, HasClosedIn, OnlyMoves, MovesAndQuits, IsMoving, HasReached, IsQuitting, IsClosing, CallsNone, CallsNothingOn, IsClosingBy}
use Rattle.dash_stage.specs.Records.{AreQueueRecords, HaveAll}
use Rattle.dash_hall.proofs.Badges.{alike_length, queue_count}
use Rattle.dash_stage.proofs.Ends.HallEnds.{some_of}
use Rattle.dash_stage.proofs.Ends.Carried.{numbered_count, numbered_at}
use Rattle.std.specs.Global.{Vec}
use mathlib.Core.Logic.{dite}
use native.Mathlib.Decide.{dec_lt}
use Rattle.dash_stage.specs.Timeliness.{AreBy}

-- ==== the controller's own entries on a queue: what its calls and the queue's replies make of them

-- the time after one entry more
pub time_in-snoc : (es : List Entry) (e : Entry) → time_in (es ++ e ∷ []) ≡ max (time_in es) (moment_of e.call)
time_in-snoc es e = clock-snoc (empty_base 0) es e

-- the time before any entry
clock-none : (m : ℕ) → clock (empty_base m) [] ≡ 0
unfolding clock
clock-none m = refl

-- moves of the time, one list of them behind another
pub are_advances-append : (end : ℕ) (xs ys : List Entry) → are_advances end (xs ++ ys) ≡ (are_advances end xs && are_advances end ys)
are_advances-append end [] ys = refl
are_advances-append end (x ∷ xs) ys =
    ap (λ t. is_advance x.call && nat_le (moment_of x.call) end && t) (are_advances-append end xs ys)
    ∙ sym (and_assoc (is_advance x.call && nat_le (moment_of x.call) end) (are_advances end xs) (are_advances end ys))

-- one move more
pub one_advance_more : (end now : ℕ) (es : List Entry) (e : Entry) → are_advances end es ≡ true → e.call ≡ Advance now → now ≤ end → are_advances end (es ++ e ∷ []) ≡ true
one_advance_more end now es e h is le =
    let one : are_advances end (e ∷ []) ≡ true = rw (is, le-leb now end le) refl in
    are_advances-append end es (e ∷ []) ∙ and_from _ _ h one

-- moves alone do not go past the end
pub time_of_advances : (end : ℕ) (es : List Entry) → are_advances end es ≡ true → time_in es ≤ end
time_of_advances end = entry_by_entry (λ es. are_advances end es ≡ true → time_in es ≤ end)
    (λ h. let none = clock-none 0 in omega (arith, none))
    (λ es e before h.
    let parts = and_parts (are_advances end es) (are_advances end (e ∷ [])) (sym (are_advances-append end es (e ∷ [])) ∙ h) in
    let one = and_parts (is_advance e.call && nat_le (moment_of e.call) end) true parts.1 in
    let le = leb-true (moment_of e.call) end (and_parts (is_advance e.call) _ one.0).1 in
    let early = before parts.0 in
    let grown = time_in-snoc es e in
    omega (arith, le, early, grown))

-- such moves in the words of a run
advances_in_lockstep : (end : ℕ) (es : List Entry) → are_advances end es ≡ true → are_advances_in true end es ≡ true
advances_in_lockstep end [] h = refl
advances_in_lockstep end (e ∷ es) h =
    let parts = and_parts (is_advance e.call && nat_le (moment_of e.call) end) (are_advances end es) h in
    let one = and_parts (is_advance e.call) (nat_le (moment_of e.call) end) parts.0 in
    and_from _ _ one.0 (and_from _ _ one.1 (advances_in_lockstep end es parts.1))

-- moves alone, on a queue that may have been quit
pub advances_may_quit : (end : ℕ) (es : List Entry) → are_advances end es ≡ true → are_controls false true end true es ≡ true
advances_may_quit end es h = are_controls-quit true end es (advances_in_lockstep end es h)

-- moves up to the end, and a safe quit there
pub quits_at_end : (end : ℕ) (es : List Entry) (e : Entry) → are_advances end es ≡ true → end ≤ time_in es → e.call ≡ Quit true (time_in es) → are_controls false true end true (es ++ e ∷ []) ≡ true
quits_at_end end es e h reached is =
    let within = time_of_advances end es h in
    let time : time_in es ≡ end = omega (arith, within, reached) in
    are_controls-last false true end true es e (advances_in_lockstep end es h) (ap is_advance is)
    (and_from _ _ (ap is_safe_quit is) (eq-eqb (moment_of e.call) end (ap moment_of is ∙ time)))

-- moves up to the end, and a halt there
pub halts_at_end : (end : ℕ) (es : List Entry) (e : Entry) → are_advances end es ≡ true → end ≤ time_in es → e.call ≡ Halt (time_in es) → e.reply ≡ Halted → are_controls true true end false (es ++ e ∷ []) ≡ true
halts_at_end end es e h reached is halted =
    let within = time_of_advances end es h in
    let time : time_in es ≡ end = omega (arith, within, reached) in
    are_controls-last true true end false es e (advances_in_lockstep end es h) (ap is_advance is)
    (and_from _ _ (and_from _ _ (ap is_halt is) (ap is_halted halted)) (eq-eqb (moment_of e.call) end (ap moment_of is ∙ time)))

-- a halt is the controller's
halt_is_control : (call : Call) → is_halt call ≡ true → is_control call ≡ true
halt_is_control (Halt now) h = refl
halt_is_control (Post p) h = absurd cc
halt_is_control (Barrier now) h = absurd cc
halt_is_control (Unbarrier t) h = absurd cc
halt_is_control (Remove f) h = absurd cc
halt_is_control (Quit safe now) h = absurd cc
halt_is_control (Next now) h = absurd cc
halt_is_control (Advance now) h = absurd cc

-- a call that is not the controller's comes at the time, or has no moment
moment_within : (time : ℕ) (call : Call) → is_control call ≡ false → CallFitsTime true time call → moment_of call ≤ time
moment_within time (Post p) c h = omega arith
moment_within time (Barrier now) c h = omega (arith, h)
moment_within time (Unbarrier t) c h = omega arith
moment_within time (Remove f) c h = omega arith
moment_within time (Quit safe now) c h = omega (arith, h)
moment_within time (Next now) c h = omega (arith, h)
moment_within time (Advance now) c h = absurd cc
moment_within time (Halt now) c h = absurd cc

-- what a reply tells: a quit alone is done, and not on main; what was quit, and is not over, is disposed of, by a look alone; and a halt alone halts, and main
record Tells (main over quit : Bool) (call : Call) (r : Reply) : Type 0 where
  quits : is_quit_done r ≡ true → (is_quit call ≡ true) × (main ≡ false)
  disposes : is_disposed r ≡ true → (quit ≡ true) × (over ≡ false) × (is_next call ≡ true)
  halts : is_halted r ≡ true → (is_halt call ≡ true) × (main ≡ true)

module _ (main over quit : Bool) where
  -- a reply of another kind
  tells_none : (call : Call) (r : Reply) → is_quit_done r ≡ false → is_disposed r ≡ false → is_halted r ≡ false → Tells main over quit call r
  tells_none call r q d h = record { quits = λ e. absurd cc; disposes = λ e. absurd cc; halts = λ e. absurd cc }

  -- the replies to a post, to the removal of a barrier and to an Advance are of another kind
  post_tells : (p : PostData) (o : Option ℕ) (n : ℕ) → Tells main over quit (Post p) (post_reply o n)
  post_tells p None n = tells_none (Post p) (post_reply None n) refl refl refl
  post_tells p (Some place) n = tells_none (Post p) (post_reply (Some place) n) refl refl refl

  unbarrier_tells : (t : ℕ) (found : Bool) → Tells main over quit (Unbarrier t) (if found then Unbarriered else NotPosted)
  unbarrier_tells t true = tells_none (Unbarrier t) Unbarriered refl refl refl
  unbarrier_tells t false = tells_none (Unbarrier t) NotPosted refl refl refl

  advance_tells : (now : ℕ) (none : Bool) → IfSome (if none then None else Some Advanced) (Tells main over quit (Advance now))
  advance_tells now true = tt
  advance_tells now false = tells_none (Advance now) Advanced refl refl refl

-- what the reply to a quit tells
quit_tells : (main over quit safe : Bool) (now : ℕ) (o : Option ℕ) → Tells main over quit (Quit safe now) (if main then NotAllowed else quit_reply o)
quit_tells true over quit safe now o = tells_none true over quit (Quit safe now) NotAllowed refl refl refl
quit_tells false over quit safe now None = record { quits = λ e. (refl, refl); disposes = λ e. absurd cc; halts = λ e. absurd cc }
quit_tells false over quit safe now (Some place) = tells_none false over quit (Quit safe now) (quit_reply (Some place)) refl refl refl

-- what the reply to a look for a message tells
next_tells : (main over quit : Bool) (now : ℕ) (x : Option Item) → IfSome (if over then None else next_reply x quit) (Tells main over quit (Next now))
next_tells main true quit now x = tt
next_tells main false true now None = record { quits = λ e. absurd cc; disposes = λ e. (refl, refl, refl); halts = λ e. absurd cc }
next_tells main false false now None = tt
next_tells main false quit now (Some (Message n p)) = tells_none main false quit (Next now) _ refl refl refl
next_tells main false quit now (Some (SyncBarrier t w)) = tt

-- what the reply to a halt tells
halt_tells : (main over quit : Bool) (now : ℕ) (due : Bool) → IfSome (if over || not main || due then None else Some Halted) (Tells main over quit (Halt now))
halt_tells main true quit now due = tt
halt_tells false false quit now due = tt
halt_tells true false quit now true = tt
halt_tells true false quit now false = record { quits = λ e. absurd cc; disposes = λ e. absurd cc; halts = λ e. (refl, refl) }

module _ (set : Setting) (b : Base) (es : List Entry) where
  -- what the reply to any call tells
  answer_tells : (call : Call) → IfSome (answer set b es call) (Tells set.main (is_over b es) (is_some (quit_place b es)) call)
  unfolding answer
  answer_tells (Post p) = post_tells set.main (is_over b es) (is_some (quit_place b es)) p (quit_place b es) (accepted_count b es)
  answer_tells (Barrier now) = tells_none set.main (is_over b es) (is_some (quit_place b es)) (Barrier now) _ refl refl refl
  answer_tells (Unbarrier t) = unbarrier_tells set.main (is_over b es) (is_some (quit_place b es)) t _
  answer_tells (Remove f) = tells_none set.main (is_over b es) (is_some (quit_place b es)) (Remove f) _ refl refl refl
  answer_tells (Quit safe now) = quit_tells set.main (is_over b es) (is_some (quit_place b es)) safe now (quit_place b es)
  answer_tells (Next now) = next_tells set.main (is_over b es) (is_some (quit_place b es)) now (pick b es now)
  answer_tells (Advance now) = advance_tells set.main (is_over b es) (is_some (quit_place b es)) now _
  answer_tells (Halt now) = halt_tells set.main (is_over b es) (is_some (quit_place b es)) now _

  -- what the reply of the next entry tells
  reply_tells : (e : Entry) → MayFollow set b es e → Tells set.main (is_over b es) (is_some (quit_place b es)) e.call e.reply
  reply_tells e h = subst (λ o. IfSome o (Tells set.main (is_over b es) (is_some (quit_place b es)) e.call)) h.reply (answer_tells e.call)

-- whether there was a quit, by the entry that comes next
is_some-quit_at : (o : Option ℕ) (place : ℕ) (e : Entry) → is_some (quit_at o place e) ≡ (is_some o || is_quit_done e.reply)
is_some-quit_at (Some first) place e = refl
is_some-quit_at None place e = go (is_quit_done e.reply)
  where
    go : (t : Bool) → is_some (if t then Some place else None) ≡ t
    go true = refl
    go false = refl

-- the same of a history with one entry more
is_quit-snoc : (b : Base) (es : List Entry) (e : Entry) → is_some (quit_place b (es ++ e ∷ [])) ≡ (is_some (quit_place b es) || is_quit_done e.reply)
is_quit-snoc b es e = ap is_some (quit_place-snoc b es e) ∙ is_some-quit_at (quit_place b es) _ e

-- nothing was quit, disposed of or halted yet
starts_open : (m : ℕ) → (is_some (quit_place (empty_base m) []) ≡ false) × (has_disposed (empty_base m) [] ≡ false) × (has_halted (empty_base m) [] ≡ false)
unfolding quit_place has_disposed has_halted
starts_open m = (refl, refl, refl)

-- main was not quit
main_is_not_quit : (set : Setting) (m : ℕ) → set.main ≡ true → (es : List Entry) → IsLegal set (empty_base m) es → is_some (quit_place (empty_base m) es) ≡ false
main_is_not_quit set m main = entry_by_entry (λ es. IsLegal set (empty_base m) es → is_some (quit_place (empty_base m) es) ≡ false)
    (λ legal. (starts_open m).0)
    (λ es e before legal.
    let tells = reply_tells set (empty_base m) es e (IsLegal-last set (empty_base m) es e legal) in
    let none = false_from_ne_true (is_quit_done e.reply) (λ done. let other = (tells.quits done).1 in absurd cc) in
    is_quit-snoc (empty_base m) es e ∙ or_from _ _ (before (IsLegal-front set (empty_base m) es (e ∷ []) legal)) none)

module _ (end n : ℕ) where
  -- of the controller's moves in a longer history, those before, and the last one
  pub own_advances : (es : List Entry) (e : Entry) → are_advances end (entries_by n (es ++ e ∷ [])) ≡ true
      → (are_advances end (entries_by n es) ≡ true) × ((e.sender == n) ≡ true → is_advance e.call ≡ true)
  own_advances es e h =
      let parts = and_parts (are_advances end (entries_by n es)) (are_advances end (entries_by n (e ∷ []))) (sym (ap (are_advances end) (entries_by-append n es (e ∷ [])) ∙ are_advances-append end (entries_by n es) (entries_by n (e ∷ []))) ∙ h) in (
        parts.0,
        λ own.
            let one : are_advances end (e ∷ []) ≡ true = ap (are_advances end) (sym (entries_by-own n [] e own)) ∙ parts.1 in
            (and_parts (is_advance e.call) _ (and_parts _ true one).0).0,
      )

module _ (set : Setting) (n : ℕ) (last : n + 1 ≡ set.senders) where
  -- the controller's own calls come from it alone
  control_is_own : (es : List Entry) (e : Entry) → IsNextOfSender set (empty_base set.senders) es e → is_control e.call ≡ true → (e.sender == n) ≡ true
  control_is_own es e h is = let same = h.controller is in eq-eqb e.sender n (omega (arith, same, last))

  -- in lockstep the time of a queue is the one to which the controller has moved it
  pub time_by_controller : set.lockstep ≡ true → (es : List Entry) → IsLegal set (empty_base set.senders) es → AreNumbered set (empty_base set.senders) es
      → clock (empty_base set.senders) es ≡ time_in (entries_by n es)
  time_by_controller lockstep = entry_by_entry (λ es. IsLegal set (empty_base set.senders) es → AreNumbered set (empty_base set.senders) es → clock (empty_base set.senders) es ≡ time_in (entries_by n es))
      (λ legal numbered. clock-none set.senders ∙ sym (clock-none 0))
      (λ es e before legal numbered.
      let base = empty_base set.senders in
      let early = before (IsLegal-front set base es (e ∷ []) legal) (AreNumbered-front set base es (e ∷ []) numbered) in
      let timely = subst (λ (b : Bool). CallFitsTime b (clock base es) e.call) lockstep (IsLegal-last set base es e legal).timely in
      clock-snoc base es e ∙ elim (cases_Bool (e.sender == n)) [
        | inl own ↦ ap (λ t. max t (moment_of e.call)) early ∙ sym (time_in-snoc (entries_by n es) e) ∙ ap time_in (sym (entries_by-own n es e own))
        | inr other ↦
            let free = false_from_ne_true (is_control e.call) (λ c. let own = control_is_own es e (AreNumbered-last set base es e numbered) c in absurd cc) in
            max-eq_left (moment_within (clock base es) e.call free timely) ∙ early ∙ ap time_in (sym (entries_by-unchanged n es (e ∷ []) (other, tt)))
      ])

  -- where the controller only moves the time, nothing halts
  moves_do_not_halt : {over quit : Bool} (es : List Entry) (e : Entry) → IsNextOfSender set (empty_base set.senders) es e → Tells set.main over quit e.call e.reply
      → ((e.sender == n) ≡ true → is_advance e.call ≡ true) → is_halted e.reply ≡ false
  moves_do_not_halt es e next tells moves = false_from_ne_true (is_halted e.reply) (λ h.
      let halt = (tells.halts h).0 in
      let no_halt = (advance_alone e.call (moves (control_is_own es e next (halt_is_control e.call halt)))).0 in
      absurd cc)

  -- main is not over where the controller has only moved its time on
  pub main_is_not_over : set.main ≡ true → (end : ℕ) (es : List Entry) → IsLegal set (empty_base set.senders) es → AreNumbered set (empty_base set.senders) es
      → are_advances end (entries_by n es) ≡ true → is_over (empty_base set.senders) es ≡ false
  main_is_not_over main end = entry_by_entry (λ es. IsLegal set (empty_base set.senders) es → AreNumbered set (empty_base set.senders) es → are_advances end (entries_by n es) ≡ true → is_over (empty_base set.senders) es ≡ false)
      (λ legal numbered moves. or_from _ _ (starts_open set.senders).1 (starts_open set.senders).2)
      (λ es e before legal numbered moves.
      let base = empty_base set.senders in
      let front = IsLegal-front set base es (e ∷ []) legal in
      let moved = own_advances end n es e moves in
      let early = or_parts _ _ (before front (AreNumbered-front set base es (e ∷ []) numbered) moved.0) in
      let tells = reply_tells set base es e (IsLegal-last set base es e legal) in
      let not_disposed = false_from_ne_true (is_disposed e.reply) (λ d. let was = (tells.disposes d).0 in let none = main_is_not_quit set set.senders main es front in absurd cc) in
      let not_halted = moves_do_not_halt es e (AreNumbered-last set base es e numbered) tells moved.1 in
      or_from _ _ (has_disposed-snoc base es e ∙ or_from _ _ early.0 not_disposed) (has_halted-snoc base es e ∙ or_from _ _ early.1 not_halted))

-- how often a thing counts that happened or not
abbrev one_if : Bool → ℕ
one_if b = if b then 1 else 0

-- the disposals with one entry more
disposed_count-snoc : (es : List Entry) (e : Entry) → disposed_count (es ++ e ∷ []) ≡ disposed_count es + one_if (is_disposed e.reply)
disposed_count-snoc es e = omega (arith, sum_by-append (λ (f : Entry). cond (is_disposed f.reply) 1 0) es (e ∷ []))

-- what comes only where it was not before is counted once
counted_once : (was now : Bool) → (now ≡ true → was ≡ false) → one_if was + one_if now ≡ one_if (was || now)
counted_once true true h = let wrong = h refl in absurd cc
counted_once true false h = refl
counted_once false true h = refl
counted_once false false h = refl

module _ (set : Setting) (m : ℕ) where
  -- elsewhere than on main nothing halts
  pub side_is_not_halted : set.main ≡ false → (es : List Entry) → IsLegal set (empty_base m) es → has_halted (empty_base m) es ≡ false
  side_is_not_halted side = entry_by_entry (λ es. IsLegal set (empty_base m) es → has_halted (empty_base m) es ≡ false)
      (λ legal. (starts_open m).2)
      (λ es e before legal.
      let tells = reply_tells set (empty_base m) es e (IsLegal-last set (empty_base m) es e legal) in
      let none = false_from_ne_true (is_halted e.reply) (λ h. let other = (tells.halts h).1 in absurd cc) in
      has_halted-snoc (empty_base m) es e ∙ or_from _ _ (before (IsLegal-front set (empty_base m) es (e ∷ []) legal)) none)

  -- what was disposed of was quit
  disposed_was_quit : (es : List Entry) → IsLegal set (empty_base m) es → has_disposed (empty_base m) es ≡ true → is_some (quit_place (empty_base m) es) ≡ true
  disposed_was_quit = entry_by_entry (λ es. IsLegal set (empty_base m) es → has_disposed (empty_base m) es ≡ true → is_some (quit_place (empty_base m) es) ≡ true)
      (λ legal d. let none = (starts_open m).1 in absurd cc)
      (λ es e before legal d.
      let tells = reply_tells set (empty_base m) es e (IsLegal-last set (empty_base m) es e legal) in
      is_quit-snoc (empty_base m) es e ∙ elim (or_cases (has_disposed (empty_base m) es) (is_disposed e.reply) (sym (has_disposed-snoc (empty_base m) es e) ∙ d)) [
        | inl was ↦ or_left _ _ (before (IsLegal-front set (empty_base m) es (e ∷ []) legal) was)
        | inr now ↦ or_left _ _ (tells.disposes now).0
      ])

  -- it is disposed of once
  disposed_once : (es : List Entry) → IsLegal set (empty_base m) es → disposed_count es ≡ one_if (has_disposed (empty_base m) es)
  disposed_once = entry_by_entry (λ es. IsLegal set (empty_base m) es → disposed_count es ≡ one_if (has_disposed (empty_base m) es))
      (λ legal. ap one_if (sym (starts_open m).1))
      (λ es e before legal.
      let early = before (IsLegal-front set (empty_base m) es (e ∷ []) legal) in
      let tells = reply_tells set (empty_base m) es e (IsLegal-last set (empty_base m) es e legal) in
      disposed_count-snoc es e ∙ ap (λ k. k + one_if (is_disposed e.reply)) early
      ∙ counted_once (has_disposed (empty_base m) es) (is_disposed e.reply) (λ d. (or_parts _ _ (tells.disposes d).1).0)
      ∙ ap one_if (sym (has_disposed-snoc (empty_base m) es e)))

-- main is not disposed of
pub main_is_not_disposed : (set : Setting) (m : ℕ) → set.main ≡ true → (es : List Entry) → IsLegal set (empty_base m) es → has_disposed (empty_base m) es ≡ false
main_is_not_disposed set m main es legal =
    false_from_ne_true (has_disposed (empty_base m) es) (λ d. let was = disposed_was_quit set m es legal d in let none = main_is_not_quit set m main es legal in absurd cc)

-- a look alone disposes of a queue
pub looks_dispose : (set : Setting) (m : ℕ) (es : List Entry) → IsLegal set (empty_base m) es → AllByRecursion (λ e. is_disposed e.reply ≡ true → is_next e.call ≡ true) es
looks_dispose set m = entry_by_entry (λ es. IsLegal set (empty_base m) es → AllByRecursion (λ e. is_disposed e.reply ≡ true → is_next e.call ≡ true) es)
    (λ legal. tt)
    (λ es e before legal.
    let tells = reply_tells set (empty_base m) es e (IsLegal-last set (empty_base m) es e legal) in
    AllByRecursion-append (λ f. is_disposed f.reply ≡ true → is_next f.call ≡ true) es (e ∷ []) (before (IsLegal-front set (empty_base m) es (e ∷ []) legal)) (λ d. (tells.disposes d).2, tt))

-- where the controller has only moved the time on, another sender's quit is the one that was done
quit_by_others : (set : Setting) (m end n : ℕ) (es : List Entry) → IsLegal set (empty_base m) es → are_advances end (entries_by n es) ≡ true
    → is_some (quit_place (empty_base m) es) ≡ true → is_quit_by_others n es ≡ true
quit_by_others set m end n = entry_by_entry (λ es. IsLegal set (empty_base m) es → are_advances end (entries_by n es) ≡ true → is_some (quit_place (empty_base m) es) ≡ true → is_quit_by_others n es ≡ true)
    (λ legal moves q. let none = (starts_open m).0 in absurd cc)
    (λ es e before legal moves q.
    let moved = own_advances end n es e moves in
    let tells = reply_tells set (empty_base m) es e (IsLegal-last set (empty_base m) es e legal) in
    list_any-append (λ (f : Entry). is_quit_done f.reply && not (f.sender == n)) es (e ∷ [])
    ∙ elim (or_cases (is_some (quit_place (empty_base m) es)) (is_quit_done e.reply) (sym (is_quit-snoc (empty_base m) es e) ∙ q)) [
      | inl was ↦ or_left _ _ (before (IsLegal-front set (empty_base m) es (e ∷ []) legal) moved.0 was)
      | inr now ↦
          let other = false_from_ne_true (e.sender == n) (λ own. let moves_on = (advance_alone e.call (moved.1 own)).1 in let quits = (tells.quits now).0 in absurd cc) in
          let here : list_any (λ f. is_quit_done f.reply && not (f.sender == n)) (e ∷ []) ≡ true = rw (now, other) refl in
          or_right _ _ here
    ])

-- one entry more, which moves the time or closes
one_or_closed : (moves within last all : Bool) (rest : Bool → Bool) → (if moves then within && rest true else last) ≡ true
    → (rest true ≡ true → (all ≡ true) ⊎ ((q : Bool) → rest q ≡ true))
    → ((moves && within && all) ≡ true) ⊎ ((q : Bool) → (if moves then within && rest q else last) ≡ true)
one_or_closed true within last all rest h more =
    let parts = and_parts within (rest true) h in
    elim (more parts.1) [
      | inl same ↦ inl (and_from _ _ parts.0 same)
      | inr any ↦ inr (λ q. and_from _ _ parts.0 (any q))
    ]
one_or_closed false within last all rest h more = inr (λ q. h)

-- by a clock nothing moves the time
none_or_closed : (moves a b c last : Bool) → (if moves then false && a && b else last) ≡ true → (if moves then false && a && c else last) ≡ true
none_or_closed true a b c last h = absurd cc
none_or_closed false a b c last h = h

-- moves of the time alone, or a last call behind them, so that no quit of another sender is needed
moves_or_closed : (lockstep : Bool) (end : ℕ) (es : List Entry) → are_controls false lockstep end true es ≡ true → (are_advances end es ≡ true) ⊎ ((q : Bool) → are_controls false lockstep end q es ≡ true)
moves_or_closed true end [] h = inl refl
moves_or_closed true end (e ∷ es) h =
    one_or_closed (is_advance e.call) (nat_le (moment_of e.call) end) (is_empty es && is_closing false true end e) (are_advances end es) (λ q. are_controls false true end q es) h (moves_or_closed true end es)
moves_or_closed false end [] h = inl refl
moves_or_closed false end (e ∷ es) h =
    inr (λ q. none_or_closed (is_advance e.call) (nat_le (moment_of e.call) end) (are_controls false false end true es) (are_controls false false end q es) (is_empty es && is_closing false false end e) h)

-- the controller's entries on a queue that is not main, and was seen over
pub side_is_controlled : (lockstep : Bool) (set : Setting) (n end : ℕ) (seen es : List Entry) → set.main ≡ false → IsLegal set (empty_base set.senders) es
    → IsPrefix seen es → is_over (empty_base set.senders) seen ≡ true → are_controls false lockstep end true (entries_by n es) ≡ true → is_controlled false lockstep n end es ≡ true
unfolding is_controlled
side_is_controlled lockstep set n end seen es side legal begins over calls =
    let base = empty_base set.senders in
    let early = IsLegal-front set base seen begins.0 (subst (IsLegal set base) (sym begins.1) legal) in
    let not_halted = side_is_not_halted set set.senders side seen early in
    let was : has_disposed base seen ≡ true = sym (or-false (has_disposed base seen)) ∙ ap (λ t. has_disposed base seen || t) (sym not_halted) ∙ over in
    let disposed = subst (λ l. has_disposed base l ≡ true) begins.1 (disposed_stays base seen begins.0 was) in
    let once : disposed_count es ≡ 1 = disposed_once set set.senders es legal ∙ ap one_if disposed in
    let own : are_controls false lockstep end (is_quit_by_others n es) (entries_by n es) ≡ true = elim (moves_or_closed lockstep end (entries_by n es) calls) [
      | inl moves ↦ subst (λ q. are_controls false lockstep end q (entries_by n es) ≡ true) (sym (quit_by_others set set.senders end n es legal moves (disposed_was_quit set set.senders es legal disposed))) calls
      | inr any ↦ any (is_quit_by_others n es)
    ] in
    and_from _ _ own (eq-eqb (disposed_count es) 1 once)

-- whether a queue was quit is nothing to main's halt
halted_with_quit : (lockstep : Bool) (end : ℕ) (quit : Bool) (es : List Entry) → are_controls true lockstep end quit es ≡ are_controls true lockstep end false es
halted_with_quit lockstep end quit [] = refl
halted_with_quit lockstep end quit (e ∷ es) = ap (λ t. if is_advance e.call then lockstep && nat_le (moment_of e.call) end && t else (is_empty es && is_closing true lockstep end e)) (halted_with_quit lockstep end quit es)

-- the controller's entries on main
pub main_is_controlled : (lockstep : Bool) (n end : ℕ) (es : List Entry) → are_controls true lockstep end false (entries_by n es) ≡ true → is_controlled true lockstep n end es ≡ true
unfolding is_controlled
main_is_controlled lockstep n end es calls = and_from _ _ (halted_with_quit lockstep end (is_quit_by_others n es) (entries_by n es) ∙ calls) refl

module _ (m : Mode) (s : Script) (r : QueueRecord) (is : IsRecordOf m all_entries s r) where
  -- the record of main
  main_record : r.looper ≡ 0 → are_controls true m.lockstep s.end false (entries_by (controller s) (history_of r)) ≡ true → IsControlled s r
  main_record first calls =
      subst (λ b. is_controlled b r.lockstep (controller s) s.end (history_of r) ≡ true) (sym (is.main ∙ ap (λ (l : ℕ). l == 0) first))
      (subst (λ b. is_controlled true b (controller s) s.end (history_of r) ≡ true) (sym is.lockstep) (main_is_controlled m.lockstep (controller s) s.end (history_of r) calls))

  -- the record of another queue, which its looper has seen over
  side_record : 0 < r.looper → (seen : List Entry) → IsPrefix seen (history_of r) → is_over (empty_base (sender_count s)) seen ≡ true
      → are_controls false m.lockstep s.end true (entries_by (controller s) (history_of r)) ≡ true → IsControlled s r
  side_record other seen begins over calls =
      let side : r.main ≡ false = is.main ∙ ne_eqb r.looper 0 (λ e. absurd (omega (arith, other, e))) in
      subst (λ b. is_controlled b r.lockstep (controller s) s.end (history_of r) ≡ true) (sym side)
      (subst (λ b. is_controlled false b (controller s) s.end (history_of r) ≡ true) (sym is.lockstep)
      (side_is_controlled m.lockstep (record_setting r) (controller s) s.end seen (history_of r) side is.legal begins (subst (λ n. is_over (empty_base n) seen ≡ true) (sym is.senders) over) calls))

module _ (s : Script) (hall : Hall) (kits : List Kit) (records : List QueueRecord) (h : IsHall s hall) (are : AreKitsOf s hall kits) (c : Controller) (held : (d : Kit) → slice_index_or kits (controller s) d ≡ c.kit) where
  -- each record has what the controller called on its queue, which is lawful
  pub controls_of_records : (m : Mode) → HasClosedIn m.lockstep s c → OthersAreOver s kits → AreQueueRecords m s records → HaveAll kits records → AllByRecursion (IsControlled s) records
  controls_of_records m closed over recs all = All_recursive (IsControlled s) records (λ q r lt. each q r (some_of c.kit.posters.items q (within q lt)) lt)
    where
      few : length records ≡ s.loopers
      few = numbered_count (λ (z : QueueRecord). z.looper) s.loopers records recs.loopers

      last : controller s < length kits
      last = let count = are.count in omega (arith, count)

      history : (q : ℕ) (r : QueueRecord) → q < length records → IsRecordOf m all_entries s (slice_index_or records q r) × ((slice_index_or records q r).looper ≡ q)
      history q r lt = (All_indexed (IsRecordOf m all_entries s) records recs.histories q r lt, numbered_at (λ (z : QueueRecord). z.looper) s.loopers records recs.loopers q r lt)

      within : (q : ℕ) → q < length records → q < length c.kit.posters.items
      within q lt =
          let posters = subst (λ (z : Kit). ArePostersOf (controller s) hall.queues.items z.posters.items) (held c.kit) (are.each (controller s) c.kit last).posters in
          let long = alike_length badge_of (badge_for (controller s)) c.kit.posters.items hall.queues.items posters ∙ queue_count hall.lockstep s hall.pool hall.queues.items h.queues in
          let short = few in
          omega (arith, lt, long, short)

      calls : (q : ℕ) (r : QueueRecord) (p : Sender) → q < length records → entries_by (controller s) (history_of (slice_index_or records q r)) ≡ calls_on c q p
      calls q r p lt = (all (controller s) q c.kit p r last lt).0 ∙ ap (λ (z : Kit). own (slice_index_or z.posters.items q p)) (held c.kit)

      each : (q : ℕ) (r : QueueRecord) (p : Sender) → q < length records → IsControlled s (slice_index_or records q r)
      each zero r p lt =
          let is = history zero r lt in
          main_record m s (slice_index_or records zero r) is.0 is.1 (subst (λ l. are_controls true m.lockstep s.end false l ≡ true) (sym (calls zero r p lt)) (closed.main p (within zero lt)))
      each (suc q) r p lt =
          let is = history (suc q) r lt in
          let number = is.1 in
          let count = are.count in
          let short = few in
          let looper : s.threads + suc q < length kits = omega (arith, lt, count, short) in
          side_record m s (slice_index_or records (suc q) r) is.0 (omega (arith, number)) _ (all (s.threads + suc q) (suc q) c.kit p r looper lt).1
          (over (suc q) c.kit (omega arith) (omega (arith, lt, short)) p)
          (subst (λ l. are_controls false m.lockstep s.end true l ≡ true) (sym (calls (suc q) r p lt)) (closed.others (suc q) (omega arith) p (within (suc q) lt)))

-- ==== what the controller has called stays true while it calls nothing, and its stages follow one another

-- where the posters are the same it has called nothing more
pub none_same : (c c' : Controller) → c'.kit.posters ≡ c.kit.posters → CallsNone c c'
none_same c c' is = record {
  long = ap (λ (v : Vec Sender). length v.items) is;
  calls = λ q d. ap (λ (v : Vec Sender). own (slice_index_or v.items q d)) is;
}

-- nothing, and then nothing
pub none_after : (a b c : Controller) → CallsNone a b → CallsNone b c → CallsNone a c
none_after a b c f g = record {
  long = g.long ∙ f.long;
  calls = λ q d. g.calls q d ∙ f.calls q d;
}

-- what holds of the calls on one queue holds of them still, where none was made there
pub calls_kept : (c c' : Controller) → length c'.kit.posters.items ≡ length c.kit.posters.items → (q : ℕ) → ((d : Sender) → calls_on c' q d ≡ calls_on c q d) → (P : List Entry → Type 0)
    → ((d : Sender) → q < length c.kit.posters.items → P (calls_on c q d))
    → (d : Sender) → q < length c'.kit.posters.items → P (calls_on c' q d)
calls_kept c c' long q same P h d lt = subst P (sym (same d)) (h d (subst (λ (n : ℕ). q < n) long lt))

-- it has moved no queue past this time, as before
pub by_kept : (c c' : Controller) → CallsNone c c' → (time : ℕ) → AreBy time c → AreBy time c'
by_kept c c' none time by q = calls_kept c c' none.long q (none.calls q) (λ l. are_advances time l ≡ true) (by q)

module _ (s : Script) (c c' : Controller) (none : CallsNone c c') where
  moves_kept : (q : ℕ) → OnlyMoves s c q → OnlyMoves s c' q
  moves_kept q = calls_kept c c' none.long q (none.calls q) (λ l. are_advances s.end l ≡ true)

  quits_kept : (lockstep : Bool) (q : ℕ) → MovesAndQuits lockstep s c q → MovesAndQuits lockstep s c' q
  quits_kept lockstep q = calls_kept c c' none.long q (none.calls q) (λ l. are_controls false lockstep s.end true l ≡ true)

  -- it has called nothing there, as before
  pub nothing_kept : (q : ℕ) → CallsNothingOn c q → CallsNothingOn c' q
  nothing_kept q = calls_kept c c' none.long q (none.calls q) (λ l. l ≡ [])

  -- it moves the queues' time on, as before
  pub moving_kept : IsMoving s c → IsMoving s c'
  moving_kept = by_kept c c' none s.end

  -- main has come to the same time
  pub reached_kept : (time : ℕ) → HasReached time c → HasReached time c'
  reached_kept time = calls_kept c c' none.long 0 (none.calls 0) (λ l. time ≤ time_in l)

  -- the same queues may have been quit
  pub quitting_kept : (n : ℕ) → IsQuitting s n c → IsQuitting s n c'
  quitting_kept n k = record {
    side = k.side;
    main = moves_kept 0 k.main;
    reached = reached_kept s.end k.reached;
    done = λ q some lt. quits_kept true q (k.done q some lt);
    rest = λ q le. moves_kept q (k.rest q le);
  }

  -- and main is still to be halted
  pub closing_kept : IsClosing s c → IsClosing s c'
  closing_kept k = record {
    main = moves_kept 0 k.main;
    reached = reached_kept s.end k.reached;
    others = λ q some. quits_kept true q (k.others q some);
  }

  -- the same by a clock
  pub closing_by_kept : IsClosingBy s c → IsClosingBy s c'
  closing_by_kept k = record { main = nothing_kept 0 k.main; others = λ q some. quits_kept false q (k.others q some) }

  -- and main was halted, and the others may have been quit
  pub closed_kept : {lockstep : Bool} → HasClosedIn lockstep s c → HasClosedIn lockstep s c'
  closed_kept {lockstep} k = record {
    main = calls_kept c c' none.long 0 (none.calls 0) (λ l. are_controls true lockstep s.end false l ≡ true) k.main;
    others = λ q some. quits_kept lockstep q (k.others q some);
  }

module _ (s : Script) (c : Controller) where
  -- where only the time was moved on, the queue may also have been quit
  pub moves_may_quit : (q : ℕ) → OnlyMoves s c q → MovesAndQuits true s c q
  moves_may_quit q moves d lt = advances_may_quit s.end (calls_on c q d) (moves d lt)

  -- none has been quit as the time of main comes to the end
  pub quitting_starts : IsMoving s c → HasReached s.end c → IsQuitting s 1 c
  quitting_starts moving reached = record {
    side = omega arith;
    main = moving 0;
    reached = reached;
    done = λ q some lt. absurd (omega (arith, some, lt));
    rest = λ q le. moving q;
  }

  -- a queue that is not quit is passed over
  pub quitting_skips : (n : ℕ) → IsQuitting s n c → IsQuitting s (n + 1) c
  quitting_skips n k = record {
    side = omega arith;
    main = k.main;
    reached = k.reached;
    done = λ q some lt. dite (dec_lt q n) (λ below. k.done q some below) (λ here. moves_may_quit q (k.rest q (omega (arith, here))));
    rest = λ q le. k.rest q (omega (arith, le));
  }

-- ==== what the stage knows of its controller's calls, and of a kit that was not used

-- behind the last queue each but main may have been quit
pub quitting_ends : (s : Script) (n : ℕ) (c : Controller) → IsQuitting s n c → IsClosing s c
quitting_ends s n c k = record {
  main = k.main;
  reached = k.reached;
  others = λ q some. dite (dec_lt q n) (λ below. k.done q some below) (λ here. moves_may_quit s c q (k.rest q (omega (arith, here))));
}

-- a controller whose kit was not used has called nothing, so it has moved no queue past a time
pub unused_by : (time : ℕ) (c : Controller) → IsUnusedKit c.kit → AreBy time c
unused_by time c unused = λ q d lt. subst (λ (l : List Entry). are_advances time (entries_by (slice_index_or c.kit.posters.items q d).sender l) ≡ true) (sym (unused.posters q d lt)) refl

-- it moves the time alone
pub unused_moves : (s : Script) (c : Controller) → IsUnusedKit c.kit → IsMoving s c
unused_moves s c unused = λ q. unused_by s.end c unused q
