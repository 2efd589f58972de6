-- Where the queues' times are moved to, and what a step of a stage makes of them and of its blocks.
use Rattle.std.proofs.Common.{◌≡◌, ◌≢◌, ◌≤◌, ℕ, false, List, ◌+◌, ◌/◌, ◌%◌, ◌<◌, true, Option, Some, length, arith, refl, sym, ap, ◌∙◌, subst, ◌⊎◌, inl, inr, Bool, true≢false, [], ◌∷◌, ◌++◌, None, max}
use Rattle.std.specs.Prelude.{min, slice_index_or, nat_le, is_some, not, ◌||◌, ◌&&◌, ◌==◌, if◌then◌else◌, map}
use Rattle.std.specs.Option.{option_map}
use Rattle.std.specs.Vec.{with_item}
use Rattle.std.proofs.lemmas.List.{get_or_default, get_or-set_same, length-map, get_or-map, same_lists}
use Rattle.frame_phases.specs.Frames.{is_pulse}
use Rattle.dash_script.specs.declared.script.Script.{Script}
use Rattle.choreographer.specs.declared.view.Constants.{Constants as FrameConstants}
use Rattle.choreographer.specs.Known.{SharedFrames, Pass}
use Rattle.choreographer.specs.Calls.{AskedBy}
use Rattle.run_model.specs.FrameRecords.{millis_up, in_block, in_round}
use Rattle.run_model.specs.Control.{IsPulseTime, is_advance, Move, moves, move_times, main_moves, is_planned_time, MayMoveTo, AreMovedTogether}
use Rattle.dash_hall.specs.declared.hall.Hall.{Hall}
use Rattle.dash_hall.proofs.Badges.{choreographer_at}
use Rattle.dash_stage.specs.declared.control.Controller.{Controller}
use Rattle.dash_stage.specs.Controllers.{CanTurn, LooksFor, are_advances, time_in, calls_on, CallsNone}
use Rattle.dash_stage.specs.Timeliness.{NotLater, NotLaterThanPulse, whole_on, AreSound, MovesTo, MovesNot, HaveReachedTime, AreBy, AreRested, AreDue, EachTurnsOn}
use Rattle.dash_stage.proofs.Controller.Controlling.{pass_count}
use Rattle.looper_run.specs.Round.{is_ended}
use Rattle.dash_loopers.specs.declared.looper.StageLooper.{StageLooper}
use Rattle.dash_loopers.proofs.LooperPulses.{rounded_up}
use mathlib.Core.Logic.{dite}
use native.Mathlib.Decide.{dec_lt}
use Rattle.std.specs.List.{AllByRecursion, list_any, enumerate_from}
use Rattle.std.proofs.Math.Bool.{or_assoc}
use Rattle.std.proofs.lemmas.Bool.{cases_Bool, or_left, or_right, false_from_ne_true, leb-false}
use Rattle.std.proofs.lemmas.List.Folds.{list_any-append}
use mathlib.Core.List.{IsPrefix}
use Rattle.loop_model.specs.declared.entry.Entry.{Entry}
use Rattle.loop_model.specs.declared.base.Base.{Base}
use Rattle.loop_model.specs.declared.call.Call.{Call}
use Rattle.loop_model.specs.declared.call.Call.TheVariants.{Advance}
use Rattle.loop_model.specs.declared.reply.Reply.TheVariants.{Advanced}
use Rattle.loop_model.specs.Base.{empty_base}
use Rattle.loop_model.specs.Entries.{is_halted}
use Rattle.loop_model.specs.Items.{when_of}
use Rattle.loop_model.specs.Pick.{pick}
use Rattle.loop_model.specs.Answers.{Setting, answer, clock, has_disposed, has_halted, is_over}
use Rattle.loop_model.proofs.AfterLaws.{disposed_stays}
use Rattle.loop_model.proofs.LegalLaws.{IsLegal-last}
use Rattle.loop_model.proofs.Sorting.{AllByRecursion-weaker}
use Rattle.looper_run.specs.Holding.{Sender}
use Rattle.run_model.specs.Planned.{entries_by, controller, sender_count, history_of}
use Rattle.dash_loopers.specs.Loopers.{IsSoundOn, setting_for, LooperKeeps, ComesToWait}
use Rattle.dash_hall.specs.Hearing.{HaveHeard, seen_by, HaveSeenAll, AtEach}
use Rattle.dash_stage.specs.declared.stage.Stage.{Stage}
use Rattle.dash_stage.specs.Stages.{IsStage, EachRunsBlock, AreLoopers, LoopersGoOn}
use Rattle.dash_stage.specs.Playing.{IsInTime, LiesAhead, EachPlaysOn, AreStuck}
use Rattle.dash_stage.specs.Moves.{moves_by, IsMovedTogether, AreMoved, MayBeMovedTo, IsPlanned, IsPulse, IsDue}
use Rattle.dash_stage.proofs.Controller.Controls.{time_by_controller, main_is_not_over, none_after, moving_kept, by_kept}
use Rattle.dash_stage.proofs.Stages.Timely.{of_others, is_seen, within, all_sound, known}
use Rattle.dash_stage.proofs.Ends.HallEnds.{some_of}
use Rattle.dash_stage.proofs.Stages.StageWhole.{queues_count, controller_entries, sound_grown, none_behind, eligible_same, over_moves_none, longer, turned_on, turned_left, grown_by_turns, sound_by_turns, Turned, MovedOn, may_come_at, heard_grown, come_to_rest, move_in_time, threads_heard, kept_timely, turned_by, turns_from}
use Rattle.dash_stage.proofs.Stages.StageTurns.{heard_entries, IsInTimeBy, turned_timely, block_timely, go_on_kept}
use Rattle.dash_stage.proofs.Played.PlayedTurns.{advanced_sound, sound_heard, ahead_on, block_first, block_in_step, turned_in_step, advanced_in_step, advanced_at_block}
use Rattle.run_model.proofs.MoveLaws.{MakesNoMove, move_to, moves_stay, one_move, MayGoOn, Stays, Goes, main_at, one_time, moved_together, due_before}
use Rattle.loop_model.specs.declared.record.QueueRecord.{QueueRecord}
use Rattle.loop_model.proofs.WellFormedLaws.{All_recursive}
use Rattle.dash_hall.specs.declared.kit.Kit.{Kit}
use Rattle.dash_hall.specs.Kits.{IsHall, AreUnseen, AreKitsOf}
use Rattle.dash_stage.specs.Records.{AreQueueRecords, HaveAll}
use Rattle.dash_stage.specs.Sharing.{OfKits, HaveHeardTheSame, HaveShared}
use Rattle.run_model.specs.Moments.{in_lockstep}
use Rattle.std.specs.Global.{Vec}
use Rattle.dash_script.specs.declared.script.Block.{Block}
use Rattle.dash_script.specs.Reading.{HasText}
use Rattle.dash_threads.specs.declared.thread.PostingThread.{PostingThread}
use Rattle.dash_threads.specs.Threads.{ThreadKeeps}
use Rattle.dash_stage.specs.declared.side.Turn.{Turn}
use Rattle.dash_stage.specs.Steps.{StageAt, RestsAt, StillAt, StaysAt, TimeLiesAhead, BeginsBlock, IsReadyFor, StageRunsBlock, IsUnderWay, StandsStill, OnlyLooked, RestsUnlessGrown}
use Rattle.dash_stage.specs.Turns.{AtTurn, IsTheSame, HaveTakenTurns}
use Rattle.dash_stage.proofs.BlockTimes.{run_one_more}
use Rattle.dash_stage.proofs.Played.InTurn.{asks_nothing, asks_in_block, nothing_stays, ahead_less, rounds_before, block_up_to_now}
use Rattle.dash_stage.proofs.Played.InTurnRounds.{asks_in_rounds}
use Rattle.dash_stage.proofs.Played.PlayedRounds.{round_in_step, round_asks}
use Rattle.dash_stage.proofs.Sharing.{run_kept, calls_none, all_have_turn, awaited_heard}

-- ==== the time in milliseconds at which a pulse that is asked for comes

-- a pulse that a looper's choreographer asks for is one of the script's period, and comes at its stamp, rounded up
pub asked_comes : {s : Script} {hall : Hall} {i : ℕ} {c : Controller} → CanTurn true s hall i c → {f : SharedFrames} → f ≡ slice_index_or hall.choreographers.items i f → (stamp time t : ℕ) → is_pulse f.constants.interval stamp ≡ true
    → time ≡ stamp / 1000000 + min 1 (stamp % 1000000) → Some time ≡ Some t → IsPulseTime s.period t
asked_comes {s} {hall} {i} {c} at {f} is_f stamp time t pulse rounded is = record {
  stamp = stamp;
  pulse = (let period : f.constants.interval ≡ s.period = ap (λ (c : SharedFrames). c.constants.interval) is_f ∙ ap (λ (k : FrameConstants). k.interval) (choreographer_at s hall.choreographers.items at.is_hall.choreographers i f at.known) in
      subst (λ (n : ℕ). is_pulse n stamp ≡ true) period pulse);
  rounded = (let same : time ≡ t = cc is in rounded_up stamp time rounded ∙ same);
}

-- where the controller's pass of a looper's choreographer found by one turn what is asked for there, it looked for that looper's pulse
pub looked : {s : Script} {hall : Hall} {i : ℕ} {c : Controller} → CanTurn true s hall i c → {p p' : Pass} {stamp pulse : Option ℕ} → p ≡ slice_index_or c.kit.frames.items i p → AskedBy p p' stamp
    → pulse ≡ option_map millis_up stamp → LooksFor i c (record { kit = record { posters = c.kit.posters; pass = c.kit.pass; frames = with_item c.kit.frames i p' }; sealed = c.sealed; sealed_frames = c.sealed_frames }) pulse
looked {s} {hall} {i} {c} at {p} {p'} {stamp} {pulse} is_p asked rounded =
    let ps = c.kit.frames.items in
    let has_pass : i < length ps = subst (λ n. i < n) (sym (pass_count at)) at.known in record {
      stamp = stamp;
      turn = λ d. subst (λ x. AskedBy x (slice_index_or (with_item c.kit.frames i p').items i d) stamp) (is_p ∙ get_or_default ps i p d has_pass)
          (subst (λ y. AskedBy p y stamp) (sym (get_or-set_same ps i p' d has_pass)) asked);
      rounded = rounded;
    }

-- the controller's pass of a looper's choreographer
abbrev pass_of : Controller → ℕ → Pass → Pass
pass_of c k p = slice_index_or c.kit.frames.items k p

-- it has looked for the pulse of each of the first loopers that has not ended, and at no later one's choreographer
pub record HaveLooked (n : ℕ) (ls : List StageLooper) (before after : Controller) (next : Option ℕ) : Type 0 where
  pub looked : (k : ℕ) (l : StageLooper) → k < n → is_ended (slice_index_or ls k l).last ≡ false → NotLaterThanPulse k before after next
  pub rest : (k : ℕ) (p : Pass) → n ≤ k → slice_index_or after.kit.frames.items k p ≡ slice_index_or before.kit.frames.items k p

-- a look between other looks, at a looper whose pass they leave as it is, with an answer that is not later
look_among : (k : ℕ) (before from to after : Controller) (next next' : Option ℕ) → ((p : Pass) → pass_of from k p ≡ pass_of before k p) → ((p : Pass) → pass_of after k p ≡ pass_of to k p)
    → ((t : ℕ) → NotLater t next' → NotLater t next) → NotLaterThanPulse k from to next → NotLaterThanPulse k before after next'
look_among k before from to after next next' first last early one = record {
  pulse = one.pulse;
  look = record {
    stamp = one.look.stamp;
    turn = λ p. subst (λ x. AskedBy x (pass_of after k p) one.look.stamp) (first p) (subst (λ y. AskedBy (pass_of from k p) y one.look.stamp) (sym (last p)) (one.look.turn p));
    rounded = one.look.rounded;
  };
  early = λ t e. one.early t (early t e);
}

-- where it has looked for those of the first loopers, and then for that of the next, it has looked for those of one looper more
pub one_look_more : (n : ℕ) (ls ls' : List StageLooper) (before mid after : Controller) (next due next' : Option ℕ) → ls' ≡ ls → HaveLooked n ls before mid next
    → ((l : StageLooper) → is_ended (slice_index_or ls' n l).last ≡ false → NotLaterThanPulse n mid after due)
    → ((k : ℕ) (p : Pass) → k ≢ n → pass_of after k p ≡ pass_of mid k p)
    → ((t : ℕ) → NotLater t next' → NotLater t next × NotLater t due) → HaveLooked (n + 1) ls before after next'
one_look_more n ls ls' before mid after next due next' same have one others early = record {
  looked = λ k l lt going. dite (dec_lt k n)
      (λ below. look_among k before before mid after next next' (λ p. refl) (λ p. others k p (λ is. omega (arith, below, is))) (λ t e. (early t e).0) (have.looked k l below going))
      (λ past.
      let at : n ≡ k = omega (arith, past, lt) in
      subst (λ (m : ℕ). NotLaterThanPulse m before after next') at
      (look_among n before mid after after due next' (λ p. have.rest n p (omega arith)) (λ p. refl) (λ t e. (early t e).1)
      (one l (subst (λ (xs : List StageLooper). is_ended (slice_index_or xs n l).last ≡ false) (sym same) (subst (λ (m : ℕ). is_ended (slice_index_or ls m l).last ≡ false) (sym at) going)))));
  rest = λ k p le. others k p (λ is. omega (arith, le, is)) ∙ have.rest k p (omega (arith, le));
}

-- ==== all queues' times stay moved together, where the controller moves them on and where it moves none

-- ---- when a queue is over

-- a queue that was halted stays so
halt_stays : (b : Base) (es more : List Entry) → has_halted b es ≡ true → has_halted b (es ++ more) ≡ true
unfolding has_halted
halt_stays b es more h =
    ap (λ t. b.halted || t) (list_any-append (λ (e : Entry). is_halted e.reply) es more)
    ∙ sym (or_assoc b.halted (list_any (λ (e : Entry). is_halted e.reply) es) (list_any (λ (e : Entry). is_halted e.reply) more))
    ∙ or_left _ _ h

-- a queue that is over stays so
pub over_stays : (b : Base) (es whole : List Entry) → IsPrefix es whole → is_over b es ≡ true → is_over b whole ≡ true
over_stays b es whole front over = subst (λ w. is_over b w ≡ true) front.1 (elim (cases_Bool (has_disposed b es)) [
  | inl gone ↦ or_left _ _ (disposed_stays b es front.0 gone)
  | inr kept ↦ or_right (has_disposed b (es ++ front.0)) _ (halt_stays b es front.0 (sym (ap (λ t. t || has_halted b es) kept) ∙ over))
])

-- so one that is not over was not
pub was_going : (b : Base) (es whole : List Entry) → IsPrefix es whole → is_over b whole ≡ false → is_over b es ≡ false
was_going b es whole front going = false_from_ne_true (is_over b es) (λ over. absurd (true≢false (sym (over_stays b es whole front over) ∙ going)))

-- ---- where the controller moves nothing

-- the moves on one queue
pub moves_at : (s : Script) (c : Controller) (q : ℕ) (d : Sender) (e : List Move) → q < length c.kit.posters.items → slice_index_or (moves_by s c) q e ≡ moves (controller s) (whole_on c q d)
moves_at s c q d e lt = get_or-map (λ (p : Sender). moves (controller s) p.view.seen) c.kit.posters.items q d e lt

pub moves_count : (s : Script) (c : Controller) → length (moves_by s c) ≡ length c.kit.posters.items
moves_count s c = length-map c.kit.posters.items (λ (p : Sender). moves (controller s) p.view.seen)

-- histories with the same moves at each place
pub same_moves : (s : Script) (c c' : Controller) → length c'.kit.posters.items ≡ length c.kit.posters.items
    → ((q : ℕ) (d : Sender) → q < length c.kit.posters.items → moves (controller s) (whole_on c' q d) ≡ moves (controller s) (whole_on c q d)) → moves_by s c' ≡ moves_by s c
same_moves s c c' long same =
    same_lists (moves_by s c') (moves_by s c) (moves_count s c' ∙ long ∙ sym (moves_count s c)) (λ q e lt'.
    let within' : q < length c'.kit.posters.items = subst (λ (n : ℕ). q < n) (moves_count s c') lt' in
    let within : q < length c.kit.posters.items = subst (λ (n : ℕ). q < n) long within' in
    let d = some_of c.kit.posters.items q within in
    moves_at s c' q d e within' ∙ same q d within ∙ sym (moves_at s c q d e within))

-- all stay moved together where no queue was moved
pub moved_kept : (s : Script) (c c' : Controller) → length c'.kit.posters.items ≡ length c.kit.posters.items
    → ((q : ℕ) (d : Sender) → q < length c.kit.posters.items → IsPrefix (whole_on c q d) (whole_on c' q d))
    → ((q : ℕ) (d : Sender) → q < length c.kit.posters.items → moves (controller s) (whole_on c' q d) ≡ moves (controller s) (whole_on c q d)) → IsMovedTogether s c → IsMovedTogether s c'
moved_kept s c c' long grown same h =
    let lists = same_moves s c c' long same in
    record {
      together = subst (AreMovedTogether s) (sym lists) h.together;
      going = λ q d lt' going.
          let lt : q < length c.kit.posters.items = subst (λ (n : ℕ). q < n) long lt' in
          ap move_times (same q d lt)
          ∙ h.going q d lt (was_going (empty_base (sender_count s)) (whole_on c q d) (whole_on c' q d) (grown q d lt) going)
          ∙ ap (λ (l : List (List Move)). move_times (main_moves l)) (sym lists);
    }

-- entries of others make no move
others_move_none : (k : ℕ) (es : List Entry) → AllByRecursion (λ e. (e.sender == k) ≡ false) es → AllByRecursion (MakesNoMove k) es
others_move_none k es others = AllByRecursion-weaker (λ e. (e.sender == k) ≡ false) (MakesNoMove k) (λ e other. ap (λ t. t && is_advance e.call) other) es others

-- nor does another call of the controller
not_moved : (t a : Bool) → a ≡ false → (t && a) ≡ false
not_moved true a h = h
not_moved false a h = refl

-- all stay moved together where all heard each other
pub moved_heard : (s : Script) (st st' : Stage) → IsStage s st → IsStage s st' → HaveHeard st.controller.kit.posters.items st'.controller.kit.posters.items → AreMoved s st.controller → AreMoved s st'.controller
moved_heard s st st' is is' heard moved sound =
    let grown : (q : ℕ) (d : Sender) → q < length st.controller.kit.posters.items → IsPrefix (whole_on st.controller q d) (whole_on st'.controller q d) = λ q d lt. (heard.each q d lt).more in
    moved_kept s st.controller st'.controller heard.long grown
    (λ q d lt.
    let es = whole_on st.controller q d in
    let whole = whole_on st'.controller q d in
    let front : IsPrefix es whole = grown q d lt in
    let none = none_behind (controller s) es whole front (heard_entries s st st' is is' heard q d lt) in
    ap (moves (controller s)) (sym front.1) ∙ moves_stay (controller s) es front.0 (others_move_none (controller s) front.0 (of_others (controller s) front.0 none)))
    (moved (sound_grown s st.controller st'.controller heard.long grown sound))

-- a turn that moved no time
turn_moves_not : (P : Entry → Type 0) → ((e : Entry) → P e → MovesNot e) → (k : ℕ) (es whole : List Entry) → (whole ≡ es) ⊎ ((e : Entry) × (whole ≡ es ++ e ∷ []) × P e × (e.sender ≡ k)) → moves k whole ≡ moves k es
turn_moves_not P moves_none k es whole (inl stays) = ap (moves k) stays
turn_moves_not P moves_none k es whole (inr t) = ap (moves k) t.1 ∙ moves_stay k es (t.0 ∷ []) (not_moved (t.0.sender == k) (is_advance t.0.call) (moves_none t.0 t.2), tt)

-- ---- where the controller moves the time on

-- no Advance goes to a time that has come
late_moves_none : (set : Setting) (b : Base) (es : List Entry) (now : ℕ) → nat_le now (clock b es) ≡ true → answer set b es (Advance now) ≡ None
unfolding answer
late_moves_none set b es now late =
    ap (λ (t : Bool). if t || not set.lockstep || is_some (pick b es (clock b es)) then None else Some Advanced) (or_right (is_over b es) (nat_le now (clock b es)) late)

-- what an Advance that a queue took tells: it was not over, and its time was earlier
pub record CanMove (senders now : ℕ) (es : List Entry) : Type 0 where
  pub going : is_over (empty_base senders) es ≡ false
  pub early : clock (empty_base senders) es < now

pub can_move : (s : Script) (q now : ℕ) (es : List Entry) (e : Entry) → IsSoundOn s q (es ++ e ∷ []) → MovesTo now e → CanMove (sender_count s) now es
can_move s q now es e sound is =
    let set = setting_for s q in
    let b = empty_base (sender_count s) in
    let reply : answer set b es (Advance now) ≡ Some e.reply = subst (λ (c : Call). answer set b es c ≡ Some e.reply) is (IsLegal-last set b es e sound.legal).reply in
    record {
      going = false_from_ne_true (is_over b es) (λ over. absurd (let wrong : None ≡ Some e.reply = sym (over_moves_none set b es now over) ∙ reply in cc));
      early = leb-false now (clock b es) (false_from_ne_true (nat_le now (clock b es)) (λ late. absurd (let wrong : None ≡ Some e.reply = sym (late_moves_none set b es now late) ∙ reply in cc)));
    }

-- a queue in time that is not over shows the time
at_time : (s : Script) (time : ℕ) (l : StageLooper) (es : List Entry) → IsInTime s time l es → is_over (empty_base (sender_count s)) es ≡ false → clock (empty_base (sender_count s)) es ≡ time
at_time s time l es (inl at) going = at
at_time s time l es (inr (ended, (gone, by))) going = absurd (true≢false (sym (or_left (has_disposed (empty_base (sender_count s)) es) (has_halted (empty_base (sender_count s)) es) gone) ∙ going))

-- by turns that moved no time all stay moved together
pub moved_turned : {P : Entry → Type 0} {s : Script} {st : Stage} {c : Controller} {st' : Stage} → Turned true P s st c st' → ((e : Entry) → P e → MovesNot e) → AreMoved s st.controller → AreMoved s st'.controller
moved_turned {P} {s} {st} {c} {st'} o moves_none moved sound =
    moved_kept s st.controller st'.controller (longer o) (grown_by_turns o)
    (λ q d lt. turn_moves_not P moves_none (controller s) (whole_on st.controller q d) (whole_on st'.controller q d)
    (turned_on o q d lt (sound q d (subst (λ (n : ℕ). q < n) (sym (longer o)) lt)).numbered))
    (moved (sound_by_turns o sound))

-- turns that moved the time on
module _ {s : Script} {time : ℕ} {st : Stage} {c : Controller} {st' : Stage} {drained : Bool} (a : MovedOn s time st c st' drained) (sound : AreSound s st'.controller) where
  abbrev ps : List Sender
  ps = st.controller.kit.posters.items

  come : HaveReachedTime s time c
  come = a.come (advanced_sound a sound).0

  was_sound : AreSound s st.controller
  was_sound = sound_by_turns a.over sound

  module _ (q : ℕ) (d : Sender) (lt : q < length ps) where
    abbrev es : List Entry
    es = whole_on st.controller q d

    abbrev whole : List Entry
    whole = whole_on st'.controller q d

    here : IsSoundOn s q whole
    here = sound q d (subst (λ (n : ℕ). q < n) (sym (longer a.over)) lt)

    turned : (whole ≡ es) ⊎ ((e : Entry) × (whole ≡ es ++ e ∷ []) × MovesTo time e × (e.sender ≡ controller s))
    turned = turned_on a.over q d lt here.numbered

    left_is : whole ≡ whole_on c q d
    left_is = turned_left a.over q d lt here.numbered

    -- what the controller called there
    its_calls : entries_by (controller s) whole ≡ calls_on c q d
    its_calls =
        let h = a.over.heard.each q d (subst (λ (n : ℕ). q < n) (sym a.over.turns.long) lt) in
        controller_entries s st' a.over.is' q d (subst (λ (n : ℕ). q < n) (sym (longer a.over)) lt) ∙ h.called

    clock_is : clock (empty_base (sender_count s)) whole ≡ time_in (calls_on c q d)
    clock_is = time_by_controller (setting_for s q) (controller s) refl refl whole here.legal here.numbered ∙ ap time_in its_calls

    -- a queue that was not over was at the stage's time
    at_stage : is_over (empty_base (sender_count s)) es ≡ false → clock (empty_base (sender_count s)) es ≡ st.time
    at_stage going =
        let known : q < length st.loopers.items = subst (λ (n : ℕ). q < n) (queues_count s st a.over.is) lt in
        let l : StageLooper = some_of st.loopers.items q known in
        at_time s st.time (slice_index_or st.loopers.items q l) es (a.step.in_time was_sound q l d known) going

    -- a queue that was over was not moved
    over_stays_put : is_over (empty_base (sender_count s)) es ≡ true → whole ≡ es
    over_stays_put over = elim turned [
      | inl stays ↦ stays
      | inr t ↦ absurd (true≢false (sym over ∙ (can_move s q time es t.0 (subst (IsSoundOn s q) t.1 here) t.2).going))
    ]

    -- where the time is not later than the stage's, no queue was moved
    none_moved : time ≤ st.time → whole ≡ es
    none_moved past = elim turned [
      | inl stays ↦ stays
      | inr t ↦ (let can = can_move s q time es t.0 (subst (IsSoundOn s q) t.1 here) t.2 in
          let early = can.early in
          let at = at_stage can.going in
          absurd (omega (arith, early, at, past)))
    ]

    -- where it is later, each queue that was not over was
    moved_one : st.time < time → is_over (empty_base (sender_count s)) es ≡ false → (e : Entry) × (whole ≡ es ++ e ∷ []) × MovesTo time e × (e.sender ≡ controller s)
    moved_one later going = elim turned [
      | inr t ↦ t
      | inl stays ↦ absurd (elim (come q d (subst (λ (n : ℕ). q < n) (sym a.over.turns.long) lt)) [
        | inl le ↦ (let at = at_stage going in
            let clock' = clock_is in
            let was = ap (clock (empty_base (sender_count s))) stays in
            omega (arith, le, at, clock', was, later))
        | inr over ↦ true≢false (sym over ∙ ap (is_over (empty_base (sender_count s))) (sym left_is ∙ stays) ∙ going)
      ])
    ]

    -- so it has one move more
    one_more : st.time < time → is_over (empty_base (sender_count s)) es ≡ false
        → moves (controller s) whole ≡ moves (controller s) es ++ move_to time es ∷ []
    one_more later going = (let t = moved_one later going in ap (moves (controller s)) t.1 ∙ one_move (controller s) time es t.0 t.3 t.2)

  -- main is not over
  main_going : (d : Sender) → 0 < length ps → is_over (empty_base (sender_count s)) (whole_on st.controller 0 d) ≡ false
  main_going d lt =
      let at = here 0 d lt in
      was_going (empty_base (sender_count s)) (whole_on st.controller 0 d) (whole_on st'.controller 0 d) (grown_by_turns a.over 0 d lt)
      (main_is_not_over (setting_for s 0) (controller s) refl refl st'.time (whole_on st'.controller 0 d) at.legal at.numbered
      (ap (are_advances st'.time) (its_calls 0 d lt) ∙ a.by 0 d (subst (λ (n : ℕ). 0 < n) (sym a.over.turns.long) lt)))

  module _ (later : st.time < time) (some : 0 < length ps) (h : IsMovedTogether s st.controller) where
    abbrev all : List (List Move)
    all = moves_by s st.controller

    abbrev all' : List (List Move)
    all' = moves_by s st'.controller

    as_many : length all' ≡ length all
    as_many = moves_count s st'.controller ∙ longer a.over ∙ sym (moves_count s st.controller)

    -- the moves of one queue, before and after
    before_at : (q : ℕ) (d : Sender) (e : List Move) → q < length ps → slice_index_or all q e ≡ moves (controller s) (whole_on st.controller q d)
    before_at q d e lt = moves_at s st.controller q d e lt

    after_at : (q : ℕ) (d : Sender) (e : List Move) → q < length ps → slice_index_or all' q e ≡ moves (controller s) (whole_on st'.controller q d)
    after_at q d e lt = moves_at s st'.controller q d e (subst (λ (n : ℕ). q < n) (sym (longer a.over)) lt)

    -- one queue that was not over
    goes_at : (q : ℕ) (d : Sender) (e : List Move) (lt : q < length ps) → is_over (empty_base (sender_count s)) (whole_on st.controller q d) ≡ false
        → slice_index_or all' q e ≡ slice_index_or all q e ++ move_to time (whole_on st.controller q d) ∷ []
    goes_at q d e lt going =
        after_at q d e lt ∙ one_more q d lt later going
        ∙ ap (λ (l : List Move). l ++ move_to time (whole_on st.controller q d) ∷ []) (sym (before_at q d e lt))

    together_at : (q : ℕ) (d : Sender) (e : List Move) (lt : q < length ps) → is_over (empty_base (sender_count s)) (whole_on st.controller q d) ≡ false → move_times (slice_index_or all q e) ≡ move_times (main_moves all)
    together_at q d e lt going = ap move_times (before_at q d e lt) ∙ h.going q d lt going

    -- each queue was moved with main, or not at all
    each_goes : (q : ℕ) (e : List Move) → q < length all → MayGoOn time (main_moves all) (slice_index_or all q e) (slice_index_or all' q e)
    each_goes q e lt' =
        let lt : q < length ps = subst (λ (n : ℕ). q < n) (moves_count s st.controller) lt' in
        let d = some_of ps q lt in
        elim (cases_Bool (is_over (empty_base (sender_count s)) (whole_on st.controller q d))) [
          | inl over ↦ Stays (after_at q d e lt ∙ ap (moves (controller s)) (over_stays_put q d lt over) ∙ sym (before_at q d e lt))
          | inr going ↦ Goes (move_to time (whole_on st.controller q d)) (goes_at q d e lt going) refl (together_at q d e lt going)
        ]

    main_times : move_times (main_moves all') ≡ move_times (main_moves all) ++ time ∷ []
    main_times =
        let d = some_of ps 0 some in
        let lt : 0 < length all = subst (λ (n : ℕ). 0 < n) (sym (moves_count s st.controller)) some in
        let first = main_at all [] lt in
        let first' = main_at all' [] (subst (λ (n : ℕ). 0 < n) (sym as_many) lt) in
        let more = goes_at 0 d [] some (main_going d some) in
        ap move_times (sym first') ∙ one_time (slice_index_or all 0 []) (slice_index_or all' 0 []) (move_to time (whole_on st.controller 0 d)) time more refl
        ∙ ap (λ (l : List Move). move_times l ++ time ∷ []) first

    -- the time is one to which main may be moved
    may_move : MayBeMovedTo s time st.controller → MayMoveTo s all' (length (main_moves all)) time
    may_move (IsPlanned planned) = inl (or_left _ _ planned)
    may_move (IsPulse pulse) = inr pulse
    may_move (IsDue q lt due) =
        let d = some_of ps q lt in
        let w = due d in
        inl (or_right (is_planned_time s time) _
        (due_before time all all' q [] (move_to time (whole_on st.controller q d)) as_many
        (subst (λ (n : ℕ). q < n) (sym (moves_count s st.controller)) lt) (goes_at q d [] lt w.going) (together_at q d [] lt w.going)
        (ap (option_map when_of) (sym (eligible_same (sender_count s) (whole_on st.controller q d))) ∙ w.first)))

    -- all were moved together
    all_moved : MayBeMovedTo s time st.controller → IsMovedTogether s st'.controller
    all_moved may = record {
      together = moved_together s time all all' (subst (λ (n : ℕ). 0 < n) (sym (moves_count s st.controller)) some) as_many each_goes main_times (may_move may) h.together;
      going = λ q d lt' going'.
          let lt : q < length ps = subst (λ (n : ℕ). q < n) (longer a.over) lt' in
          let going = was_going (empty_base (sender_count s)) (whole_on st.controller q d) (whole_on st'.controller q d) (grown_by_turns a.over q d lt) going' in
          one_time (moves (controller s) (whole_on st.controller q d)) (moves (controller s) (whole_on st'.controller q d)) (move_to time (whole_on st.controller q d)) time
          (one_more q d lt later going) refl
          ∙ ap (λ (ts : List ℕ). ts ++ time ∷ []) (h.going q d lt going) ∙ sym main_times;
    }

  -- so all stay moved together
  moved_on : 0 < length ps → MayBeMovedTo s time st.controller → IsMovedTogether s st.controller → IsMovedTogether s st'.controller
  moved_on some may h = dite (dec_lt st.time time)
      (λ later. all_moved later some h may)
      (λ past. moved_kept s st.controller st'.controller (longer a.over) (grown_by_turns a.over) (λ q d lt. ap (moves (controller s)) (none_moved q d lt (omega (arith, past)))) h)

-- moved on to a time to which they may come, all stay moved together
pub advanced_moves : {s : Script} {time : ℕ} {st : Stage} {c : Controller} {st' : Stage} {drained : Bool} → MovedOn s time st c st' drained → 0 < s.loopers → MayBeMovedTo s time st.controller
    → AreMoved s st.controller → AreMoved s st'.controller
advanced_moves {s} {time} {st} {c} {st'} {drained} a loopers_some may moved sound =
    let count = queues_count s st a.over.is in
    let many = a.over.is.loopers.0 in
    moved_on a sound (omega (arith, count, many, loopers_some)) may (moved (sound_by_turns a.over sound))

-- ==== all queues were moved together in what the records keep, and none was moved before the start

-- ---- the start

-- a history without an entry has no move
none_at_start : (k : ℕ) (es : List Entry) → es ≡ [] → moves k es ≡ []
unfolding moves
none_at_start k es start = ap (moves k) start

-- no times are all as they should be
no_times : (P : ℕ × ℕ → Type 0) (ms : List Move) → ms ≡ [] → AllByRecursion P (enumerate_from 0 (move_times ms))
no_times P ms is = subst (λ (l : List Move). AllByRecursion P (enumerate_from 0 (move_times l))) (sym is) tt

-- queues of which none was moved were moved together
none_together : (s : Script) (all : List (List Move)) → ((q : ℕ) (d : List Move) → q < length all → slice_index_or all q d ≡ []) → AreMovedTogether s all
none_together s [] none = record { due = tt; together = tt }
none_together s (ms ∷ all) none = record {
  due = no_times (λ (p : ℕ × ℕ). MayMoveTo s (ms ∷ all) p.0 p.1) ms (none 0 ms (omega arith));
  together = All_recursive (λ (l : List Move). IsPrefix (move_times l) (move_times ms)) (ms ∷ all) (λ q d lt. subst (λ (l : List Move). IsPrefix (move_times l) (move_times ms)) (sym (none q d lt)) (move_times ms, refl));
}

-- at the start all were moved together
pub moved_at_start : (s : Script) (c : Controller) → AreUnseen c.kit.posters.items → AreMoved s c
moved_at_start s c unseen sound =
    let none : (q : ℕ) (d : Sender) → q < length c.kit.posters.items → moves (controller s) (whole_on c q d) ≡ [] = λ q d lt. none_at_start (controller s) (whole_on c q d) (unseen q d lt) in
    let each : (q : ℕ) (e : List Move) → q < length (moves_by s c) → slice_index_or (moves_by s c) q e ≡ [] = λ q e lt'.
    let lt : q < length c.kit.posters.items = subst (λ (n : ℕ). q < n) (moves_count s c) lt' in
    let d = some_of c.kit.posters.items q lt in
    moves_at s c q d e lt ∙ none q d lt in
    record {
      together = none_together s (moves_by s c) each;
      going = λ q d lt going.
          let some : 0 < length (moves_by s c) = (let many = moves_count s c in omega (arith, lt, many)) in
          ap move_times (none q d lt) ∙ sym (ap move_times (sym (main_at (moves_by s c) [] some) ∙ each 0 [] some));
    }

-- ---- the end

-- two numbers above the same numbers are one
same_bounds : (m n : ℕ) → ((q : ℕ) → q < m → q < n) → ((q : ℕ) → q < n → q < m) → m ≡ n
same_bounds m n up down = dite (dec_lt m n)
    (λ less. absurd (let wrong = down m less in omega (arith, wrong)))
    (λ no_less. dite (dec_lt n m)
    (λ more. absurd (let wrong = up n more in omega (arith, wrong)))
    (λ no_more. omega (arith, no_less, no_more)))

module _ (s : Script) (hall : Hall) (kits : List Kit) (records : List QueueRecord) (h : IsHall s hall) (are : AreKitsOf s hall kits) (c : Controller) (held : (d : Kit) → slice_index_or kits (controller s) d ≡ c.kit)
    (recs : AreQueueRecords in_lockstep s records) (all : HaveAll kits records) (seen : OfKits (HaveSeenAll (seen_by c.kit.posters.items)) kits) where
  -- the moves in the records are those that all senders have seen
  record_moves : map (λ (r : QueueRecord). moves (controller s) (history_of r)) records ≡ moves_by s c
  record_moves =
      let in_records : (q : ℕ) → q < length records → q < length c.kit.posters.items = within in_lockstep s hall kits records h are c held recs all seen in
      let many : length records ≡ length c.kit.posters.items = same_bounds (length records) (length c.kit.posters.items) in_records (known in_lockstep s hall kits records h are c held recs all seen) in
      same_lists (map (λ (r : QueueRecord). moves (controller s) (history_of r)) records) (moves_by s c)
      (length-map records (λ (r : QueueRecord). moves (controller s) (history_of r)) ∙ many ∙ sym (moves_count s c))
      (λ q e lt'.
      let lt : q < length records = subst (λ (n : ℕ). q < n) (length-map records (λ (r : QueueRecord). moves (controller s) (history_of r))) lt' in
      let r = some_of records q lt in
      let d = some_of c.kit.posters.items q (in_records q lt) in
      get_or-map (λ (r : QueueRecord). moves (controller s) (history_of r)) records q r e lt
      ∙ ap (moves (controller s)) (is_seen in_lockstep s hall kits records h are c held recs all seen q d r lt)
      ∙ sym (moves_at s c q d e (in_records q lt)))

  -- so all queues were moved together
  pub moves_of_records : AreMoved s c → AreMovedTogether s (map (λ (r : QueueRecord). moves (controller s) (history_of r)) records)
  moves_of_records moved = subst (AreMovedTogether s) (sym record_moves) (moved (all_sound s hall kits records h are c held recs all seen)).together

-- ==== a stage stands still at the blocks that were run, over each of its steps

-- ---- what stands still

pub still_self : (s : Script) (st : Stage) → IsStage s st → StandsStill s st st
still_self s st is = record { stage = is; none = record { long = refl; calls = λ q d. refl }; now = refl }

pub still_then : (s : Script) (a b c : Stage) → StandsStill s a b → StandsStill s b c → StandsStill s a c
still_then s a b c first next = record { stage = next.stage; none = none_after a.controller b.controller c.controller first.none next.none; now = next.now ∙ first.now }

-- all shared after a step in which the controller called nothing
pub still_shared : (s : Script) (st mid st' : Stage) → HaveShared s mid st' → CallsNone st.controller mid.controller → mid.time ≡ st.time → StandsStill s st st'
still_shared s st mid st' shared none now = record {
  stage = shared.stage;
  none = none_after st.controller mid.controller st'.controller none (calls_none mid.controller st'.controller shared.kept.controller);
  now = shared.kept.time ∙ now;
}

-- where the controller only looked
pub looked_self : (s : Script) (st : Stage) → IsStage s st → OnlyLooked s st st
looked_self s st is = record { still = still_self s st is; threads = refl; loopers = refl; posters = refl }

pub looked_then : (s : Script) (a b c : Stage) → OnlyLooked s a b → OnlyLooked s b c → OnlyLooked s a c
looked_then s a b c first next = record {
  still = still_then s a b c first.still next.still;
  threads = next.threads ∙ first.threads;
  loopers = next.loopers ∙ first.loopers;
  posters = next.posters ∙ first.posters;
}

-- so the stage is under way still
pub way_still : (s : Script) (st st' : Stage) → StandsStill s st st' → IsUnderWay s st → IsUnderWay s st'
way_still s st st' still way = record {
  some = way.some;
  stage = still.stage;
  moving = moving_kept s st.controller st'.controller still.none way.moving;
  by = subst (λ (t : ℕ). AreBy t st'.controller) (sym still.now) (by_kept st.controller st'.controller still.none st.time way.by);
}

-- nor does it leave the blocks where nothing was done
pub stays_self : (s : Script) (st : Stage) → StaysAt s st st
stays_self s st past at = record { at = at; sound = λ sound. sound }

pub stays_then : (s : Script) (a b c : Stage) → StaysAt s a b → StaysAt s b c → StaysAt s a c
stays_then s a b c first next past at =
    let one = first past at in
    let two = next past one.at in
    record { at = two.at; sound = λ sound. one.sound (two.sound sound) }

-- before a time that lies ahead still, after an earlier one
pub before_on : (s : Script) (past : List Block) (time next : ℕ) (st st' : Stage) → (AreSound s st'.controller → LiesAhead time st × (next < time)) → st'.time ≡ max st.time next → StageAt s past st' → TimeLiesAhead s past time st'
before_on s past time next st st' ahead now at = record {
  ahead = λ sound. let was = ahead sound in ahead_on time next st st' was.1 now was.0;
  turn = rounds_before s past time st' (λ sound. let was = ahead sound in let earlier = was.1 in let lt = ahead_less time next st earlier was.0 in omega (arith, lt, earlier, now)) at.asks;
}

-- ---- the controller's turns

-- by turns that moved no time, each in time, the stage stands still
pub turned_at : {P : Entry → Type 0} {s : Script} {st : Stage} {c : Controller} {st' : Stage} → Turned true P s st c st' → ((e : Entry) → P e → MovesNot e) → HaveHeardTheSame s st' → st'.time ≡ st.time
    → ((q : ℕ) (d : Sender) → q < length st.controller.kit.posters.items → (slice_index_or c.kit.posters.items q d ≡ slice_index_or st.controller.kit.posters.items q d) ⊎ IsInTimeBy P s q (whole_on st.controller q d))
    → StaysAt s st st'
turned_at {P} {s} {st} {c} {st'} o moves_none heard now in_time past at = record {
  at = record {
    run = run_kept in_lockstep s past st.threads.items st'.threads.items o.threads at.run;
    timely = turned_timely o past in_time at.timely;
    step = turned_in_step o moves_none now at.step;
    moves = moved_turned o moves_none at.moves;
    asks = nothing_stays s past st st' (omega (arith, now)) (let within = at.asks.within in omega (arith, now, within))
        (asks_nothing s st st' o.is o.is' heard (sound_by_turns o) o.loopers o.threads past (in_round st.time) at.asks.turn.asked);
  };
  sound = sound_by_turns o;
}

-- where nothing is due before a time to which the stage may go on, the stage is ready for it
abbrev pub ready_by : (s : Script) (past : List Block) (next last : ℕ) (due : Option ℕ) (st st' : Stage) → IsStage s st → OnlyLooked s st st' → is_planned_time s last ≡ true → (next ≡ last) ⊎ (due ≡ Some next) → NotLater next due
    → ((t : ℕ) → AreRested s st → NotLater t due → AreDue s t st) → ((t : ℕ) → AreRested s st → due ≡ Some t → MayBeMovedTo s t st.controller) → RestsAt s past st → IsReadyFor s past next st'
ready_by s past next last due st st' is looked planned one early none reason rests = record {
  stood = st;
  stage = is;
  rests = rests;
  looked = looked;
  due = none next rests.rested early;
  may = may_come_at s next last due st.controller planned one (reason next rests.rested);
}

-- then it was moved on from where it stood
pub advanced_by : (s : Script) (past : List Block) (time : ℕ) (st mid st' : Stage) (drained : Bool) → HaveShared s mid st' → (ready : IsReadyFor s past time st) → mid.threads.items ≡ st.threads.items → mid.loopers.items ≡ st.loopers.items
    → EachTurnsOn (MovesTo time) st.controller mid.controller → st'.time ≡ max st.time time → AreBy st'.time mid.controller
    → (drained ≡ true → HaveReachedTime s time mid.controller) → (drained ≡ false → AreStuck s time s.loopers mid.controller) → MovedOn s time ready.stood mid.controller st' drained
advanced_by s past time st mid st' drained shared ready threads loopers turns now by come stuck =
    let looked = ready.looked in
    let at = ready.rests.at in
    record {
      over = turned_by (MovesTo time) s ready.stood mid st' shared ready.stage at.timely.same (threads ∙ looked.threads) (loopers ∙ ap (λ (v : Vec StageLooper). v.items) looked.loopers)
          (turns_from (MovesTo time) ready.stood.controller st.controller mid.controller looked.posters turns);
      now = now ∙ ap (λ (t : ℕ). max t time) looked.still.now;
      by = by;
      step = at.step;
      rested = ready.rests.rested;
      due = ready.due;
      come = come;
      stuck = stuck;
    }

-- moved on from rest to a time before which nothing was due
module _ {s : Script} {time : ℕ} {st : Stage} {c : Controller} {st' : Stage} {drained : Bool} (a : MovedOn s time st c st' drained) (heard : HaveHeardTheSame s st') (past : List Block) where
  -- the stage stands still
  pub advanced_at : 0 < s.loopers → time ≤ s.end → MayBeMovedTo s time st.controller → StageAt s past st → StillAt s past st st'
  advanced_at some end may at = record {
    at = record {
      run = run_kept in_lockstep s past st.threads.items st'.threads.items a.over.threads at.run;
      timely = turned_timely a.over past (λ q d lt. inr (move_in_time s q time (whole_on st.controller q d) (a.due q d (subst (λ (m : ℕ). q < m) (queues_count s st a.over.is) lt)))) at.timely;
      step = advanced_in_step a;
      moves = advanced_moves a some may at.moves;
      asks = (let now = a.now in let within = at.asks.within in nothing_stays s past st st' (omega (arith, now)) (omega (arith, now, within, end))
          (asks_nothing s st st' a.over.is a.over.is' heard (sound_by_turns a.over) a.over.loopers a.over.threads past (in_round st.time) at.asks.turn.asked));
    };
    sound = sound_by_turns a.over;
  }

  -- and begins a block where the time lay ahead
  pub advanced_begins : TimeLiesAhead s past time st → BeginsBlock s past time st'
  advanced_begins before = record {
    queues = λ sound. advanced_at_block a (before.ahead (sound_by_turns a.over sound)) sound;
    turn = asks_nothing s st st' a.over.is a.over.is' heard (sound_by_turns a.over) a.over.loopers a.over.threads past (in_block time) before.turn.asked;
  }

-- ---- a block

abbrev pub with_threads : Stage → Vec PostingThread → Stage
with_threads st v = record { hall = st.hall; threads = v; loopers = st.loopers; controller = st.controller; pass = st.pass; time = st.time }

-- where the threads ran a block that was the next, and all shared then, the stage has run it
pub block_next : (s : Script) → HasText s → (st st' : Stage) (ran : List PostingThread) (v : Vec PostingThread) (b : Block) → IsStage s st → v.items ≡ ran → length ran ≡ length st.threads.items → EachRunsBlock s b st.threads.items ran
    → HaveShared s (with_threads st v) st' → StageRunsBlock s b st st'
block_next s text st st' ran v b is wrote many on shared past rest was =
    let kept = shared.kept in
    let posters = kept.controller.posters in
    let more = run_one_more s past rest b was.next st.threads.items ran (λ k d lt. (is.threads.1 k d lt).1) many on was.at.run in
    let run = run_kept in_lockstep s (past ++ b ∷ []) ran st'.threads.items (subst (λ (l : List PostingThread). AtEach (ThreadKeeps HaveHeard) l st'.threads.items) wrote kept.threads) more in
    let within : b.time ≤ s.end = (let now = was.now in let early = was.at.asks.within in omega (arith, now, early)) in
    record {
      run = run;
      timely = block_timely s st st' b past rest was.next text.times was.moving is shared.stage was.at.run run kept.loopers posters shared.same was.begins.queues was.at.timely;
      step = block_in_step s st st' is shared.stage shared.same kept.time kept.loopers posters was.at.step
          (block_first s st st' is shared.stage shared.same kept.loopers posters was.at.step b.time was.begins.queues);
      moves = moved_heard s st st' is shared.stage posters was.at.moves;
      asks = block_up_to_now s (past ++ b ∷ []) b.time st' (kept.time ∙ was.now) within
          (asks_in_block s st st' is shared.stage shared.heard (sound_heard s st.controller st'.controller posters) kept.loopers past b was.at.run run was.begins.turn);
    }

-- ---- a round

abbrev pub with_loopers : Stage → Vec StageLooper → Stage
with_loopers st v = record { hall = st.hall; threads = st.threads; loopers = v; controller = st.controller; pass = st.pass; time = st.time }

module _ (s : Script) (text : HasText s) (st st' : Stage) (ran : List StageLooper) (v : Vec StageLooper) (is : IsStage s st) (wrote : v.items ≡ ran) (loopers : AreLoopers s st.hall ran) (on : LoopersGoOn ran)
    (shared : HaveShared s (with_loopers st v) st') where
  heard : AtEach (LooperKeeps HaveHeard) ran st'.loopers.items
  heard = subst (λ (l : List StageLooper). AtEach (LooperKeeps HaveHeard) l st'.loopers.items) wrote shared.kept.loopers

  -- the stage stands still over a round
  pub round_at : EachPlaysOn s st.time st.loopers.items ran → StaysAt s st st'
  round_at plays past at =
      let kept = shared.kept in
      let posters = kept.controller.posters in
      let back = sound_heard s st.controller st'.controller posters in
      record {
        at = record {
          run = run_kept in_lockstep s past st.threads.items st'.threads.items kept.threads at.run;
          timely = kept_timely s st st' is shared.stage at.timely.same shared.same past (threads_heard st.threads.items st'.threads.items kept.threads) posters at.timely;
          step = round_in_step s text st ran st' is shared.stage shared.same kept.time loopers on plays kept.threads heard posters at.step;
          moves = moved_heard s st st' is shared.stage posters at.moves;
          asks = asks_in_rounds s text st st' is shared.stage kept.time shared.heard back kept.threads kept.controller.frames
              (round_asks s text st ran st' is shared.stage shared.same kept.time loopers on plays kept.threads heard posters at.step) past at.asks;
        };
        sound = back;
      }

  -- no looper gave up, and those whose turn it isn't are as they were
  pub round_turns : (turn : Turn) → AtTurn turn false IsTheSame st.loopers.items ran → HaveTakenTurns turn st.loopers.items st'.loopers.items
  round_turns turn stay = record {
    on = go_on_kept HaveHeard ran st'.loopers.items heard on;
    others = awaited_heard turn st.loopers.items ran st'.loopers.items (loopers.0 ∙ sym is.loopers.0) stay heard;
  }

  -- they come to rest where none has grown
  pub round_rests : (turn : Turn) → AtTurn turn true (ComesToWait s) st.loopers.items ran → RestsUnlessGrown turn s st st'
  round_rests turn waits = record {
    grown = heard_grown st.controller.kit.posters.items st'.controller.kit.posters.items shared.kept.controller.posters;
    rested = λ all same still.
        come_to_rest s st ran st' is shared.stage same shared.same loopers on (λ k d lt. waits k d lt (all_have_turn turn k all)) heard still;
  }
