-- The controller's turns, in lockstep and by a clock.
use Rattle.std.proofs.Common.{◌≡◌, ◌≢◌, ◌<◌, ◌≤◌, ◌+◌, ◌++◌, ℕ, Bool, true, false, true≢false, cond, max, List, [], ◌∷◌, length, Option, Some, None, refl, sym, ap, ◌∙◌, subst, arith, append-nil, length-set, ◌⊎◌, inl, inr, set, get_or}
use Rattle.std.specs.Prelude.{slice_index_or, ◌==◌, is_some, ◌&&◌, nat_le}
use Rattle.std.specs.Option.{option_and_then}
use Rattle.std.specs.Vec.{with_item, vec_len}
use Rattle.std.proofs.lemmas.List.{get_or-set_same, get_or-set_other, get_or_default, map-set, length-map, get_or-map}
use mathlib.Core.Logic.{dite}
use native.Mathlib.Decide.{ℕ_discrete}
use Rattle.atomic_table.specs.Seated.{TableId}
use Rattle.loop_model.specs.declared.entry.Entry.{Entry}
use Rattle.loop_model.specs.declared.call.Call.{Call}
use Rattle.loop_model.specs.declared.call.Call.TheVariants.{Quit, Advance, Halt}
use Rattle.loop_model.specs.declared.reply.Reply.{Reply}
use Rattle.loop_model.specs.declared.reply.Reply.TheVariants.{QuitDone, AlreadyQuit, NotAllowed, Advanced, Halted}
use Rattle.loop_model.specs.Base.{empty_base}
use Rattle.loop_model.specs.declared.item.Item.{Item}
use Rattle.loop_model.specs.Items.{number_of}
use Rattle.loop_model.specs.Pick.{pick}
use Rattle.loop_model.specs.Legal.{IsLegal, AreNumbered}
use Rattle.loop_model.specs.Answers.{Setting, clock, is_over}
use Rattle.loop_model.specs.declared.base.Base.{Base}
use Rattle.dash_script.specs.declared.script.Script.{Script}
use Rattle.message_pool.specs.Passes.{Claimed, Tally}
use Rattle.queue_state.specs.declared.answers.Quitting.{Quitting}
use Rattle.queue_state.specs.declared.answers.Quitting.TheVariants as quitting
use Rattle.queue_state.specs.Queue.{entry_of, entered, time_of, moment_at}
use Rattle.queue_state.specs.Calls.{Quits}
use Rattle.shared_queue.specs.Constants.{Constants, IsStateOf}
use Rattle.loop_model.specs.declared.segment.Segment.{Segment}
use Rattle.shared_queue.specs.Known.{Shared, IsOf, IsTurnWith, IsTurn, with_parts}
use Rattle.looper_run.specs.Holding.{Sender, State}
use Rattle.run_model.specs.Planned.{controller, sender_count, entries_by}
use Rattle.run_model.specs.Control.{are_controls, ends_halted, is_advance, is_halt, is_safe_quit, is_closing}
use Rattle.dash_hall.specs.declared.hall.Hall.{Hall}
use Rattle.dash_stage.specs.declared.control.Controller.{Controller}
use Rattle.dash_hall.specs.Growth.{own, GoesOn, QuitsOf}
use Rattle.dash_hall.specs.Kits.{queue_constants, badge_of}
use Rattle.dash_stage.specs.Controllers.{CanTurn, are_advances, time_in, calls_on, OnlyMoves, HasReached, IsQuitting, IsClosing, HasClosed, CallsNone, TurnsAlone, IsController, AtPoster, CallsNothingOn, IsQuittingBy, IsClosingBy, HasClosedIn}
use Rattle.dash_stage.specs.Timeliness.{AreBy, whole_on, TurnsOn, EachTurnsOn, MovesNot, IsNoEntry, HandsPartsOut}
use Rattle.dash_stage.specs.Playing.{IsStuck, AreStuck}
use Rattle.dash_hall.proofs.Badges.{queue_is, posters_kept, queue_count}
use Rattle.dash_stage.proofs.Ends.HallEnds.{own_entries, some_of}
use Rattle.dash_hall.proofs.Growing.{turn_makes, own_of_one}
use Rattle.dash_stage.proofs.Controller.Controlling.{own_poster, has_poster, after_call, after_turn, in_step}
use Rattle.dash_stage.proofs.Controller.Controls.{calls_kept, time_by_controller, main_is_not_over, one_advance_more, quits_at_end, halts_at_end, time_in-snoc}
use mathlib.Core.List.{IsPrefix}
use Rattle.loop_model.proofs.Prefixes.{prefix_self, prefix_trans}
use Rattle.dash_stage.proofs.Stages.Timely.{ends_halted-snoc}
use Rattle.std.specs.Global.{Vec}
use Rattle.std.proofs.lemmas.Bool.{and_from, le-leb}
use Rattle.loop_model.specs.Entries.{moment_of, is_halted}
use Rattle.run_model.specs.Moments.{Mode, IsMomentOf}
use Rattle.run_model.specs.ByClock.{in_free_mode}
use Rattle.dash_hall.specs.ByClock.{IsByClock, IsInMode}
use Rattle.dash_hall.proofs.Clocking.{if_free, EntersAt, quits_enter, its_moment, clocked_at, clocked_same}
use Rattle.dash_threads.specs.Threads.{AreByClock}

-- ==== a turn of the controller on one queue, as its own calls there go on, and those on the others stay

-- what was called by the poster at a place
called_by : (c : Controller) (i : ℕ) (p : Sender) → i < length c.kit.posters.items → p ≡ slice_index_or c.kit.posters.items i p → (d : Sender) → calls_on c i d ≡ own p
called_by c i p within is_p d = ap own (get_or_default c.kit.posters.items i d p within ∙ sym is_p)

-- the time to which it moved main, where the place is main's
reached_on : (c : Controller) (i : ℕ) (p : Sender) → i < length c.kit.posters.items → p ≡ slice_index_or c.kit.posters.items i p → (time : ℕ) → 0 ≡ i → HasReached time c → time ≤ time_in (own p)
reached_on c i p within is_p time first reached =
    subst (λ (l : List Entry). time ≤ time_in l) (called_by c i p within is_p p)
    (subst (λ (m : ℕ). time ≤ time_in (calls_on c m p)) first (reached p (subst (λ (m : ℕ). m < length c.kit.posters.items) (sym first) within)))

-- the controller with another poster at one place, and another pass
abbrev pub with_poster : Controller → ℕ → Sender → Tally → Controller
with_poster c i p pass = record { kit = record { posters = with_item c.kit.posters i p; pass = pass; frames = c.kit.frames }; sealed = c.sealed; sealed_frames = c.sealed_frames }

module _ (c : Controller) (i : ℕ) (p p' : Sender) (pass : Tally) (within : i < length c.kit.posters.items) (is_p : p ≡ slice_index_or c.kit.posters.items i p) where
  same_count : length (with_poster c i p' pass).kit.posters.items ≡ length c.kit.posters.items
  same_count = length-set c.kit.posters.items i p'

  -- on this queue it has the new poster
  pub poster_here : (d : Sender) → slice_index_or (with_poster c i p' pass).kit.posters.items i d ≡ p'
  poster_here d = get_or-set_same c.kit.posters.items i p' d within

  -- whose calls are those made
  called_here : (d : Sender) → calls_on (with_poster c i p' pass) i d ≡ own p'
  called_here d = ap own (poster_here d)

  -- on the others none was made
  called_elsewhere : (j : ℕ) → j ≢ i → (d : Sender) → calls_on (with_poster c i p' pass) j d ≡ calls_on c j d
  called_elsewhere j apart d = ap own (get_or-set_other c.kit.posters.items i j p' d apart)

  -- and on none where the poster made no entry
  pub calls_none : own p' ≡ own p → CallsNone c (with_poster c i p' pass)
  calls_none same = record {
    long = same_count;
    calls = λ j d. dite (ℕ_discrete j i)
        (λ at. subst (λ (m : ℕ). calls_on (with_poster c i p' pass) m d ≡ calls_on c m d) (sym at) (called_here d ∙ (same ∙ sym (called_by c i p within is_p d))))
        (λ apart. called_elsewhere j apart d);
  }

  -- what holds of the poster's calls holds of those on its queue
  here : (P : List Entry → Type 0) → P (own p') → (j : ℕ) → j ≡ i → (d : Sender) → j < length (with_poster c i p' pass).kit.posters.items → P (calls_on (with_poster c i p' pass) j d)
  here P h j at d lt = subst P (sym (subst (λ (m : ℕ). calls_on (with_poster c i p' pass) m d ≡ own p') (sym at) (called_here d))) h

  -- and what held of those on another queue holds of them still
  elsewhere : (P : List Entry → Type 0) (j : ℕ) → j ≢ i → ((d : Sender) → j < length c.kit.posters.items → P (calls_on c j d))
      → (d : Sender) → j < length (with_poster c i p' pass).kit.posters.items → P (calls_on (with_poster c i p' pass) j d)
  elsewhere P j apart = calls_kept c (with_poster c i p' pass) same_count j (called_elsewhere j apart) P

  -- the time of this queue was moved on, and of none past this one
  still_by : (time : ℕ) → are_advances time (own p') ≡ true → AreBy time c → AreBy time (with_poster c i p' pass)
  still_by time moves by j = dite (ℕ_discrete j i)
      (here (λ l. are_advances time l ≡ true) moves j)
      (λ apart. elsewhere (λ l. are_advances time l ≡ true) j apart (by j))

  -- what main had reached it has reached still, as the time of this queue did not fall
  still_reached : (time : ℕ) → time_in (own p) ≤ time_in (own p') → HasReached time c → HasReached time (with_poster c i p' pass)
  still_reached time le reached = dite (ℕ_discrete 0 i)
      (λ first.
      let was = reached_on c i p within is_p time first reached in
      here (λ l. time ≤ time_in l) (omega (arith, le, was)) 0 first)
      (λ other. elsewhere (λ l. time ≤ time_in l) 0 other reached)

  -- this queue, which is not main's, was quit
  quits_one : (s : Script) → are_controls false true s.end true (own p') ≡ true → IsQuitting s i c → IsQuitting s (i + 1) (with_poster c i p' pass)
  quits_one s quits k =
      let above = k.side in
      let main_apart : 0 ≢ i = λ e. absurd (omega (arith, above, e)) in
      record {
        side = omega arith;
        main = elsewhere (λ l. are_advances s.end l ≡ true) 0 main_apart k.main;
        reached = elsewhere (λ l. s.end ≤ time_in l) 0 main_apart k.reached;
        done = λ j some lt. dite (ℕ_discrete j i)
            (here (λ l. are_controls false true s.end true l ≡ true) quits j)
            (λ apart. elsewhere (λ l. are_controls false true s.end true l ≡ true) j apart (k.done j some (omega (arith, lt, apart))));
        rest = λ j le. elsewhere (λ l. are_advances s.end l ≡ true) j (λ e. absurd (omega (arith, e, le))) (k.rest j (omega (arith, le)));
      }

  -- this queue, which is main's, was halted
  closes : (s : Script) → 0 ≡ i → are_controls true true s.end false (own p') ≡ true → IsClosing s c → HasClosed s (with_poster c i p' pass)
  closes s first halts k = record {
    main = here (λ l. are_controls true true s.end false l ≡ true) halts 0 first;
    others = λ j some. elsewhere (λ l. are_controls false true s.end true l ≡ true) j (λ e. absurd (omega (arith, e, some, first))) (k.others j some);
  }

-- a message of which the number is known is there
some_numbered : (o : Option Item) (n : ℕ) → option_and_then number_of o ≡ Some n → is_some o ≡ true
some_numbered None n h = absurd cc
some_numbered (Some x) n h = refl

-- one turn of a poster
module _ {parts : List Segment} (p p' : Sender) (x y : State) (t : IsTurnWith parts p p' x y) where
  -- it found of its sender's entries what the poster had made
  pub found_own : entries_by p.sender x.entries ≡ own p
  found_own = own_entries p p.sender x.entries refl t.begins t.found_made

  -- it made none
  pub made_none : y ≡ x → own p' ≡ own p
  made_none same = turn_makes p p' x y [] t (ap (λ (z : State). z.entries) same ∙ sym (append-nil x.entries)) refl ∙ append-nil (own p)

  -- it made one
  made_one : (c : Call) (r : Reply) → y.entries ≡ x.entries ++ entry_of x p.sender c r ∷ [] → own p' ≡ own p ++ entry_of x p.sender c r ∷ []
  made_one c r left = turn_makes p p' x y (entry_of x p.sender c r ∷ []) t left (own_of_one p.sender (entry_of x p.sender c r) refl)

-- a turn of the controller's poster on the queue of a looper
module _ {goes : Bool} {parts : List Segment} {s : Script} {hall : Hall} {i : ℕ} {c : Controller} (at : CanTurn goes s hall i c) {p p' : Sender} {q : Shared TableId}
    (is_p : p ≡ slice_index_or c.kit.posters.items i p) (is_q : q ≡ slice_index_or hall.queues.items i q) {x y : State} (t : IsTurnWith parts p p' x y) where
  pub mine : IsOf p q × (p.sender ≡ controller s)
  mine = own_poster at is_p is_q

  state : IsStateOf q.constants x
  state = (t.own q.constants mine.0.1).0

  pub setting : x.setting ≡ (queue_constants hall.lockstep s hall.pool i).setting
  setting = state.setting ∙ ap (λ (z : Constants TableId). z.setting) (queue_is hall.lockstep s hall.pool hall.queues.items at.is_hall.queues i q at.known is_q)

  pub last : p.sender + 1 ≡ x.setting.senders
  last = ap (λ (n : ℕ). n + 1) mine.1 ∙ sym (ap (λ (z : Setting). z.senders) setting)

  pub start : x.start ≡ empty_base x.setting.senders
  start = state.start ∙ ap (λ (z : Setting). empty_base z.senders) (sym state.setting)

  pub legal : IsLegal x.setting (empty_base x.setting.senders) x.entries
  legal = let sound = t.sound.0.legal in subst (λ b. IsLegal x.setting b x.entries) start sound

  pub numbered : AreNumbered x.setting (empty_base x.setting.senders) x.entries
  numbered = let sound = t.sound.0.numbered in subst (λ b. AreNumbered x.setting b x.entries) start sound

  -- main is not over before it is halted
  main_lives : i ≡ 0 → are_advances s.end (own p) ≡ true → is_over x.start x.entries ≡ false
  main_lives first moves =
      let main : x.setting.main ≡ true = ap (λ (z : Setting). z.main) setting ∙ ap (λ (m : ℕ). m == 0) first in
      ap (λ (b : Base). is_over b x.entries) start
      ∙ main_is_not_over x.setting p.sender last main s.end x.entries legal numbered (ap (are_advances s.end) (found_own p p' x y t) ∙ moves)

  pub within : i < length c.kit.posters.items
  within = has_poster at

  -- before, the time was only moved on, and not past this one
  pub moves_before : (time : ℕ) → ((d : Sender) → i < length c.kit.posters.items → are_advances time (calls_on c i d) ≡ true) → are_advances time (own p) ≡ true
  moves_before time moves = subst (λ (l : List Entry). are_advances time l ≡ true) (called_by c i p within is_p p) (moves p within)

  -- main is not over, as long as its time was only moved on
  pub turned_over : {P : Type 0} → i ≡ 0 → OnlyMoves s c 0 → is_over x.start x.entries ≡ true → P
  turned_over first moves over = absurd (true≢false (sym over ∙ main_lives first (moves_before s.end (subst (OnlyMoves s c) (sym first) moves))))

  time_after : (now : ℕ) → y ≡ entered x p.sender (Advance now) Advanced → time_in (own p') ≡ max (time_in (own p)) now
  time_after now is = ap time_in (made_one p p' x y t (Advance now) Advanced (ap (λ (z : State). z.entries) is)) ∙ time_in-snoc (own p) _

  module _ (pass : Tally) where
    -- the turn left the state as it was, so nothing was called
    pub turned_none : y ≡ x → CallsNone c (with_poster c i p' pass)
    turned_none same = calls_none c i p p' pass within is_p (made_none p p' x y t same)

    -- the queue was found over, and is so still
    pub still_over : y ≡ x → is_over x.start x.entries ≡ true → (d : Sender) → is_over (empty_base (sender_count s)) (whole_on (with_poster c i p' pass) i d) ≡ true
    still_over same over d =
        let first : x.start ≡ empty_base (sender_count s) = start ∙ ap (λ (z : Setting). empty_base z.senders) setting in
        let seen : whole_on (with_poster c i p' pass) i d ≡ x.entries = ap (λ (z : Sender). z.view.seen) (poster_here c i p p' pass within is_p d) ∙ (t.seen ∙ ap (λ (z : State). z.entries) same) in
        subst (λ (l : List Entry). is_over (empty_base (sender_count s)) l ≡ true) (sym seen) (subst (λ (b : Base). is_over b x.entries ≡ true) first over)

    -- a message was found due before this time, and is due still
    pub still_stuck : (now n : ℕ) → y ≡ x → is_over x.start x.entries ≡ false → time_of x < now → option_and_then number_of (pick x.start x.entries (time_of x)) ≡ Some n → (d : Sender) → IsStuck s now (whole_on (with_poster c i p' pass) i d)
    still_stuck now n same going early is_due d =
        let first : x.start ≡ empty_base (sender_count s) = start ∙ ap (λ (z : Setting). empty_base z.senders) setting in
        let seen : whole_on (with_poster c i p' pass) i d ≡ x.entries = ap (λ (z : Sender). z.view.seen) (poster_here c i p p' pass within is_p d) ∙ (t.seen ∙ ap (λ (z : State). z.entries) same) in
        subst (IsStuck s now) (sym seen) (record {
          going = subst (λ (b : Base). is_over b x.entries ≡ false) first going;
          early = subst (λ (b : Base). clock b x.entries < now) first early;
          due = subst (λ (b : Base). is_some (pick b x.entries (clock b x.entries)) ≡ true) first (some_numbered (pick x.start x.entries (time_of x)) n is_due);
        })

    -- the turn moved the time on, and of none past this one
    pub turned_by : (now time : ℕ) → now ≤ time → y ≡ entered x p.sender (Advance now) Advanced → AreBy time c → AreBy time (with_poster c i p' pass)
    turned_by now time le is by =
        still_by c i p p' pass within is_p time
        (subst (λ (l : List Entry). are_advances time l ≡ true) (sym (made_one p p' x y t (Advance now) Advanced (ap (λ (z : State). z.entries) is)))
        (one_advance_more time now (own p) _ (moves_before time (by i)) refl le))
        by

    -- to this one
    pub turned_to : (now : ℕ) → y ≡ entered x p.sender (Advance now) Advanced → (d : Sender) → now ≤ time_in (calls_on (with_poster c i p' pass) i d)
    turned_to now is d =
        let time = time_after now is in
        subst (λ (l : List Entry). now ≤ time_in l) (sym (called_here c i p p' pass within is_p d)) (omega (arith, time))

    -- so main has reached it, where the queue is main's
    pub turned_reached : (now : ℕ) → i ≡ 0 → ((d : Sender) → now ≤ time_in (calls_on (with_poster c i p' pass) i d)) → HasReached now (with_poster c i p' pass)
    turned_reached now first come d lt = subst (λ (m : ℕ). now ≤ time_in (calls_on (with_poster c i p' pass) m d)) first (come d)

    -- and what main had reached it has reached still
    pub turned_kept : (now time : ℕ) → y ≡ entered x p.sender (Advance now) Advanced → HasReached time c → HasReached time (with_poster c i p' pass)
    turned_kept now time is = let grown = time_after now is in still_reached c i p p' pass within is_p time (omega (arith, grown))

-- the same in lockstep
module _ {parts : List Segment} {s : Script} {hall : Hall} {i : ℕ} {c : Controller} (at : CanTurn true s hall i c) {p p' : Sender} {q : Shared TableId}
    (is_p : p ≡ slice_index_or c.kit.posters.items i p) (is_q : q ≡ slice_index_or hall.queues.items i q) {x y : State} (t : IsTurnWith parts p p' x y) where
  lockstep : x.setting.lockstep ≡ true
  lockstep = ap (λ (z : Setting). z.lockstep) (setting at is_p is_q t) ∙ at.controller.mode

  -- the time of the queue is the one to which the controller moved it
  time_found : time_of x ≡ time_in (own p)
  time_found =
      ap (λ (b : Base). clock b x.entries) (start at is_p is_q t)
      ∙ (time_by_controller x.setting p.sender (last at is_p is_q t) lockstep x.entries (legal at is_p is_q t) (numbered at is_p is_q t)
      ∙ ap time_in (found_own p p' x y t))

  -- and the moment of a call is that time
  moment_found : (now : ℕ) → moment_at x now ≡ time_in (own p)
  moment_found now = ap (λ (b : Bool). cond b (time_of x) (max now (time_of x))) lockstep ∙ time_found

  module _ (pass : Tally) where
    -- the time of the queue is the one to which the controller has moved it
    pub turned_time : y ≡ x → (d : Sender) → time_of x ≡ time_in (calls_on (with_poster c i p' pass) i d)
    turned_time same d = time_found ∙ ap time_in (sym (called_here c i p p' pass (within at is_p is_q t) is_p d ∙ made_none p p' x y t same))

    -- and the time had come to this one before
    pub turned_late : (now : ℕ) → y ≡ x → now ≤ time_of x → (d : Sender) → now ≤ time_in (calls_on (with_poster c i p' pass) i d)
    turned_late now same le d = subst (λ (n : ℕ). now ≤ n) (turned_time same d) le

    -- the turn asked to quit the queue safely, which is not main's, and whose time had come to the end
    turned_asked : (r : Reply) → y.entries ≡ x.entries ++ entry_of x p.sender (Quit true (moment_at x s.end)) r ∷ [] → ((d : Sender) → s.end ≤ time_in (calls_on c i d)) → IsQuitting s i c
        → IsQuitting s (i + 1) (with_poster c i p' pass)
    turned_asked r left late quitting =
        quits_one c i p p' pass (within at is_p is_q t) is_p s
        (subst (λ (l : List Entry). are_controls false true s.end true l ≡ true) (sym (made_one p p' x y t (Quit true (moment_at x s.end)) r left))
        (quits_at_end s.end (own p) _ (moves_before at is_p is_q t s.end (quitting.rest i (omega arith))) (subst (λ (l : List Entry). s.end ≤ time_in l) (called_by c i p (within at is_p is_q t) is_p p) (late p)) (ap (Quit true) (moment_found s.end))))
        quitting

    -- whatever the answer
    pub turned_quit : (answer : Quitting Claimed TableId) → answer ≢ quitting.NoMemory → Quits x p.sender true s.end answer y → ((d : Sender) → s.end ≤ time_in (calls_on c i d)) → IsQuitting s i c
        → IsQuitting s (i + 1) (with_poster c i p' pass)
    turned_quit (quitting.Done list) some done = turned_asked QuitDone (ap (λ (z : State). z.entries) done.2)
    turned_quit (quitting.AlreadyQuit place) some done = turned_asked (AlreadyQuit place) (ap (λ (z : State). z.entries) done.1)
    turned_quit quitting.NotAllowed some done = turned_asked NotAllowed (ap (λ (z : State). z.entries) done.1)
    turned_quit quitting.NoMemory some done = absurd (some refl)

    -- the turn halted main, whose time had come to the end
    pub turned_closed : i ≡ 0 → y ≡ entered x p.sender (Halt (moment_at x s.end)) Halted → IsClosing s c → HasClosed s (with_poster c i p' pass)
    turned_closed first is closing =
        closes c i p p' pass (within at is_p is_q t) is_p s (sym first)
        (subst (λ (l : List Entry). are_controls true true s.end false l ≡ true) (sym (made_one p p' x y t (Halt (moment_at x s.end)) Halted (ap (λ (z : State). z.entries) is)))
        (halts_at_end s.end (own p) _ (moves_before at is_p is_q t s.end (subst (OnlyMoves s c) (sym first) closing.main)) (reached_on c i p (within at is_p is_q t) is_p s.end (sym first) closing.reached) (ap Halt (moment_found s.end)) refl))
        closing

-- ==== by its turns a poster of the controller finds a history, and leaves it as it was or makes one entry more

-- a poster that did nothing
pub turns_stay : {P : Entry → Type 0} (p : Sender) → TurnsOn P p p
turns_stay p = record { found = p.view.seen; begins = prefix_self p.view.seen; made = refl; sender = refl; step = inl refl }

-- the first made no entry, so what the second found goes on from what was seen before both
pub turns_behind : {P : Entry → Type 0} (a b c : Sender) → TurnsOn IsNoEntry a b → TurnsOn P b c → TurnsOn P a c
turns_behind a b c f g =
    let seen : b.view.seen ≡ f.found = elim f.step [ inl same ↦ same | inr one ↦ absurd one.2 ] in
    let begins : IsPrefix a.view.seen g.found = prefix_trans a.view.seen b.view.seen g.found (subst (IsPrefix a.view.seen) (sym seen) f.begins) g.begins in
    let made : entries_by a.sender g.found ≡ own a =
    subst (λ (n : ℕ). entries_by n g.found ≡ entries_by n b.view.seen) f.sender g.made ∙ (ap (entries_by a.sender) seen ∙ f.made) in
    record {
      found = g.found;
      begins = begins;
      made = made;
      sender = g.sender ∙ f.sender;
      step = elim g.step [
        | inl same ↦ inl same
        | inr one ↦ inr (one.0, one.1, one.2, one.3 ∙ f.sender)
      ];
    }

-- turns that made no entry moved no time
pub turns_moving : (a b : Sender) → TurnsOn IsNoEntry a b → TurnsOn MovesNot a b
turns_moving a b f = record { found = f.found; begins = f.begins; made = f.made; sender = f.sender; step = elim f.step [ inl same ↦ inl same | inr one ↦ absurd one.2 ] }

-- a turn of a poster
module _ {parts : List Segment} {P : Entry → Type 0} {p p' : Sender} {x y : State} (t : IsTurnWith parts p p' x y) where
  -- that left the queue as it was
  pub turns_none : y ≡ x → TurnsOn P p p'
  turns_none same = record { found = x.entries; begins = t.begins; made = found_own p p' x y t; sender = t.sender; step = inl (t.seen ∙ ap (λ (z : State). z.entries) same) }

  -- that made one entry
  pub turns_one : (c : Call) (r : Reply) → y.entries ≡ x.entries ++ entry_of x p.sender c r ∷ [] → P (entry_of x p.sender c r) → TurnsOn P p p'
  turns_one c r left h = record { found = x.entries; begins = t.begins; made = found_own p p' x y t; sender = t.sender; step = inr (entry_of x p.sender c r, t.seen ∙ left, h, refl) }

-- a quit, done or refused
pub turns_quit : (p p' : Sender) (safe : Bool) (now : ℕ) → QuitsOf p p' safe now → TurnsOn MovesNot p p'
turns_quit p p' safe now (answer, some, (x, y, t, quits)) = by_answer answer some quits
  where
    by_answer : (answer : Quitting Claimed TableId) → answer ≢ quitting.NoMemory → Quits x p.sender safe now answer y → TurnsOn MovesNot p p'
    by_answer (quitting.Done list) some done = turns_one t (Quit safe (moment_at x now)) QuitDone (ap (λ (z : State). z.entries) done.2) refl
    by_answer (quitting.AlreadyQuit place) some done = turns_one t (Quit safe (moment_at x now)) (AlreadyQuit place) (ap (λ (z : State). z.entries) done.1) refl
    by_answer quitting.NotAllowed some done = turns_one t (Quit safe (moment_at x now)) NotAllowed (ap (λ (z : State). z.entries) done.1) refl
    by_answer quitting.NoMemory some done = absurd (some refl)

-- with a new poster at one place, the others are as they were
pub turns_elsewhere : (c : Controller) (i : ℕ) (p' : Sender) (pass : Tally) (q : ℕ) (d : Sender) → q ≢ i → slice_index_or (with_poster c i p' pass).kit.posters.items q d ≡ slice_index_or c.kit.posters.items q d
turns_elsewhere c i p' pass q d apart = get_or-set_other c.kit.posters.items i q p' d apart

-- the controller with a new poster at one place
module _ {goes : Bool} {s : Script} {hall : Hall} {i : ℕ} {c : Controller} (at : CanTurn goes s hall i c) {p p' : Sender} (pass : Tally) (is_p : p ≡ slice_index_or c.kit.posters.items i p) where
  -- what the poster did there
  pub turns_here : {P : Entry → Type 0} → TurnsOn P p p' → (d : Sender) → TurnsOn P (slice_index_or c.kit.posters.items i d) (slice_index_or (with_poster c i p' pass).kit.posters.items i d)
  turns_here {P} h d =
      subst (λ (z : Sender). TurnsOn P z (slice_index_or (with_poster c i p' pass).kit.posters.items i d)) (is_p ∙ get_or_default c.kit.posters.items i p d (has_poster at))
      (subst (TurnsOn P p) (sym (poster_here c i p p' pass (has_poster at) is_p d)) h)

  -- after a turn it is the script's controller still, and the others are as they were
  pub turned_alone : {x y : State} → IsTurn p p' x y → TurnsAlone goes s hall i c (with_poster c i p' c.kit.pass)
  turned_alone t = record { controller = after_turn at is_p t; elsewhere = turns_elsewhere c i p' c.kit.pass }

  -- and so after a call with its pass of the pool
  pub called_alone : GoesOn p p' c.kit.pass pass → TurnsAlone goes s hall i c (with_poster c i p' pass)
  called_alone on = record { controller = after_call at is_p on; elsewhere = turns_elsewhere c i p' pass }

  -- what the one did, and the others that stayed, is what each did
  pub each_turns : {P : Entry → Type 0} → TurnsOn P p p' → EachTurnsOn P c (with_poster c i p' pass)
  each_turns {P} h = record {
    long = length-set c.kit.posters.items i p';
    each = λ q d lt. dite (ℕ_discrete q i)
        (λ here. subst (λ (m : ℕ). TurnsOn P (slice_index_or c.kit.posters.items m d) (slice_index_or (with_poster c i p' pass).kit.posters.items m d)) (sym here) (turns_here h d))
        (λ apart. subst (TurnsOn P (slice_index_or c.kit.posters.items q d)) (sym (turns_elsewhere c i p' pass q d apart)) (turns_stay (slice_index_or c.kit.posters.items q d)));
  }

  -- a halt ends the history that it has seen
  pub ends_with : {parts : List Segment} {x y : State} → IsTurnWith parts p p' x y → (now : ℕ) → y ≡ entered x p.sender (Halt now) Halted → (d : Sender) → ends_halted (whole_on (with_poster c i p' pass) i d) ≡ true
  ends_with {parts} {x} {y} t now is d =
      ap ends_halted (ap (λ (z : Sender). z.view.seen) (poster_here c i p p' pass (has_poster at) is_p d) ∙ (t.seen ∙ ap (λ (z : State). z.entries) is))
      ∙ ends_halted-snoc x.entries (entry_of x p.sender (Halt now) Halted)

-- each of the first posters did something, and the others stayed
pub record TurnsBelow (P : Entry → Type 0) (n : ℕ) (before after : Controller) : Type 0 where
  pub long : length after.kit.posters.items ≡ length before.kit.posters.items
  pub below : (q : ℕ) (d : Sender) → q < n → TurnsOn P (slice_index_or before.kit.posters.items q d) (slice_index_or after.kit.posters.items q d)
  pub rest : (q : ℕ) (d : Sender) → n ≤ q → slice_index_or after.kit.posters.items q d ≡ slice_index_or before.kit.posters.items q d

-- none has done anything
pub below_none : (P : Entry → Type 0) (c : Controller) → TurnsBelow P 0 c c
below_none P c = record { long = refl; below = λ q d lt. absurd (omega (arith, lt)); rest = λ q d le. refl }

-- all have
pub below_all : (P : Entry → Type 0) (n : ℕ) (before after : Controller) → length before.kit.posters.items ≤ n → TurnsBelow P n before after → EachTurnsOn P before after
below_all P n before after all turns = record { long = turns.long; each = λ q d lt. turns.below q d (omega (arith, all, lt)) }

-- the first queues' times have come to this one, or they are over
abbrev pub ComeBelow : Script → ℕ → ℕ → Controller → Type 0
ComeBelow s now n c = (q : ℕ) (d : Sender) → q < n → (now ≤ time_in (calls_on c q d)) ⊎ (is_over (empty_base (sender_count s)) (whole_on c q d) ≡ true)

-- where one of the first queues is stuck, or the next one, after a turn there alone
pub stuck_more : (s : Script) (now n : ℕ) (before after : Controller) (x y : Bool) → (x ≡ false → AreStuck s now n before) → (y ≡ false → (d : Sender) → IsStuck s now (whole_on after n d))
    → ((q : ℕ) (d : Sender) → q ≢ n → slice_index_or after.kit.posters.items q d ≡ slice_index_or before.kit.posters.items q d) → (x && y) ≡ false → AreStuck s now (n + 1) after
stuck_more s now n before after false y first here elsewhere none =
    let h = first refl in
    let lt = h.1 in
    let apart : h.0 ≢ n = λ e. absurd (omega (arith, lt, e)) in
    (h.0, omega (arith, lt), λ d. subst (λ (p : Sender). IsStuck s now p.view.seen) (sym (elsewhere h.0 d apart)) (h.2 d))
stuck_more s now n before after true y first here elsewhere none = (n, omega arith, here none)

-- one poster more did something
pub below_more : (P : Entry → Type 0) (n : ℕ) (first now after : Controller) → TurnsBelow P n first now → length after.kit.posters.items ≡ length now.kit.posters.items
    → ((d : Sender) → TurnsOn P (slice_index_or now.kit.posters.items n d) (slice_index_or after.kit.posters.items n d))
    → ((q : ℕ) (d : Sender) → q ≢ n → slice_index_or after.kit.posters.items q d ≡ slice_index_or now.kit.posters.items q d) → TurnsBelow P (n + 1) first after
below_more P n first now after turns long here elsewhere = record {
  long = long ∙ turns.long;
  below = λ q d lt. dite (ℕ_discrete q n)
      (λ at. subst (λ (m : ℕ). TurnsOn P (slice_index_or first.kit.posters.items m d) (slice_index_or after.kit.posters.items m d)) (sym at)
      (subst (λ (p : Sender). TurnsOn P p (slice_index_or after.kit.posters.items n d)) (turns.rest n d (omega arith)) (here d)))
      (λ apart. subst (TurnsOn P (slice_index_or first.kit.posters.items q d)) (sym (elsewhere q d apart)) (turns.below q d (omega (arith, lt, apart))));
  rest = λ q d le. elsewhere q d (λ at. absurd (omega (arith, at, le))) ∙ turns.rest q d (omega (arith, le));
}

-- one queue more has come to this time, or is over
pub come_more : (s : Script) (now n : ℕ) (before after : Controller) → ComeBelow s now n before
    → ((d : Sender) → (now ≤ time_in (calls_on after n d)) ⊎ (is_over (empty_base (sender_count s)) (whole_on after n d) ≡ true))
    → ((q : ℕ) (d : Sender) → q ≢ n → slice_index_or after.kit.posters.items q d ≡ slice_index_or before.kit.posters.items q d) → ComeBelow s now (n + 1) after
come_more s now n before after come here elsewhere q d lt = dite (ℕ_discrete q n)
    (λ at. subst (λ (m : ℕ). (now ≤ time_in (calls_on after m d)) ⊎ (is_over (empty_base (sender_count s)) (whole_on after m d) ≡ true)) (sym at) (here d))
    (λ apart. subst (λ (p : Sender). (now ≤ time_in (own p)) ⊎ (is_over (empty_base (sender_count s)) p.view.seen ≡ true)) (sym (elsewhere q d apart)) (come q d (omega (arith, lt, apart))))

-- ==== the controller hands entries out, by turns that leave each history as it is

-- one turn that handed these parts out
pub hands : {parts : List Segment} (p p' : Sender) (x : State) (ps : List Segment) → IsTurnWith parts p p' x x → HandsPartsOut p p' ps (with_parts ps parts)
hands {parts} p p' x ps t = record {
  table = t.table;
  constants = t.constants;
  called = made_none p p' x x t refl;
  turns = turns_none t refl;
  parts = λ is. t.sealed ∙ ap (λ (l : List Segment). with_parts l parts) is;
}

-- one after the other
pub hands_then : (a b c : Sender) (ps qs rs : List Segment) → HandsPartsOut a b ps qs → HandsPartsOut b c qs rs → HandsPartsOut a c ps rs
hands_then a b c ps qs rs f g = record {
  table = g.table ∙ f.table;
  constants = g.constants ∙ f.constants;
  called = g.called ∙ f.called;
  turns = turns_behind a b c f.turns g.turns;
  parts = λ is. g.parts (f.parts is);
}

-- the controller has a list of parts for each looper
pub in_lists : {s : Script} {hall : Hall} {i : ℕ} {c : Controller} → CanTurn true s hall i c → i < vec_len c.sealed
in_lists {s} {hall} {i} {c} at =
    let many = ap length at.controller.sealed in
    let posters = length-map c.kit.posters.items (λ (z : Sender). z.view.sealed) in
    let lists = length-map c.sealed.items (λ (z : Vec Segment). z.items) in
    let all = c.sealed.ok.0 in
    let below = has_poster at in
    omega (arith, many, posters, lists, all, below)

-- the controller whose poster of one queue handed parts out, which it keeps
module _ {s : Script} {hall : Hall} {i : ℕ} {c : Controller} (at : CanTurn true s hall i c) {p p' : Sender} {v : Vec Segment} (v' : Vec Segment)
    (is_p : p ≡ slice_index_or c.kit.posters.items i p) (is_v : v ≡ slice_index_or c.sealed.items i v) (out : HandsPartsOut p p' v.items v'.items) where
  below : i < length c.kit.posters.items
  below = has_poster at

  -- the controller then
  abbrev pub after_hands : Controller
  after_hands = record { kit = record { posters = with_item c.kit.posters i p'; pass = c.kit.pass; frames = c.kit.frames }; sealed = with_item c.sealed i v'; sealed_frames = c.sealed_frames }

  -- what the poster had handed out stands in its list
  kept_here : p.view.sealed ≡ v.items
  kept_here =
      let there = in_lists at in
      let all = c.sealed.ok.0 in
      let place : i < length c.sealed.items = omega (arith, there, all) in
      ap (λ (z : Sender). z.view.sealed) is_p
      ∙ (sym (get_or-map (λ (z : Sender). z.view.sealed) c.kit.posters.items i p [] below)
      ∙ (ap (λ l. get_or l i []) at.controller.sealed
      ∙ (get_or-map (λ (z : Vec Segment). z.items) c.sealed.items i v [] place ∙ ap (λ (z : Vec Segment). z.items) (sym is_v))))

  hands_controller : IsController s hall after_hands
  hands_controller = record {
    posters = posters_kept (controller s) hall.queues.items c.kit.posters.items at.controller.posters i p' p ((λ j. record { table = out.table j; constants = out.constants j; sender = out.turns.sender j }) ∙ ap badge_of is_p);
    frames = at.controller.frames;
    pass = at.controller.pass;
    mode = at.controller.mode;
    idle = at.controller.idle;
    sealed_frames = at.controller.sealed_frames;
    sealed = map-set (λ (z : Sender). z.view.sealed) c.kit.posters.items i p' ∙ (λ j. set (at.controller.sealed j) i (out.parts kept_here j)) ∙ sym (map-set (λ (z : Vec Segment). z.items) c.sealed.items i v');
  }

  pub hands_none : CallsNone c after_hands
  hands_none = let none = calls_none c i p p' c.kit.pass below is_p out.called in record { long = none.long; calls = none.calls }

  pub hands_here : (d : Sender) → TurnsOn IsNoEntry (slice_index_or c.kit.posters.items i d) (slice_index_or after_hands.kit.posters.items i d)
  hands_here d = turns_here at c.kit.pass is_p out.turns d

  pub hands_alone : TurnsAlone true s hall i c after_hands
  hands_alone = record { controller = hands_controller; elsewhere = turns_elsewhere c i p' c.kit.pass }

-- ==== the controller's turns at the end of a run by a clock

-- the poster quit its queue safely at this moment by one call, which may have been refused, or did nothing
abbrev pub MayQuit : Sender → Sender → ℕ → Type 0
MayQuit before after now = (after ≡ before) ⊎ QuitsOf before after true now

-- where one call alone was made, and it closes the queue
closed_by_one : (main : Bool) (end : ℕ) (quit : Bool) (e : Entry) → is_advance e.call ≡ false → is_closing main false end e ≡ true → are_controls main false end quit (e ∷ []) ≡ true
closed_by_one main end quit e moves_not closes =
    ap (λ (b : Bool). cond b (false && nat_le (moment_of e.call) end && are_controls main false end quit []) (true && is_closing main false end e)) moves_not ∙ closes

-- a safe quit, no earlier than the end
quit_closes : (end at : ℕ) (e : Entry) → e.call ≡ Quit true at → end ≤ at → are_controls false false end true (e ∷ []) ≡ true
quit_closes end at e is late =
    closed_by_one false end true e (ap is_advance is)
    (and_from _ _ (ap is_safe_quit is) (le-leb end (moment_of e.call) (subst (λ (n : ℕ). end ≤ n) (sym (ap moment_of is)) late)))

-- a halt, no earlier than the end
halt_closes : (end at : ℕ) (e : Entry) → e.call ≡ Halt at → e.reply ≡ Halted → end ≤ at → are_controls true false end false (e ∷ []) ≡ true
halt_closes end at e is halted late =
    closed_by_one true end false e (ap is_advance is)
    (and_from _ _ (and_from _ _ (ap is_halt is) (ap is_halted halted)) (le-leb end (moment_of e.call) (subst (λ (n : ℕ). end ≤ n) (sym (ap moment_of is)) late)))

-- any free mode
any_mode : Mode
any_mode = in_free_mode (λ n. true) 0

-- a poster of a queue in free mode
module _ (p p' : Sender) (q : Shared TableId) (of : IsOf p q) (free : q.constants.setting.lockstep ≡ false) where
  pub in_mode : (m : Mode) → IsInMode m p
  in_mode m = if_free m.lockstep ((c : Constants TableId) × (p.view.constants ≡ Some c) × (c.setting.lockstep ≡ false)) (λ _. (q.constants, of.1, free))

  -- the moment at which it enters a call is no earlier than the one that was asked for
  entered_late : (call : ℕ → Call) (now : ℕ) → EntersAt call p p' now → (e : Entry) × (own p' ≡ own p ++ e ∷ []) × (at : ℕ) × (e.call ≡ call at) × (now ≤ at)
  unfolding any_mode
  entered_late call now (x, y, t, r, left) =
      let e = entry_of x p.sender (call (moment_at x now)) r in
      (e, turn_makes p p' x y (e ∷ []) t left (own_of_one p.sender e refl), moment_at x now, refl, (its_moment any_mode p p' x y now t (in_mode any_mode) refl).1)

  -- its one call was a safe quit at the end or later
  pub quits_late : (end now : ℕ) → end ≤ now → own p ≡ [] → QuitsOf p p' true now → are_controls false false end true (own p') ≡ true
  quits_late end now late none quits =
      let t = entered_late (Quit true) now (quits_enter p p' true now quits) in
      let at : ℕ = t.2 in
      let from : now ≤ at = t.4 in
      subst (λ (l : List Entry). are_controls false false end true l ≡ true) (sym (t.1 ∙ ap (λ (l : List Entry). l ++ t.0 ∷ []) none)) (quit_closes end at t.0 t.3 (omega (arith, late, from)))

  -- whose moment is the clock's, or the queue's time
  pub quits_by_clock : (m : Mode) (now : ℕ) → IsMomentOf m now → QuitsOf p p' true now → IsByClock m p → IsByClock m p'
  quits_by_clock m now moment quits =
      clocked_at m (Quit true) p p' now (in_mode m) (λ time at h. h) (if_free m.lockstep (IsMomentOf m now) (λ _. moment)) (quits_enter p p' true now quits)

  -- the same of a halt
  module _ (x y : State) (t : IsTurn p p' x y) (now : ℕ) (is : y ≡ entered x p.sender (Halt (moment_at x now)) Halted) where
    left : y.entries ≡ x.entries ++ entry_of x p.sender (Halt (moment_at x now)) Halted ∷ []
    left = ap (λ (z : State). z.entries) is

    pub halts_late : (end : ℕ) → end ≤ now → own p ≡ [] → are_controls true false end false (own p') ≡ true
    unfolding any_mode
    halts_late end late none =
        let e = entry_of x p.sender (Halt (moment_at x now)) Halted in
        let made : own p' ≡ own p ++ e ∷ [] = turn_makes p p' x y (e ∷ []) t left (own_of_one p.sender e refl) in
        let from : now ≤ moment_at x now = (its_moment any_mode p p' x y now t (in_mode any_mode) refl).1 in
        subst (λ (l : List Entry). are_controls true false end false l ≡ true) (sym (made ∙ ap (λ (l : List Entry). l ++ e ∷ []) none)) (halt_closes end (moment_at x now) e refl refl (omega (arith, late, from)))

    pub halts_by_clock : (m : Mode) → IsMomentOf m now → IsByClock m p → IsByClock m p'
    halts_by_clock m moment = clocked_at m Halt p p' now (in_mode m) (λ time at h. h) (if_free m.lockstep (IsMomentOf m now) (λ _. moment)) (x, y, t, Halted, left)

-- a controller that called nothing on a queue has only moved its time
pub nothing_moves : (s : Script) (c : Controller) (q : ℕ) → CallsNothingOn c q → OnlyMoves s c q
nothing_moves s c q none d lt = subst (λ (l : List Entry). are_advances s.end l ≡ true) (sym (none d lt)) refl

-- what holds of each poster goes on where one poster alone did something
pub clocked_more : (m : Mode) (xs ys : List Sender) (i : ℕ) → length ys ≡ length xs → ((d : Sender) → IsByClock m (slice_index_or xs i d) → IsByClock m (slice_index_or ys i d))
    → ((q : ℕ) (d : Sender) → q ≢ i → slice_index_or ys q d ≡ slice_index_or xs q d) → AreByClock m xs → AreByClock m ys
clocked_more m xs ys i long here elsewhere by q d lt =
    let within : q < length xs = omega (arith, lt, long) in
    dite (ℕ_discrete q i)
    (λ at. subst (λ (n : ℕ). IsByClock m (slice_index_or ys n d)) (sym at) (here d (subst (λ (n : ℕ). IsByClock m (slice_index_or xs n d)) at (by q d within))))
    (λ apart. subst (IsByClock m) (sym (elsewhere q d apart)) (by q d within))

module _ {s : Script} {hall : Hall} {i : ℕ} {c : Controller} (at : CanTurn false s hall i c) where
  the_queue : Shared TableId
  the_queue = some_of hall.queues.items i (subst (λ (n : ℕ). i < n) (sym (queue_count hall.lockstep s hall.pool hall.queues.items at.is_hall.queues)) at.known)

  its_queue : Shared TableId
  its_queue = slice_index_or hall.queues.items i the_queue

  -- the controller's poster at a place is one of a queue in free mode
  poster_free : (d : Sender) → (q : Shared TableId) × IsOf (slice_index_or c.kit.posters.items i d) q × (q.constants.setting.lockstep ≡ false)
  unfolding its_queue
  poster_free d =
      let within = subst (λ (n : ℕ). i < n) (sym (queue_count hall.lockstep s hall.pool hall.queues.items at.is_hall.queues)) at.known in
      let p = slice_index_or c.kit.posters.items i d in
      let is_p : p ≡ slice_index_or c.kit.posters.items i p = get_or_default c.kit.posters.items i d p (has_poster at) in
      let is_q : its_queue ≡ slice_index_or hall.queues.items i its_queue = get_or_default hall.queues.items i the_queue its_queue within in
      (its_queue, (own_poster at is_p is_q).0, in_step at is_q)

  module _ (c' : Controller) (now : ℕ) (long : length c'.kit.posters.items ≡ length c.kit.posters.items)
      (here : (d : Sender) → MayQuit (slice_index_or c.kit.posters.items i d) (slice_index_or c'.kit.posters.items i d) now)
      (elsewhere : (q : ℕ) (d : Sender) → q ≢ i → slice_index_or c'.kit.posters.items q d ≡ slice_index_or c.kit.posters.items q d) where
    -- this queue, which is not main's, may have been quit
    pub quits_more : 0 < i → s.end ≤ now → IsQuittingBy s i c → IsQuittingBy s (i + 1) c'
    quits_more above late quitting = record {
      main = λ d near. ap own (elsewhere 0 d (λ e. absurd (omega (arith, e, above)))) ∙ quitting.main d (omega (arith, near, long));
      done = λ q some below d near. dite (ℕ_discrete q i)
          (λ same. subst (λ (n : ℕ). are_controls false false s.end true (calls_on c' n d) ≡ true) (sym same) (one d (here d)))
          (λ apart. subst (λ (p : Sender). are_controls false false s.end true (own p) ≡ true) (sym (elsewhere q d apart)) (quitting.done q some (omega (arith, below, apart)) d (omega (arith, near, long))));
      rest = λ q le d near. ap own (elsewhere q d (λ e. absurd (omega (arith, e, le)))) ∙ quitting.rest q (omega (arith, le)) d (omega (arith, near, long));
    }
      where
        one : (d : Sender) → MayQuit (slice_index_or c.kit.posters.items i d) (slice_index_or c'.kit.posters.items i d) now → are_controls false false s.end true (calls_on c' i d) ≡ true
        one d (inl same) =
            let none = quitting.rest i (omega arith) d (has_poster at) in
            subst (λ (l : List Entry). are_controls false false s.end true l ≡ true) (sym (ap own same ∙ none)) refl
        one d (inr quits) =
            let f = poster_free d in
            quits_late (slice_index_or c.kit.posters.items i d) (slice_index_or c'.kit.posters.items i d) f.0 f.1 f.2 s.end now late (quitting.rest i (omega arith) d (has_poster at)) quits

    -- at a moment of the clock
    pub quits_clocked : (m : Mode) → IsMomentOf m now → AreByClock m c.kit.posters.items → AreByClock m c'.kit.posters.items
    quits_clocked m moment = clocked_more m c.kit.posters.items c'.kit.posters.items i long (λ d. one d (here d)) elsewhere
      where
        one : (d : Sender) → MayQuit (slice_index_or c.kit.posters.items i d) (slice_index_or c'.kit.posters.items i d) now → IsByClock m (slice_index_or c.kit.posters.items i d) → IsByClock m (slice_index_or c'.kit.posters.items i d)
        one d (inl same) by = subst (IsByClock m) (sym same) by
        one d (inr quits) by =
            let f = poster_free d in
            quits_by_clock (slice_index_or c.kit.posters.items i d) (slice_index_or c'.kit.posters.items i d) f.0 f.1 f.2 m now moment quits by

-- a looper that was quit unless it had ended may have been quit
pub may_quit : (place : ℕ) (before after : Controller) (now : ℕ) (ended done : Bool) → (ended ≡ true → after ≡ before) → (done ≡ true → ended ≡ false → AtPoster (λ a b. QuitsOf a b true now) place before after)
    → done ≡ true → AtPoster (λ a b. MayQuit a b now) place before after
may_quit place before after now true done stays made is d = inl (ap (λ (c : Controller). slice_index_or c.kit.posters.items place d) (stays refl))
may_quit place before after now false done stays made is d = inr (made is refl d)

-- before the first quit
pub quitting_begins : (s : Script) (c : Controller) → ((q : ℕ) → CallsNothingOn c q) → IsQuittingBy s 1 c
quitting_begins s c none = record { main = none 0; done = λ q some lt. absurd (omega (arith, some, lt)); rest = λ q le. none q }

-- behind the last
pub quitting_ends : (s : Script) (c : Controller) (n : ℕ) → length c.kit.posters.items ≤ n → IsQuittingBy s n c → IsClosingBy s c
quitting_ends s c n all k = record {
  main = k.main;
  others = λ q some d near. k.done q some (omega (arith, near, all)) d near;
}

-- a turn of the controller's poster on main
module _ {s : Script} {hall : Hall} {c : Controller} (at : CanTurn false s hall 0 c) {p p' : Sender} (is_p : p ≡ slice_index_or c.kit.posters.items 0 p)
    {x y : State} (t : IsTurn p p' x y) (pass : Tally) where
  in_main : 0 < length c.kit.posters.items
  in_main = has_poster at

  main_free : (q : Shared TableId) × IsOf p q × (q.constants.setting.lockstep ≡ false)
  main_free = let f = poster_free at p in (f.0, subst (λ (z : Sender). IsOf z f.0) (sym is_p) f.1, f.2)

  main_same : length (with_poster c 0 p' pass).kit.posters.items ≡ length c.kit.posters.items
  main_same = length-set c.kit.posters.items 0 p'

  main_here : (m : Mode) → (IsByClock m p → IsByClock m p') → (d : Sender) → IsByClock m (slice_index_or c.kit.posters.items 0 d) → IsByClock m (slice_index_or (with_poster c 0 p' pass).kit.posters.items 0 d)
  main_here m one d by =
      subst (IsByClock m) (sym (poster_here c 0 p p' pass in_main is_p d))
      (one (subst (IsByClock m) (get_or_default c.kit.posters.items 0 d p in_main ∙ sym is_p) by))

  main_clocked : (m : Mode) → (IsByClock m p → IsByClock m p') → AreByClock m c.kit.posters.items → AreByClock m (with_poster c 0 p' pass).kit.posters.items
  main_clocked m one = clocked_more m c.kit.posters.items (with_poster c 0 p' pass).kit.posters.items 0 main_same (main_here m one) (turns_elsewhere c 0 p' pass)

  -- that made no entry
  pub still_clocked : y ≡ x → (m : Mode) → AreByClock m c.kit.posters.items → AreByClock m (with_poster c 0 p' pass).kit.posters.items
  still_clocked same m =
      main_clocked m (clocked_same m p p' t.sender (subst (IsPrefix p.view.seen) (sym (t.seen ∙ ap (λ (z : State). z.entries) same)) t.begins) (made_none p p' x y t same))

  -- that halted it
  module _ (now : ℕ) (is : y ≡ entered x p.sender (Halt (moment_at x now)) Halted) where
    pub halts_closing : s.end ≤ now → IsClosingBy s c → HasClosedIn false s (with_poster c 0 p' pass)
    halts_closing late closing =
        let none : own p ≡ [] = ap own is_p ∙ closing.main p in_main in record {
          main = λ d near. subst (λ (z : Sender). are_controls true false s.end false (own z) ≡ true) (sym (poster_here c 0 p p' pass in_main is_p d))
              (halts_late p p' main_free.0 main_free.1 main_free.2 x y t now is s.end late none);
          others = λ j side d near. subst (λ (z : Sender). are_controls false false s.end true (own z) ≡ true) (sym (turns_elsewhere c 0 p' pass j d (λ e. absurd (omega (arith, e, side)))))
              (closing.others j side d (subst (λ (n : ℕ). j < n) main_same near));
        }

    pub halts_clocked : (m : Mode) → IsMomentOf m now → AreByClock m c.kit.posters.items → AreByClock m (with_poster c 0 p' pass).kit.posters.items
    halts_clocked m moment = main_clocked m (halts_by_clock p p' main_free.0 main_free.1 main_free.2 x y t now is m moment)
