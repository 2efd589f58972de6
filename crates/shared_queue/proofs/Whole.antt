-- A state, and the same over its whole history, answer alike.
use Rattle.std.proofs.Common.{◌≡◌, ◌<◌, ◌≤◌, ℕ, zero, suc, max, Bool, true, false, List, [], ◌∷◌, ◌++◌, length, refl, sym, ap, ◌∙◌, subst, arith, append_assoc, if◌then◌else◌}
use Rattle.std.specs.Prelude.{◌||◌, is_some, replicate, None}
use Rattle.std.specs.List.{list_any}
use Rattle.std.specs.Option.{option_map, option_and_then}
use Rattle.loop_model.specs.declared.post.Filter.{Filter}
use Rattle.loop_model.specs.declared.call.Call.{Call}
use Rattle.loop_model.specs.declared.call.Call.TheVariants.{Post, Barrier, Unbarrier, Remove, Quit, Next, Advance, Halt}
use Rattle.loop_model.specs.declared.reply.Reply.{Reply}
use Rattle.loop_model.specs.declared.reply.Reply.TheVariants.{Accepted, Refused, Token, Unbarriered, NotPosted, Removed, QuitDone, AlreadyQuit, NotAllowed, Dispatched, Disposed, Advanced, Halted}
use Rattle.loop_model.specs.declared.entry.Entry.{Entry}
use Rattle.loop_model.specs.declared.base.Base.{Base}
use Rattle.loop_model.specs.Base.{empty_base}
use Rattle.loop_model.specs.Items.{when_of, matches, number_of}
use Rattle.loop_model.specs.Live.{live_in_order}
use Rattle.loop_model.specs.Pick.{first_eligible, pick}
use Rattle.loop_model.specs.Answers.{answer, clock, is_over, quit_place}
use Rattle.loop_model.specs.Legal.{IsLegal, AreNumbered, made_count}
use Rattle.loop_model.specs.Chain.{after}
use Rattle.loop_model.specs.Listed.{first_listed, pick_listed, listed_answer, listed_wakes, listed_sleep}
use Rattle.loop_model.specs.Sleep.{wakes}
use Rattle.loop_model.proofs.AfterLaws.{after-after, answer-after}
use Rattle.loop_model.proofs.FirstLaws.{first_eligible-listed, pick-listed, list_any-listed}
use Rattle.loop_model.proofs.LegalLaws.{IsLegal-join, made_count_from_after}
use Rattle.loop_model.proofs.NumberLaws.{AreNumbered-join}
use Rattle.loop_model.proofs.SleepLaws.{wakes-listed, is_sound_sleep-listed}
use Rattle.message_slot.specs.Letter.{Letter, post_of, letter_with_number}
use Rattle.queue_state.specs.declared.answers.Posted.{Posted}
use Rattle.queue_state.specs.declared.answers.Posted.TheVariants as posted
use Rattle.queue_state.specs.declared.answers.Nexted.{Nexted}
use Rattle.queue_state.specs.declared.answers.Nexted.TheVariants as nexted
use Rattle.queue_state.specs.declared.answers.BarrierPosted.{BarrierPosted}
use Rattle.queue_state.specs.declared.answers.BarrierPosted.TheVariants as barred
use Rattle.queue_state.specs.declared.answers.BarrierGone.{BarrierGone}
use Rattle.queue_state.specs.declared.answers.BarrierGone.TheVariants as gone
use Rattle.queue_state.specs.declared.answers.Taking.{Taking}
use Rattle.queue_state.specs.declared.answers.Taking.TheVariants as taking
use Rattle.queue_state.specs.declared.answers.Quitting.{Quitting}
use Rattle.queue_state.specs.declared.answers.Quitting.TheVariants as quitting
use Rattle.queue_state.specs.declared.answers.Advancing.{Advancing}
use Rattle.queue_state.specs.declared.answers.Advancing.TheVariants as advancing
use Rattle.queue_state.specs.declared.answers.Halting.{Halting}
use Rattle.queue_state.specs.declared.answers.Halting.TheVariants as halting
use Rattle.queue_state.specs.Queue.{Queue, IsSound, entry_of, entered, moment_at, time_of, has_match, is_idle_at}
use Rattle.queue_state.specs.Ended.{ended, left}
use Rattle.queue_state.specs.Calls.{Posts, PostsBarrier, Unbars, Takes, Quits, Looks, Advances, Halts, Waits, IsDue, Replies, wakes_at, with_message}
use Rattle.queue_state.specs.Looks.{as_barrier, is_idle}
use Rattle.shared_queue.specs.Whole.{Leave, whole_queue}

pub zeros : (n : ℕ) → length {A = ℕ} (replicate n 0) ≡ n
zeros zero = refl
zeros (suc n) = ap suc (zeros n)

module _ {H K : Type 0} (before : List Entry) (x : Queue H K) (l : Leave x.setting before x.start) where
  abbrev nothing : Base
  nothing = empty_base x.setting.senders

  -- both have left the same
  pub rest : after nothing (before ++ x.entries) ≡ after x.start x.entries
  rest = sym (after-after nothing before x.entries) ∙ ap (λ b. after b x.entries) (sym l.left)

  pub answers_alike : (c : Call) → answer x.setting nothing (before ++ x.entries) c ≡ answer x.setting x.start x.entries c
  answers_alike c = answer-after x.setting nothing (before ++ x.entries) c ∙ (ap (λ b. listed_answer x.setting b c) rest ∙ sym (answer-after x.setting x.start x.entries c))

  wakes_alike : (e : Entry) → wakes x.blocked nothing (before ++ x.entries) e ≡ wakes x.blocked x.start x.entries e
  wakes_alike e = wakes-listed x.blocked nothing (before ++ x.entries) e ∙ (ap (λ b. listed_wakes x.blocked b e.call e.reply) rest ∙ sym (wakes-listed x.blocked x.start x.entries e))

  pub time_alike : clock nothing (before ++ x.entries) ≡ clock x.start x.entries
  unfolding after
  time_alike = ap (λ (b : Base). b.time) rest

  over_alike : is_over nothing (before ++ x.entries) ≡ is_over x.start x.entries
  unfolding after
  over_alike = ap (λ (b : Base). b.disposed || b.halted) rest

  quit_alike : quit_place nothing (before ++ x.entries) ≡ quit_place x.start x.entries
  unfolding after
  quit_alike = ap (λ (b : Base). b.quit) rest

  live_alike : live_in_order nothing (before ++ x.entries) ≡ live_in_order x.start x.entries
  unfolding after
  live_alike = ap (λ (b : Base). b.items) rest

  first_alike : first_eligible nothing (before ++ x.entries) ≡ first_eligible x.start x.entries
  first_alike = first_eligible-listed nothing (before ++ x.entries) ∙ (ap first_listed live_alike ∙ sym (first_eligible-listed x.start x.entries))

  pick_alike : (now : ℕ) → pick nothing (before ++ x.entries) now ≡ pick x.start x.entries now
  pick_alike now = pick-listed nothing (before ++ x.entries) now ∙ (ap (λ q. pick_listed q now) live_alike ∙ sym (pick-listed x.start x.entries now))

  pub match_alike : (f : Filter) → has_match (whole_queue before x) f ≡ has_match x f
  match_alike f = list_any-listed (matches f) nothing (before ++ x.entries) ∙ (ap (list_any (matches f)) live_alike ∙ sym (list_any-listed (matches f) x.start x.entries))

  moment_alike : (now : ℕ) → moment_at (whole_queue before x) now ≡ moment_at x now
  moment_alike now = ap (λ (t : ℕ). if x.setting.lockstep then t else max now t) time_alike

  pub idle_alike : (now : ℕ) → is_idle_at (whole_queue before x) now ≡ is_idle_at x now
  idle_alike now = ap (λ (t : ℕ). is_idle t x.messages) (moment_alike now)

  made_alike : (s : ℕ) → s < x.setting.senders → made_count nothing (before ++ x.entries) s ≡ made_count x.start x.entries s
  made_alike s below =
      let less : s < length nothing.made = omega (arith, zeros x.setting.senders) in
      sym (made_count_from_after nothing before x.entries s less) ∙ ap (λ (b : Base). made_count b x.entries s) (sym l.left)

  -- the state is sound over its whole history
  pub whole_sound : IsSound x → IsSound (whole_queue before x)
  whole_sound sound =
      let e : Base = nothing in
      record {
        legal = IsLegal-join x.setting e before x.entries l.legal (subst (λ (b : Base). IsLegal x.setting b x.entries) l.left sound.legal);
        numbered = AreNumbered-join x.setting e before x.entries (zeros x.setting.senders) l.numbered (subst (λ (b : Base). AreNumbered x.setting b x.entries) l.left sound.numbered);
        live = sound.live ∙ sym live_alike;
        sleep = is_sound_sleep-listed x.blocked x.woken x.deadline e (before ++ x.entries) ∙ (ap (λ b. listed_sleep x.blocked x.woken x.deadline b) rest ∙ (sym (is_sound_sleep-listed x.blocked x.woken x.deadline x.start x.entries) ∙ sound.sleep));
      }

  module _ (s : ℕ) (below : s < x.setting.senders) where
    entry_alike : (c : Call) (r : Reply) → entry_of (whole_queue before x) s c r ≡ entry_of x s c r
    entry_alike c r = λ i. record { sender = s; seq = made_alike s below i; call = c; reply = r }

    -- one more entry of either
    pub entered_alike : (c : Call) (r : Reply) → whole_queue before (entered x s c r) ≡ entered (whole_queue before x) s c r
    entered_alike c r =
        let es : before ++ (x.entries ++ entry_of x s c r ∷ []) ≡ (before ++ x.entries) ++ entry_of (whole_queue before x) s c r ∷ [] =
        sym (append_assoc before x.entries (entry_of x s c r ∷ [])) ∙ ap (λ (e : Entry). (before ++ x.entries) ++ e ∷ []) (sym (entry_alike c r)) in
        ap (λ (l : List Entry). record x { start = nothing; entries = l }) es

    woke : (c : Call) (r : Reply) → wakes_at x s c r ≡ wakes_at (whole_queue before x) s c r
    woke c r = sym (wakes_alike (entry_of x s c r)) ∙ ap (wakes x.blocked nothing (before ++ x.entries)) (sym (entry_alike c r))

    replies : (c : Call) (r : Reply) → Replies x c r → Replies (whole_queue before x) c r
    replies c r p = answers_alike c ∙ p

    -- the queue that is left, with these messages and this sleep
    abbrev with_rest : List (Letter K) → Bool → Bool → Queue H K → Queue H K
    with_rest ms blocked woken q = record q { messages = ms; blocked = blocked; woken = woken }

    leaves : (c : Call) (r : Reply) (ms : List (Letter K)) (b w : Bool) (y : Queue H K) → y ≡ with_rest ms b w (entered x s c r) → whole_queue before y ≡ with_rest ms b w (entered (whole_queue before x) s c r)
    leaves c r ms b w y is = ap (whole_queue before) is ∙ ap (with_rest ms b w) (entered_alike c r)

    pub posts_whole : (y : Queue H K) (m : Letter K) (r : Posted K H) → Posts x s m r y → Posts (whole_queue before x) s m r (whole_queue before y)
    posts_whole y m (posted.Accepted n wake) p = (replies _ _ p.0, p.1 ∙ woke (Post (post_of m.item)) (Accepted n), leaves (Post (post_of m.item)) (Accepted n) (with_message (letter_with_number n m) x.messages) x.blocked (x.woken || wake) y p.2)
    posts_whole y m (posted.Refused place node) p = (replies _ _ p.0, p.1, leaves (Post (post_of m.item)) (Refused place) x.messages x.blocked x.woken y p.2)
    posts_whole y m (posted.NoMemory node) p = (p.0, ap (whole_queue before) p.1)

    pub unbars_whole : (y : Queue H K) (t : ℕ) (r : BarrierGone K H) → Unbars x s t r y → Unbars (whole_queue before x) s t r (whole_queue before y)
    unbars_whole y t (gone.Unbarriered node wake) p = (replies _ _ p.0, p.1, p.2 ∙ woke (Unbarrier t) Unbarriered, leaves (Unbarrier t) Unbarriered (left (Unbarrier t) Unbarriered x.messages) x.blocked (x.woken || wake) y p.3)
    unbars_whole y t gone.NotPosted p = (replies _ _ p.0, leaves (Unbarrier t) NotPosted x.messages x.blocked x.woken y p.1)
    unbars_whole y t gone.NoMemory p = ap (whole_queue before) p

    pub takes_whole : (y : Queue H K) (f : Filter) (r : Taking K H) → Takes x s f r y → Takes (whole_queue before x) s f r (whole_queue before y)
    takes_whole y f (taking.Removed list) p = (replies _ _ p.0, p.1, leaves (Remove f) (Removed (length list)) (left (Remove f) (Removed (length list)) x.messages) x.blocked x.woken y p.2)
    takes_whole y f taking.NoMemory p = ap (whole_queue before) p

    pub advances_whole : (y : Queue H K) (now : ℕ) (r : Advancing) → Advances x s now r y → Advances (whole_queue before x) s now r (whole_queue before y)
    advances_whole y now advancing.Advanced p = (replies _ _ p.0, leaves (Advance now) Advanced x.messages x.blocked x.woken y p.1)
    advances_whole y now advancing.Over p = (over_alike ∙ p.0, ap (whole_queue before) p.1)
    advances_whole y now (advancing.Reached time) p = (over_alike ∙ p.0, subst (λ t. now ≤ t) (sym time_alike) p.1, p.2 ∙ sym time_alike, ap (whole_queue before) p.3)
    advances_whole y now (advancing.NotDrained n) p = (
      over_alike ∙ p.0,
      subst (λ t. t < now) (sym time_alike) p.1,
      subst (λ t. IsDue (whole_queue before x) t n) (sym time_alike) (ap (option_and_then number_of) (pick_alike (time_of x)) ∙ p.2),
      ap (whole_queue before) p.3,
    )
    advances_whole y now advancing.NoMemory p = ap (whole_queue before) p

    -- the calls that use a moment use the same one
    module _ (now : ℕ) where
      abbrev at : ℕ
      at = moment_at x now

      abbrev whole_at : ℕ
      whole_at = moment_at (whole_queue before x) now

      over_moment : (P : ℕ → Type 0) → P at → P whole_at
      over_moment P p = subst P (sym (moment_alike now)) p

      pub bars_whole : (y : Queue H K) (m : Letter K) (r : BarrierPosted K H) → PostsBarrier x s now m r y → PostsBarrier (whole_queue before x) s now m r (whole_queue before y)
      bars_whole y m (barred.Token t) p = (
        over_moment (λ n. Replies (whole_queue before x) (Barrier n) (Token t)) (replies _ _ p.0),
        over_moment (λ n. whole_queue before y ≡ record (entered (whole_queue before x) s (Barrier n) (Token t)) { messages = with_message (as_barrier t n m) x.messages })
            (leaves (Barrier at) (Token t) (with_message (as_barrier t at m) x.messages) x.blocked x.woken y p.1),
      )
      bars_whole y m (barred.NoMemory node) p = (p.0, ap (whole_queue before) p.1)

      pub quits_whole : (y : Queue H K) (safe : Bool) (r : Quitting K H) → Quits x s safe now r y → Quits (whole_queue before x) s safe now r (whole_queue before y)
      quits_whole y safe (quitting.Done list) p = (
        over_moment (λ n. Replies (whole_queue before x) (Quit safe n) QuitDone) (replies _ _ p.0),
        over_moment (λ n. list ≡ ended (Quit safe n) QuitDone x.messages) p.1,
        over_moment (λ n. whole_queue before y ≡ record (entered (whole_queue before x) s (Quit safe n) QuitDone) { messages = left (Quit safe n) QuitDone x.messages; woken = true })
            (leaves (Quit safe at) QuitDone (left (Quit safe at) QuitDone x.messages) x.blocked true y p.2),
      )
      quits_whole y safe (quitting.AlreadyQuit place) p = (
        over_moment (λ n. Replies (whole_queue before x) (Quit safe n) (AlreadyQuit place)) (replies _ _ p.0),
        over_moment (λ n. whole_queue before y ≡ entered (whole_queue before x) s (Quit safe n) (AlreadyQuit place)) (leaves (Quit safe at) (AlreadyQuit place) x.messages x.blocked x.woken y p.1),
      )
      quits_whole y safe quitting.NotAllowed p = (
        over_moment (λ n. Replies (whole_queue before x) (Quit safe n) NotAllowed) (replies _ _ p.0),
        over_moment (λ n. whole_queue before y ≡ entered (whole_queue before x) s (Quit safe n) NotAllowed) (leaves (Quit safe at) NotAllowed x.messages x.blocked x.woken y p.1),
      )
      quits_whole y safe quitting.NoMemory p = (ap (λ o. x.setting.main || is_some o) quit_alike ∙ p.0, ap (whole_queue before) p.1)

      waits_whole : Waits x at → Waits (whole_queue before x) whole_at
      waits_whole p = (over_alike ∙ p.0, over_moment (λ n. pick nothing (before ++ x.entries) n ≡ None) (pick_alike at ∙ p.1), quit_alike ∙ p.2)

      pub looks_whole : (y : Queue H K) (idle : Bool) (r : Nexted K H) → Looks x s now idle r y → Looks (whole_queue before x) s now idle r (whole_queue before y)
      looks_whole y idle (nexted.Taken n then_ node) p = (p.0 ∙ sym (moment_alike now), replies _ _ p.1, p.2, leaves (Next then_) (Dispatched n) (left (Next then_) (Dispatched n) x.messages) false x.woken y p.3)
      looks_whole y idle nexted.Idle p = (waits_whole p.0, p.1, over_moment (λ n. is_idle n x.messages ≡ true) p.2, ap (whole_queue before) p.3)
      looks_whole y idle (nexted.Wait until) p = (
        waits_whole p.0,
        over_moment (λ n. (idle ≡ true) → is_idle n x.messages ≡ false) p.1,
        p.2 ∙ ap (option_map when_of) (sym first_alike),
        ap (whole_queue before) p.3,
      )
      looks_whole y idle (nexted.End list) p = (
        over_moment (λ n. Replies (whole_queue before x) (Next n) Disposed) (replies _ _ p.0),
        p.1,
        over_moment (λ n. whole_queue before y ≡ record (entered (whole_queue before x) s (Next n) Disposed) { messages = [] }) (leaves (Next at) Disposed [] x.blocked x.woken y p.2),
      )
      looks_whole y idle nexted.Over p = (over_alike ∙ p.0, ap (whole_queue before) p.1)

      pub halts_whole : (y : Queue H K) (r : Halting) → Halts x s now r y → Halts (whole_queue before x) s now r (whole_queue before y)
      halts_whole y halting.Halted p = (
        over_moment (λ n. Replies (whole_queue before x) (Halt n) Halted) (replies _ _ p.0),
        over_moment (λ n. whole_queue before y ≡ entered (whole_queue before x) s (Halt n) Halted) (leaves (Halt at) Halted x.messages x.blocked x.woken y p.1),
      )
      halts_whole y halting.Over p = (over_alike ∙ p.0, ap (whole_queue before) p.1)
      halts_whole y (halting.NotDrained n) p = (
        over_alike ∙ p.0,
        over_moment (λ t. IsDue (whole_queue before x) t n) (ap (option_and_then number_of) (pick_alike at) ∙ p.1),
        ap (whole_queue before) p.2,
      )
