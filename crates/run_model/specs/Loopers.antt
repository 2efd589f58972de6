-- What a looper comes to: its gauges, its traversal, its rules, and the calls and the asks of its choreographer that each act in its journal causes.
use Rattle.std.specs.Prelude.{ℕ, ◌+◌, ◌-◌, ◌==◌, min, Bool, true, false, ◌&&◌, ◌||◌, not, nat_lt, nat_le, List, [], ◌∷◌, ◌++◌, Option, Some, None, is_some, map}
use Rattle.std.specs.Prelude.{fold, slice_get, slice_set, replicate, length, if◌then◌else◌, ◌≡◌, ◌/◌}
use Rattle.std.specs.List.{filter_map, list_all, zip, enumerate_from, range_with_len}
use Rattle.std.specs.Option.{option_map, option_map_or, MatchOption}
use Rattle.loop_model.specs.declared.post.Post.{Post as PostData}
use Rattle.loop_model.specs.declared.call.Call.TheVariants.{Post, Barrier, Next}
use Rattle.loop_model.specs.declared.reply.Reply.{Reply}
use Rattle.loop_model.specs.declared.reply.Reply.TheVariants.{Dispatched, Disposed}
use Rattle.loop_model.specs.Posts.{moment_after, post_at}
use Rattle.loop_model.specs.Dispatches.{act_dispatch}
use Rattle.loop_model.specs.declared.journal.Act.{Act}
use Rattle.loop_model.specs.declared.journal.Act.TheVariants.{Paint, Dispatch, Idle, Event, Vsync}
use Rattle.loop_model.specs.declared.entry.Entry.{Entry}
use Rattle.frame_phases.specs.declared.entry.FrameEntry.{FrameEntry}
use Rattle.frame_phases.specs.Frames.{is_pulse}
use Rattle.frame_phases.specs.Pulses.{comes_after}
use Rattle.dash_script.specs.declared.script.Rule.{Rule}
use Rattle.dash_script.specs.declared.script.Script.{Script}
use Rattle.dash_script.specs.Causes.{phase_count}
use Rattle.run_model.specs.FrameRecords.{TimedAsk, asked_in_rounds, lines_ask_then, millis_up, FrameAsk, Posts, frame_ids, is_frame_from, has_stamp}
use Rattle.run_model.specs.FrameRecords.{was_wanted, place_after, frames_after, Begins, Takes, nanos_of}
use Rattle.run_model.specs.Planned.{Ask, Makes, Unbars, bare_call, call_of, looper_of, gauge_line, gauge_looper, frame_handler, animation_id, animation_phase}
use Rattle.run_model.specs.Planned.{traversal_id, traversal_phase, sent_by, frame_due, frame_message, lines_of}
use Rattle.run_model.specs.Control.{Timing, At, Exactly, AnyTime}

pub record GaugeState : Type 0 where
  pub value : ℕ
  pub target : ℕ
  pub animating : Bool

-- a call that a looper makes
pub record SentCall : Type 0 where
  pub queue : ℕ
  pub ask : Ask
  -- its reply, where that is told
  pub reply : Option Reply
  pub timing : Timing

-- what a looper has come to
pub record LooperState : Type 0 where
  -- all gauges of the script; only its own ever change
  pub gauges : List GaugeState
  -- the number among its own barriers of the one that the traversal under way has posted
  pub barrier : Option ℕ
  -- how many barriers it has posted
  pub barriers : ℕ
  -- how often each rule has fired
  pub fired : List ℕ
  -- the calls that it was to make so far, and what it was to ask of its choreographer, each in order
  pub sent : List SentCall
  pub asked : List FrameAsk
  -- what it has painted since its last act of another kind
  pub painted : List Act
  -- the stamp of the latest pulse that came, or 0 before the first one
  pub stamp : ℕ
  -- whether a pulse came whose frame message it hasn't taken yet
  pub awaits : Bool
  -- the place in its frame record from which on its next frame may begin
  pub place : ℕ
  -- how many frames its dispatches ran so far
  pub frame_count : ℕ

-- before the first act
abbrev pub first_looper : Script → LooperState
first_looper s = record {
  gauges = replicate (length s.gauges) (record { value = 0; target = 0; animating = false });
  barrier = None;
  barriers = 0;
  fired = replicate (length s.rules) 0;
  sent = [];
  asked = [];
  painted = [];
  stamp = 0;
  awaits = false;
  place = 0;
  frame_count = 0;
}

-- one call more, at a moment; one ask more of its choreographer; one frame callback more, due at once; and another state of a gauge
abbrev pub and_sends : ℕ → ℕ → Ask → LooperState → LooperState
and_sends queue now ask a = record a { sent = a.sent ++ record { queue = queue; ask = ask; reply = None; timing = At now } ∷ [] }

abbrev pub and_asks : FrameAsk → LooperState → LooperState
and_asks x a = record a { asked = a.asked ++ x ∷ [] }

abbrev pub and_posts_frame : ℕ → ℕ → ℕ → LooperState → LooperState
and_posts_frame now phase id a = and_asks (Posts phase (frame_due now 0) id None) a

abbrev pub with_gauge : ℕ → GaugeState → LooperState → LooperState
with_gauge g x a = record a { gauges = slice_set a.gauges g x }

-- a traversal is requested: a barrier and the traversal's callback, unless one is under way
abbrev pub traversal_requested : Script → ℕ → ℕ → LooperState → LooperState
traversal_requested s q now a =
    if is_some a.barrier then a
    else and_posts_frame now (traversal_phase s) traversal_id
    (and_sends q now (Makes (Barrier 0)) (record a { barrier = Some a.barriers; barriers = a.barriers + 1 }))

-- a message with an object sets the target of that gauge, which begins to animate where it stands still elsewhere; nothing where that is no gauge of the looper
abbrev pub target_set : Script → ℕ → ℕ → ℕ → ℕ → GaugeState → LooperState → LooperState
target_set s q now g target x a =
    if x.animating || x.value == target then with_gauge g (record x { target = target }) a
    else traversal_requested s q now
    (and_posts_frame now animation_phase (animation_id g) (with_gauge g (record { value = x.value; target = target; animating = true }) a))

abbrev pub object_set : Script → ℕ → ℕ → ℕ → ℕ → LooperState → LooperState
object_set s q now g target a =
    if gauge_looper s g == q then option_map_or (λ x. target_set s q now g target x a) (slice_get a.gauges g) a else a

-- the callback of a gauge that is animating moves it by a step towards its target, but not past it, requests a traversal, and posts itself again or stops there
abbrev pub stepped_towards : ℕ → ℕ → ℕ → ℕ
stepped_towards step target value = if nat_le value target then min (value + step) target else value - min step (value - target)

abbrev pub gauge_moved : Script → ℕ → ℕ → ℕ → GaugeState → LooperState → LooperState
gauge_moved s q now g x a =
    let value = stepped_towards (gauge_line s g).step x.target x.value in
    if value == x.target then traversal_requested s q now (with_gauge g (record { value = value; target = x.target; animating = false }) a)
    else and_posts_frame now animation_phase (animation_id g) (traversal_requested s q now (with_gauge g (record x { value = value }) a))

-- the traversal's callback removes the barrier and paints the looper's gauges with their values, by rising number, where one is under way
abbrev pub paints : Script → ℕ → List GaugeState → List Act
paints s q gauges = filter_map (λ (g, x). if gauge_looper s g == q then Some (Paint g x.value) else None) (enumerate_from 0 gauges)

abbrev pub traversal_ran : Script → ℕ → ℕ → LooperState → LooperState
traversal_ran s q now a =
    option_map_or (λ k. and_sends q now (Unbars k) (record a { barrier = None; painted = a.painted ++ paints s q a.gauges })) a.barrier a

-- a frame callback runs, by its identity
abbrev pub callback_ran : Script → ℕ → ℕ → LooperState → ℕ → LooperState
callback_ran s q now a id =
    if id == traversal_id then traversal_ran s q now a
    else if nat_le 1000000 id then option_map_or (λ x. if x.animating then gauge_moved s q now (id - 1000000) x a else a) (slice_get a.gauges (id - 1000000)) a
    else a

-- a frame runs: it begins, and each phase in order is taken and runs its callbacks, all at the dispatch's time; or there is none
abbrev pub phase_ran : Script → ℕ → ℕ → LooperState → ℕ × List ℕ → LooperState
phase_ran s q now a (phase, ids) = fold (callback_ran s q now) (and_asks (Takes phase (nanos_of now)) a) ids

abbrev pub frame_ran : Script → ℕ → ℕ → Option (List (List ℕ)) → LooperState → LooperState
frame_ran s q now None a = a
frame_ran s q now (Some phases) a = fold (phase_ran s q now) (and_asks (Begins (nanos_of now)) a) (enumerate_from 0 phases)

-- every other message: each rule for it that is not used up fires, in script order, and sends its message, with the delay counted from the dispatch
abbrev pub fires : PostData → Rule → ℕ → Bool
fires m r count = m.handler == r.handler && m.what == r.what && nat_lt count r.times

abbrev pub reaction : Script → ℕ → Rule → SentCall
reaction s now r = record {
  queue = looper_of s r.to_handler;
  ask = Makes (Post (sent_by s r.to_handler r.to_what (moment_after now r.delay)));
  reply = None;
  timing = At now;
}

abbrev pub reacted : Script → ℕ → PostData → LooperState → LooperState
reacted s now m a = record a {
  fired = map (λ (r, n). if fires m r n then n + 1 else n) (zip s.rules a.fired);
  sent = a.sent ++ filter_map (λ (r, n). if fires m r n then Some (reaction s now r) else None) (zip s.rules a.fired);
}

-- the message starts a frame of looper q; and what its dispatch causes, where it runs a frame whose phases run these callbacks, or none
abbrev pub starts_frame : ℕ → PostData → Bool
starts_frame q m = not (is_some m.callback) && m.handler == frame_handler q && m.what == 0

abbrev pub after_dispatch : Script → ℕ → ℕ → Option (List (List ℕ)) → PostData → LooperState → LooperState
after_dispatch s q now phases m a =
    if is_some m.callback then a
    else if m.handler == frame_handler q then (if m.what == 0 then frame_ran s q now phases a else a)
    else option_map_or (λ g. object_set s q now g m.arg a) m.obj (reacted s now m a)

-- the looper takes a message
abbrev pub and_takes : ℕ → ℕ → ℕ → LooperState → LooperState
and_takes q n now a = record a { sent = a.sent ++ record { queue = q; ask = Makes (Next now); reply = Some (Dispatched n); timing = At now } ∷ [] }

-- a dispatch, by its message, at this time: it runs the frame that begins at this place, or none, and what was painted before is told by then
abbrev pub dispatched : Script → ℕ → List FrameEntry → Option ℕ → ℕ → ℕ → LooperState → Option PostData → LooperState
dispatched s q fs frame n now a None = a
dispatched s q fs frame n now a (Some m) = after_dispatch s q now (option_map (frame_ids (phase_count s.edition) fs) frame) m (and_takes q n now (record a {
  painted = [];
  awaits = a.awaits && not (starts_frame q m);
  place = place_after a.place frame;
  frame_count = frames_after a.frame_count frame;
}))

-- what looper q has come to after an act, by its queue's history and its frame record; a dispatch runs the frame that begins at this place, or none
unfoldable pub after_act : Script → ℕ → List Entry → List FrameEntry → Option ℕ → LooperState → Act → LooperState
after_act s q es fs frame a (Dispatch n now route) = record (dispatched s q fs frame n now a (post_at es n)) { painted = [] }
after_act s q es fs frame a (Vsync stamp) = record a {
  sent = a.sent ++ record { queue = q; ask = Makes (Post (frame_message q 0 0 (stamp / 1000000))); reply = None; timing = Exactly (millis_up stamp) } ∷ [];
  stamp = stamp;
  awaits = true;
}
after_act s q es fs frame a (Paint g v) = record a { painted = a.painted ++ Paint g v ∷ [] }
after_act s q es fs frame a (Idle i k) = a
after_act s q es fs frame a (Event f e m) = a

-- a dispatch is of an accepted post, runs a frame only where its message starts one that a pulse awaits, and behind the frames before, that frame has the
-- stamp of the latest pulse, and what was painted just before is what it paints
pub record MayDispatch (s : Script) (q : ℕ) (es : List Entry) (fs : List FrameEntry) (frame : Option ℕ) (a : LooperState) (n now : ℕ) : Type 0 where
  pub accepted : is_some (post_at es n) ≡ true
  pub starts : (not (is_some frame) || option_map_or (starts_frame q) (post_at es n) false) ≡ true
  pub awaited : (not (is_some frame) || a.awaits) ≡ true
  pub place : is_frame_from fs a.place frame ≡ true
  pub stamped : has_stamp fs frame a.stamp ≡ true
  pub painted : (dispatched s q fs frame n now a (post_at es n)).painted ≡ a.painted

-- a pulse comes at a positive multiple of the period, or at the greatest u64, after the pulse before it, only once that one's frame message is taken, and
-- only where it was wanted since the frame before
pub record MayComeAsPulse (s : Script) (fs : List FrameEntry) (a : LooperState) (stamp : ℕ) : Type 0 where
  pub painted : a.painted ≡ []
  pub awaited : a.awaits ≡ false
  pub pulse : is_pulse s.period stamp ≡ true
  pub later : comes_after a.stamp stamp ≡ true
  pub wanted : was_wanted fs a.place stamp ≡ true

-- the act may come next: paints stand nowhere but just before the dispatch that makes them
abbrev pub MayCome : Script → ℕ → List Entry → List FrameEntry → Option ℕ → LooperState → Act → Type 0
MayCome s q es fs frame a (Dispatch n now route) = MayDispatch s q es fs frame a n now
MayCome s q es fs frame a (Paint g v) = frame ≡ None
MayCome s q es fs frame a (Vsync stamp) = (frame ≡ None) × MayComeAsPulse s fs a stamp
MayCome s q es fs frame a _ = (frame ≡ None) × (a.painted ≡ [])

-- the acts lead a looper from one state to another
abbrev pub ActsLead : Script → ℕ → List Entry → List FrameEntry → LooperState → List Act → LooperState → Type 0
ActsLead s q es fs a [] b = a ≡ b
ActsLead s q es fs a (x ∷ xs) b = (frame : Option ℕ) × (MayCome s q es fs frame a x × ActsLead s q es fs (after_act s q es fs frame a x) xs b)

-- the stamp of a pulse; there are as many frames as pulses, but for one whose frame message isn't taken yet
abbrev pub pulse_stamp : Act → Option ℕ
pulse_stamp (Vsync stamp) = Some stamp
pulse_stamp _ = None

abbrev pub has_frames : List Act → LooperState → Bool
has_frames acts a = length (filter_map pulse_stamp acts) == a.frame_count + (if a.awaits then 1 else 0)

-- no pulse of these acts is of this millisecond or an earlier one; and none comes behind a dispatch of its own millisecond or of a later one
abbrev pub pulses_are_later : ℕ → List Act → Bool
pulses_are_later time acts = list_all (λ stamp. nat_lt time (millis_up stamp)) (filter_map pulse_stamp acts)

abbrev pub pulses_come_first : List Act → Bool
pulses_come_first [] = true
pulses_come_first (x ∷ acts) = option_map_or (λ (n, now). pulses_are_later now acts) (act_dispatch x) true && pulses_come_first acts

-- the last call of a looper that is not main: the look for a message that disposes of its queue
abbrev pub closing : ℕ → ℕ → List SentCall
closing q now = if q == 0 then [] else record { queue = q; ask = Makes (Next now); reply = Some Disposed; timing = AnyTime } ∷ []

-- the entry makes the call, with the reply where that is told
pub record IsSent (tokens : List ℕ) (x : SentCall) (e : Entry) : Type 0 where
  pub call : bare_call e.call ≡ call_of tokens x.ask
  pub reply : MatchOption x.reply (Unit {0}) (λ r. e.reply ≡ r)

-- what each asks of a choreographer, and when: a thread by its lines, and its looper by what its acts cause
abbrev pub asked_then : Script → ℕ → LooperState → List (List TimedAsk)
asked_then s q final =
    map (λ thread. lines_ask_then q (lines_of thread s.blocks)) (range_with_len 0 s.threads)
    ++ asked_in_rounds final.asked ∷ []
