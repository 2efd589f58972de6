-- What a looper has come to, told by what it works with: the calls and the asks of its choreographer that its acts cause are made, and
-- its gauges, its barrier and its rule counts stand as its acts lead to.
use Rattle.std.specs.Prelude.{◌≡◌, ◌≢◌, ◌<◌, ◌≤◌, ◌==◌, ◌||◌, ◌&&◌, ℕ, Bool, true, false, not, cond, All, List, [], ◌∷◌, ◌++◌, map, length, slice_get}
use Rattle.std.specs.Prelude.{slice_set, drop}
use Rattle.std.specs.Prelude.{slice_index_or, Option, Some, None, is_some, IsSomeAnd, if◌then◌else◌, ◌+◌, ◌/◌}
use Rattle.std.specs.List.{Contains, filter_map, list_any}
use Rattle.std.specs.Option.{option_map, option_map_or}
use mathlib.Core.List.{IsPrefix}
use Rattle.loop_model.specs.declared.post.Post.{Post as PostData}
use Rattle.loop_model.specs.declared.call.Call.{Call}
use Rattle.loop_model.specs.declared.call.Call.TheVariants.{Post, Next}
use Rattle.loop_model.specs.declared.entry.Entry.{Entry}
use Rattle.loop_model.specs.Base.{empty_base}
use Rattle.loop_model.specs.Answers.{clock}
use Rattle.loop_model.specs.declared.journal.Act.{Act}
use Rattle.loop_model.specs.declared.journal.Act.TheVariants.{Vsync, Paint}
use Rattle.loop_model.specs.declared.journal.Journal.{Journal}
use Rattle.frame_phases.specs.declared.entry.FrameEntry.{FrameEntry}
use Rattle.frame_phases.specs.Frames.{lawful}
use Rattle.frame_phases.specs.Pulses.{is_pulse_if_any, comes_after_if_any}
use Rattle.dash_script.specs.declared.script.GaugeLine.{GaugeLine}
use Rattle.dash_script.specs.declared.script.Rule.{Rule}
use Rattle.dash_script.specs.declared.script.Script.{Script}
use Rattle.dash_script.specs.Causes.{phase_count}
use Rattle.dash_script.specs.Reading.{HasText}
use Rattle.looper_run.specs.Holding.{Sender}
use Rattle.choreographer.specs.declared.view.Constants.{Constants}
use Rattle.choreographer.specs.Known.{Pass, SeesQuietly, IfAlone}
use Rattle.choreographer.specs.Turn.{has_later}
use Rattle.choreographer.specs.Calls.{latest_stamp, WasWanted}
use Rattle.choreographer.specs.declared.host.HostSent.TheVariants as host
use Rattle.choreographer.specs.declared.hosted.Pulse.{Pulse}
use Rattle.run_model.specs.Planned.{Makes, AreFor, entries_by, looper_of, frame_message, frame_due, sender_count}
use Rattle.run_model.specs.AskedSoFar.{tokens_in}
use Rattle.run_model.specs.Control.{Timing, At, InBlock, Exactly, AnyTime}
use Rattle.run_model.specs.Loopers.{LooperState, SentCall, first_looper, starts_frame, after_dispatch, fires, reaction, ActsLead, IsSent, pulse_stamp}
use Rattle.run_model.specs.Loopers.{has_frames, pulses_come_first, GaugeState}
use Rattle.run_model.specs.Parts.{sent_on}
use Rattle.run_model.specs.FrameRecords.{millis_up, nanos_of, is_begin, frame_ids, is_frame_from, has_stamp, place_after}
use Rattle.run_model.specs.FrameRecords.{FrameAsk, Posts, Removes, Begins, Takes, as_told}
use Rattle.dash_hall.specs.declared.kit.Kit.{Kit}
use Rattle.dash_loopers.specs.declared.view_root.Gauge.{Gauge as ViewGauge}
use Rattle.dash_loopers.specs.declared.view_root.Painted.{Painted}
use Rattle.dash_loopers.specs.declared.view_root.ViewRoot.{ViewRoot}
use Rattle.dash_loopers.specs.declared.player.Parts.{Parts}
use Rattle.dash_loopers.specs.declared.looper.StageLooper.{StageLooper}
use Rattle.dash_hall.specs.Growth.{own}
use Rattle.dash_hall.specs.Hosts.{pass_asks}
use Rattle.dash_loopers.specs.Players.{PlaceWithout}
use Rattle.dash_loopers.specs.PulsesFirst.{TellsPulsesFirst}
use Rattle.dash_loopers.specs.Loopers.{is_given_up, calls_among, IsSoundOn, goes_to_rules}
pub use Rattle.dash_loopers.specs.Loopers.{is_disposal}

-- ---- how a view root stands

-- a gauge as it stands
abbrev pub standing : ViewGauge → GaugeState
standing g = record { value = g.value; target = g.target; animating = g.animating }

-- what stays the same in a gauge: whether it is the looper's own, and its step
abbrev pub gauge_fixed : ViewGauge → Bool × ℕ
gauge_fixed g = (g.own, g.step)

-- the same, by the gauge's line
abbrev pub fixed_by : Script → ℕ → GaugeLine → Bool × ℕ
fixed_by s q line = (looper_of s line.handler == q, line.step)

-- a token is kept exactly where a traversal is under way, and it is the one that the looper's barrier of this number was answered
abbrev pub IsBarrierOf : List ℕ → Option ℕ → Option ℕ → Type 0
IsBarrierOf tokens None None = Unit {0}
IsBarrierOf tokens (Some k) (Some token) = slice_get tokens k ≡ Some token
IsBarrierOf tokens _ _ = ⊥

-- what was painted, as an act
abbrev pub paint_of : Painted → Act
paint_of p = Paint p.gauge p.value

-- what a gauge of this number is painted as, where it is the looper's own
abbrev pub paint_of_gauge : ℕ × ViewGauge → List Act
paint_of_gauge (g, v) = if v.own then Paint g v.value ∷ [] else []

-- the view root of looper q stands as the state says, where the looper's barriers were answered these tokens
pub record IsRootOf (s : Script) (q : ℕ) (tokens : List ℕ) (a : LooperState) (root : ViewRoot) : Type 0 where
  pub edition : root.edition ≡ s.edition
  pub gauges : map standing root.gauges.items ≡ a.gauges
  pub lines : map gauge_fixed root.gauges.items ≡ map (fixed_by s q) s.gauges
  pub barrier : IsBarrierOf tokens a.barrier root.barrier
  pub barriers : a.barriers ≡ length tokens
  pub painted : map paint_of root.painted.items ≡ a.painted

-- ---- what a step keeps

-- the entries that a sender made, but the looks that disposed of the queue
abbrev pub calls_in : ℕ → List Entry → List Entry
calls_in sender es = calls_among (entries_by sender es)

-- the same, by its poster
abbrev pub calls_of : Sender → List Entry
calls_of p = calls_in p.sender p.view.seen

-- the pass asked for just these, in order, as it is told in the mode: in free mode when each was to be is left open
abbrev pub PassHasAsked : Bool → Pass → List FrameAsk → Type 0
PassHasAsked lockstep p asks = map (as_told lockstep) (pass_asks p) ≡ map (as_told lockstep) asks

-- the looper made these entries on its own queue, its pass of its choreographer asked for what the state asks, and its view root stands as the state says
pub record IsShown (lockstep : Bool) (s : Script) (q : ℕ) (made : List Entry) (pass : Pass) (root : ViewRoot) (a : LooperState) : Type 0 where
  pub calls : AreFor IsSent [] (sent_on q a.sent) made
  pub asked : PassHasAsked lockstep pass a.asked
  pub stands : IsRootOf s q (tokens_in made) a root

-- on each other queue the calls that the state tells were made; the posters of the others stand in order
abbrev pub AreMadeElsewhere : ℕ → List Sender → LooperState → Type 0
AreMadeElsewhere q others a =
    (k j : ℕ) (d : Sender) → PlaceWithout q k j → j < length others → AreFor IsSent [] (sent_on k a.sent) (own (slice_index_or others j d))

-- all that the state says is so, of the looper's own queue, of the others, and of its rule counts, of which there are as many as rules
pub record IsPlayed (lockstep : Bool) (s : Script) (q : ℕ) (made : List Entry) (parts : Parts) (a : LooperState) : Type 0 where
  pub shown : IsShown lockstep s q made parts.frames parts.root a
  pub elsewhere : AreMadeElsewhere q parts.others.items a
  pub fired : parts.fired.items ≡ a.fired
  pub counts : length parts.fired.items ≡ length s.rules

-- a step of the view root: whatever state it stood at, it stands now at what the step makes of that
abbrev pub StepsRoot : Bool → Script → ℕ → (LooperState → LooperState) → List Entry → Pass → ViewRoot → List Entry → Pass → ViewRoot → Type 0
StepsRoot lockstep s q step made pass root made' pass' root' =
    HasText s → (a : LooperState) → IsShown lockstep s q made pass root a → IsShown lockstep s q made' pass' root' (step a)

-- the same of all that a looper has, in each mode
abbrev pub Plays : Script → ℕ → (LooperState → LooperState) → List Entry → Parts → List Entry → Parts → Type 0
Plays s q step made parts made' parts' =
    (lockstep : Bool) → HasText s → (a : LooperState) → IsPlayed lockstep s q made parts a → IsPlayed lockstep s q made' parts' (step a)

-- a run in this mode may tell what is done at this moment as done at that time: in lockstep the two are one
abbrev pub MayTell : Bool → ℕ → ℕ → Type 0
MayTell lockstep now at = lockstep ≡ true → at ≡ now

-- a step of all that a looper has at this moment, in each mode, told at each time that a run may tell of it
abbrev pub PlaysAt : Script → ℕ → ℕ → (ℕ → LooperState → LooperState) → List Entry → Parts → List Entry → Parts → Type 0
PlaysAt s q now step made parts made' parts' =
    HasText s → (lockstep : Bool) (at : ℕ) → MayTell lockstep now at → (a : LooperState)
    → IsPlayed lockstep s q made parts a → IsPlayed lockstep s q made' parts' (step at a)

-- and so it may of what is done at moments that pass the test: in lockstep they are that time
abbrev pub MayTellAll : Bool → (ℕ → Bool) → ℕ → Type 0
MayTellAll lockstep is_moment at = lockstep ≡ true → (n : ℕ) → is_moment n ≡ true → n ≡ nanos_of at

-- it may tell so of a message's delivery at this moment, and of its frame: what the rules take is told at the moment itself
pub record MayTellDelivery (lockstep : Bool) (q : ℕ) (m : PostData) (now : ℕ) (is_moment : ℕ → Bool) (at : ℕ) : Type 0 where
  pub rules : goes_to_rules q m ≡ true → at ≡ now
  pub time : MayTell lockstep now at
  pub frame : MayTellAll lockstep is_moment at

-- all but the rule counts is as before
abbrev pub AreAllButCounts : Parts → Parts → Type 0
AreAllButCounts parts parts' = (parts'.others ≡ parts.others) × (parts'.frames ≡ parts.frames) × (parts'.root ≡ parts.root) × (parts'.passed ≡ parts.passed)
    × (parts'.awaits ≡ parts.awaits)

-- the count at this place is below the limit, and rises by one, or all is as before
abbrev pub FiresAt : ℕ → ℕ → Parts → Parts → Bool → Type 0
FiresAt place times parts parts' true =
    (n : ℕ) × (slice_get parts.fired.items place ≡ Some n) × (n < times) × (parts'.fired.items ≡ slice_set parts.fired.items place (n + 1))
    × AreAllButCounts parts parts'
FiresAt place times parts parts' false = (parts' ≡ parts) × ((n : ℕ) → slice_get parts.fired.items place ≡ Some n → times ≤ n)

-- ---- a frame, a message and a pulse

-- one call more
abbrev pub with_call : ℕ → Call → Timing → LooperState → LooperState
with_call queue call timing a = record a { sent = a.sent ++ record { queue = queue; ask = Makes call; reply = None; timing = timing } ∷ [] }

-- the rule at this place, where it fires at the message: it is counted and its own message is sent
abbrev pub rule_met : Script → ℕ → PostData → ℕ → Rule → LooperState → LooperState
rule_met s now m place r a =
    option_map_or (λ n. if fires m r n then record a { fired = slice_set a.fired place (n + 1); sent = a.sent ++ reaction s now r ∷ [] } else a)
    (slice_get a.fired place) a

-- the pass alone delivers the pulses of its choreographer; this is the stamp of the latest one, or 0 before the first, and so it is whether its frame is to
-- begin
pub record HasLatest (p : Pass) (stamp : ℕ) (awaits : Bool) : Type 0 where
  pub key : Constants
  pub constants : p.view.constants ≡ Some key
  pub alone : key.pulses ≡ Some p.number
  pub has : p.view.stamp ≡ stamp
  pub waits : p.view.awaits ≡ cond awaits 1 0

-- whatever the latest pulse was, it is the latest still, and its frame is to begin if it was
abbrev pub KeepsLatest : Pass → Pass → Type 0
KeepsLatest before after = (stamp : ℕ) (awaits : Bool) → HasLatest before stamp awaits → HasLatest after stamp awaits

-- or the latest is now the one that came, where one came, and its frame is to begin
abbrev pub GetsLatest : Pass → Pass → Option ℕ → Type 0
GetsLatest before after came = (stamp : ℕ) (awaits : Bool) → HasLatest before stamp awaits → HasLatest after (latest_stamp came stamp) (is_some came || awaits)

-- whatever the latest pulse was, where its frame was to begin it is to begin no more
abbrev pub EndsLatest : Pass → Pass → Type 0
EndsLatest before after = (stamp : ℕ) → HasLatest before stamp true → HasLatest after stamp false

-- whatever the latest pulse was, the one that came comes after it, where one came, and its frame was not to begin any more
abbrev pub ComesLater : Pass → Option ℕ → Type 0
ComesLater before came = (stamp : ℕ) (awaits : Bool) → HasLatest before stamp awaits
    → (comes_after_if_any stamp came ≡ true) × ((is_some came && awaits) ≡ false)

-- the pulse that came, where one came, is the one that the pass knew to be asked for, if it knew of one
abbrev pub ComesAsAsked : Pass → Option ℕ → Type 0
ComesAsAsked before came = IfAlone before ((stamp : ℕ) → came ≡ Some stamp → before.view.asks ≢ 0 → stamp ≡ before.view.asks)

-- no moment of what the pass has seen is later than this one
abbrev pub HasSeenUpTo : ℕ → Pass → Type 0
HasSeenUpTo t p = has_later t p.view.seen ≡ false

-- where the test is of this moment alone, and the pass that alone delivers pulses had seen no later one, it has seen none; and if a frame was to begin and
-- is to begin no more, one began
abbrev pub RunsInTime : (ℕ → Bool) → Pass → Pass → Option ℕ → Type 0
RunsInTime is_moment before after frame =
    (t stamp : ℕ) (awaits : Bool) → ((n : ℕ) → is_moment n ≡ true → n ≡ t) → HasLatest before stamp awaits → HasSeenUpTo t before
    → HasSeenUpTo t after × (awaits ≡ true → HasLatest after stamp false → is_some frame ≡ true)

-- no frame that the pass has seen begins from this place on
abbrev pub BeginsNoneFrom : ℕ → Pass → Type 0
BeginsNoneFrom place p = list_any is_begin (drop place p.view.seen) ≡ false

-- where the pass alone delivers pulses, and had seen no frame begin from some place on: then it has seen none begin behind the frame that began at this
-- place, or, where none did, from the same place on
abbrev pub BeginsNoneBehind : Pass → Pass → Option ℕ → Type 0
BeginsNoneBehind before after frame =
    IfAlone before ((first : ℕ) → first ≤ length before.view.seen → BeginsNoneFrom first before → BeginsNoneFrom (place_after first frame) after)

-- a pulse of this period came, as it was asked for, later than the latest, whose frame was not to begin any more, and is the latest now; or none came. Where
-- the pass alone delivers pulses, one was wanted since the latest frame, and what the pass has come to see since are postings and removals. The looper awaits
-- its frame where one came, and else as before
pub record IsNextPulse (period : ℕ) (before after : Parts) (came : Option ℕ) : Type 0 where
  pub is_pulse : is_pulse_if_any period came ≡ true
  pub later : ComesLater before.frames came
  pub asked : ComesAsAsked before.frames came
  pub got : GetsLatest before.frames after.frames came
  pub quiet : SeesQuietly before.frames after.frames
  pub wanted : WasWanted before.frames after.frames came
  pub waits : after.awaits ≡ (is_some came || before.awaits)

-- by whatever the frame record comes to, a frame that began has this stamp
abbrev pub IsStampedBy : Pass → Option ℕ → ℕ → Type 0
IsStampedBy after frame stamp = (fs : List FrameEntry) → IsPrefix after.view.seen fs → has_stamp fs frame stamp ≡ true

-- by whatever the frame record comes to, a frame began behind all that the pass had seen before, and its phases ran callbacks of these identities; or none
-- began and none ran
abbrev pub IsFrameBy : ℕ → ℕ → Pass → Pass → Option ℕ → Option (List (List ℕ)) → Type 0
IsFrameBy interval phases before after frame ids = (fs : List FrameEntry) → IsPrefix after.view.seen fs → lawful interval phases fs ≡ true
    → (is_frame_from fs (length before.view.seen) frame ≡ true) × (option_map (frame_ids phases fs) frame ≡ ids)

-- the phases of a frame whose beginning the pass has seen ran callbacks of these identities, or there was no frame; it began with the stamp of the latest
-- pulse. Where the test is of one moment alone, and the pass, which alone delivers pulses, had seen no later one, it has seen none still, and a frame that was
-- to begin and is to begin no more began. It has seen none begin behind that frame
pub record RanFrame (interval phases : ℕ) (is_moment : ℕ → Bool) (before after : Pass) (ids : Option (List (List ℕ))) : Type 0 where
  pub frame : Option ℕ
  pub framed : IsFrameBy interval phases before after frame ids
  pub within : place_after 0 frame ≤ length after.view.seen
  pub grew : IsPrefix before.view.seen after.view.seen
  pub stamped : (stamp : ℕ) (awaits : Bool) → HasLatest before stamp awaits → IsStampedBy after frame stamp
  pub in_time : RunsInTime is_moment before after frame
  pub last : BeginsNoneBehind before after frame

-- where the message starts a frame, no frame of a pulse is to begin any more; else all is as before
pub record AwaitsBehind (q : ℕ) (m : PostData) (parts parts' : Parts) : Type 0 where
  pub waits : parts'.awaits ≡ (parts.awaits && not (starts_frame q m))
  pub latest : (stamp : ℕ) → HasLatest parts.frames stamp parts.awaits → HasLatest parts'.frames stamp parts'.awaits

-- a message was delivered at this moment: its frame, where it began one, was that of a pulse that came; what it called and asked is told at each time that a
-- run may tell of it, and what was painted is told
pub record Delivers (s : Script) (q now : ℕ) (is_moment : ℕ → Bool) (m : PostData) (made made' : List Entry)
    (parts parts' : Parts) (acts acts' : List Act) : Type 0 where
  pub ids : Option (List (List ℕ))
  pub ran : RanFrame s.period (phase_count s.edition) is_moment parts.frames parts'.frames ids
  pub starts : (not (is_some ran.frame) || starts_frame q m) ≡ true
  pub awaited : (not (is_some ran.frame) || parts.awaits) ≡ true
  pub waits : AwaitsBehind q m parts parts'
  pub plays : HasText s → (lockstep : Bool) (at : ℕ) → MayTellDelivery lockstep q m now is_moment at
      → (a : LooperState) → a.painted ≡ [] → IsPlayed lockstep s q made parts a
      → IsPlayed lockstep s q made' parts' (record (after_dispatch s q at ids m a) { painted = [] }) × (acts' ≡ acts ++ (after_dispatch s q at ids m a).painted)

-- the act of a pulse that came, or none
abbrev pub pulse_acts : Option ℕ → List Act
pulse_acts None = []
pulse_acts (Some stamp) = Vsync stamp ∷ []

-- what a looper comes to by a pulse: it sends the frame message, the pulse is the latest, and its frame is to begin
abbrev pub looper_pulsed : ℕ → Option ℕ → LooperState → LooperState
looper_pulsed q None a = a
looper_pulsed q (Some stamp) a =
    record a {
      sent = a.sent
          ++ record { queue = q; ask = Makes (Post (frame_message q 0 0 (stamp / 1000000))); reply = None; timing = Exactly (millis_up stamp) } ∷ [];
      stamp = stamp;
      awaits = true;
    }

-- the time in whole milliseconds by which a pulse that came is due
abbrev pub pulse_time : Option ℕ → ℕ
pulse_time None = 0
pulse_time (Some stamp) = millis_up stamp

-- what came of a pulse: the frame message was sent, unless memory ran out, or no pulse came; its pass asked for nothing
abbrev pub DeliversPulse : Script → ℕ → ℕ → List Entry → List Entry → Parts → Parts → Option Pulse → Type 0
DeliversPulse s q now made made' parts parts' None =
    IsPrefix parts.frames.view.seen parts'.frames.view.seen × (pass_asks parts'.frames ≡ pass_asks parts.frames)
    × Plays s q (looper_pulsed q None) made parts made' parts'
DeliversPulse s q now made made' parts parts' (Some pulse) =
    (pulse.sent ≢ host.NoMemory
    → IsPrefix parts.frames.view.seen parts'.frames.view.seen × (pass_asks parts'.frames ≡ pass_asks parts.frames) × (millis_up pulse.stamp ≤ now)
    × Plays s q (looper_pulsed q (Some pulse.stamp)) made parts made' parts')

-- a pulse of the script's period was delivered and told, or none came, and its pass asked for nothing
pub record Pulses (s : Script) (q now : ℕ) (made made' : List Entry) (parts parts' : Parts) (acts acts' : List Act) : Type 0 where
  pub stamp : Option ℕ
  pub next : IsNextPulse s.period parts parts' stamp
  pub due : pulse_time stamp ≤ now
  pub told : acts' ≡ acts ++ pulse_acts stamp
  pub grew : IsPrefix parts.frames.view.seen parts'.frames.view.seen
  pub asks : pass_asks parts'.frames ≡ pass_asks parts.frames
  pub plays : Plays s q (looper_pulsed q stamp) made parts made' parts'

-- ---- between two acts

-- in a queue's history in lockstep: no moment of what the pass has seen is later than the queue's time, and each pulse of these acts whose message is taken has
-- its frame
pub record HasAllFrames (s : Script) (es : List Entry) (acts : List Act) (p : Pass) (a : LooperState) : Type 0 where
  pub up_to : HasSeenUpTo (nanos_of (clock (empty_base (sender_count s)) es)) p
  pub pulses : length (filter_map pulse_stamp acts) ≡ a.frame_count + (if a.awaits then 1 else 0)

-- the looper's acts lead to this state, by whatever its frame record comes to, and all that the state says is so, as it is told in the mode. The latest pulse
-- of its pass is that of the acts, and its frame is to begin just where they say so; in lockstep each pulse had its frame. Behind the latest frame of the acts
-- its pass has seen none begin
pub record StandsBy (lockstep : Bool) (s : Script) (q sender : ℕ) (es : List Entry) (acts : List Act) (parts : Parts) (a : LooperState) : Type 0 where
  pub led : (fs : List FrameEntry) → IsPrefix parts.frames.view.seen fs → lawful s.period (phase_count s.edition) fs ≡ true
      → ActsLead s q es fs (first_looper s) acts a
  pub place : a.place ≤ length parts.frames.view.seen
  pub last : BeginsNoneFrom a.place parts.frames
  pub settled : a.painted ≡ []
  pub latest_is : HasLatest parts.frames a.stamp a.awaits
  pub awaits_is : parts.awaits ≡ a.awaits
  pub in_time : lockstep ≡ true → IsSoundOn s q es → HasAllFrames s es acts parts.frames a
  pub played : IsPlayed lockstep s q (calls_in sender es) parts a

-- the sender looked at this time, among these entries
abbrev pub HasLookedAt : ℕ → List Entry → ℕ → Type 0
HasLookedAt sender looks time = (e : Entry) × Contains looks e × (e.sender ≡ sender) × (e.call ≡ Next time)

-- a call is timed by a look of the sender among these entries, or it is one on the looper's own queue at this moment; a looper makes no call in a block, and
-- none at an open time
abbrev pub IsTimedBy : ℕ → ℕ → List Entry → ℕ → ℕ → Timing → Type 0
IsTimedBy q sender looks now queue (At time) = HasLookedAt sender looks time
IsTimedBy q sender looks now queue (InBlock time) = ⊥
IsTimedBy q sender looks now queue (Exactly time) = (time ≡ now) × (queue ≡ q)
IsTimedBy q sender looks now queue AnyTime = ⊥

-- this is asked at this time: a callback is due at once, and a frame begins and its phases are taken then; no callback is removed
abbrev pub IsAskedAt : ℕ → FrameAsk → Type 0
IsAskedAt time (Posts phase due id token) = due ≡ frame_due time 0
IsAskedAt time (Removes phase id token) = ⊥
IsAskedAt time (Begins start) = start ≡ nanos_of time
IsAskedAt time (Takes phase moment) = moment ≡ nanos_of time

-- so it is at the time of a look of the sender among these entries
abbrev pub IsAskedBy : ℕ → List Entry → FrameAsk → Type 0
IsAskedBy sender looks x = (time : ℕ) × HasLookedAt sender looks time × IsAskedAt time x

-- the second state has these calls more, each timed so, and asks these more of its choreographer, each at the time of a look of the sender among these entries
pub record GoesOnTo (q sender : ℕ) (looks : List Entry) (now : ℕ) (a b : LooperState) : Type 0 where
  pub more : List SentCall
  pub sent : b.sent ≡ a.sent ++ more
  pub timed : All (λ x. IsTimedBy q sender looks now x.queue x.timing) more
  pub asks : List FrameAsk
  pub asked : b.asked ≡ a.asked ++ asks
  pub asked_then : All (IsAskedBy sender looks) asks

-- where a looper stands between two rounds, and it told no pulse behind a dispatch of its own millisecond
abbrev pub StandsBetweenRounds : Script → StageLooper → LooperState → Type 0
StandsBetweenRounds s l a =
    IsSomeAnd l.parts (λ parts. StandsBy true s l.number l.sender l.looper.held.poster.view.seen l.looper.held.journal.acts parts a)
    × TellsPulsesFirst l.dispatched l.looper.held.journal.acts

-- the looper went on to this state, has seen these entries more, and told no pulse behind a dispatch of its own millisecond, nor a dispatch of a later time
-- than it keeps
pub record ComesTo (s : Script) (q now : ℕ) (a : LooperState) (dispatched sender : ℕ) (seen es : List Entry) (acts : List Act) (parts : Parts) : Type 0 where
  pub state : LooperState
  pub stands : StandsBy true s q sender es acts parts state
  pub looks : List Entry
  pub saw : es ≡ seen ++ looks
  pub on : GoesOnTo q sender looks now a state
  pub first : TellsPulsesFirst dispatched acts

-- in a round at this moment: whatever state the looper stood at when the round began, it has gone on from there
abbrev pub IsPlaying : Script → ℕ → ℕ → StageLooper → ℕ → ℕ → List Entry → List Act → Parts → Type 0
IsPlaying s q now began dispatched sender es acts parts =
    HasText s → (a : LooperState) → StandsBetweenRounds s began a → ComesTo s q now a dispatched sender began.looper.held.poster.view.seen es acts parts

-- the same once the round is over, unless memory ran out
abbrev pub HasPlayed : Script → ℕ → StageLooper → StageLooper → Type 0
HasPlayed s now before after = is_given_up after.last ≡ false → HasText s → (a : LooperState) → StandsBetweenRounds s before a
    → IsSomeAnd after.parts (ComesTo s before.number now a after.dispatched before.sender
    before.looper.held.poster.view.seen after.looper.held.poster.view.seen after.looper.held.journal.acts)

-- ---- by a clock

-- where a looper stands between two loops
abbrev pub StandsBetweenLoops : Script → StageLooper → LooperState → Type 0
StandsBetweenLoops s l a = IsSomeAnd l.parts (λ parts. StandsBy false s l.number l.sender l.looper.held.poster.view.seen l.looper.held.journal.acts parts a)

-- it stands at some state
abbrev pub StandsSomewhere : Script → ℕ → ℕ → List Entry → List Act → Parts → Type 0
StandsSomewhere s q sender es acts parts = (a : LooperState) × StandsBy false s q sender es acts parts a

-- in a loop by a clock: from whatever state it began it has gone on
abbrev pub IsPlayingBy : Script → ℕ → StageLooper → ℕ → List Entry → List Act → Parts → Type 0
IsPlayingBy s q began sender es acts parts =
    HasText s → (a : LooperState) → StandsBetweenLoops s began a → StandsSomewhere s q sender es acts parts

-- the same once the loop is over, unless memory ran out
abbrev pub HasPlayedBy : Script → StageLooper → StageLooper → Type 0
HasPlayedBy s before after = is_given_up after.last ≡ false → HasText s → (a : LooperState) → StandsBetweenLoops s before a
    → IsSomeAnd after.parts (StandsSomewhere s before.number before.sender after.looper.held.poster.view.seen after.looper.held.journal.acts)

-- ---- at the end

-- where a looper stood, told in its mode by its journal and what it worked with
pub record HasLeft (lockstep : Bool) (s : Script) (q : ℕ) (j : Journal) (kit : Kit) (a : LooperState) : Type 0 where
  pub led : (d : Sender) (p : Pass) (fs : List FrameEntry) → IsPrefix (slice_index_or kit.frames.items 0 p).view.seen fs
      → lawful s.period (phase_count s.edition) fs ≡ true
      → ActsLead s q (slice_index_or kit.posters.items q d).view.seen fs (first_looper s) j.acts a
  pub pulses : (d : Sender) → lockstep ≡ true → IsSoundOn s q (slice_index_or kit.posters.items q d).view.seen → has_frames j.acts a ≡ true
  pub pulses_first : lockstep ≡ true → pulses_come_first j.acts ≡ true
  pub settled : a.painted ≡ []
  pub calls : (d : Sender) → AreFor IsSent [] (sent_on q a.sent) (calls_of (slice_index_or kit.posters.items q d))
  pub elsewhere : (k : ℕ) (d : Sender) → k ≢ q → k < length kit.posters.items → AreFor IsSent [] (sent_on k a.sent) (own (slice_index_or kit.posters.items k d))
  pub asked : (p : Pass) → PassHasAsked lockstep (slice_index_or kit.frames.items 0 p) a.asked
