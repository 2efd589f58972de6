-- A looper of a script.
use Rattle.std.specs.Prelude.{◌≡◌, List, length, ◌<◌, ◌+◌, ◌==◌, ◌||◌, ◌&&◌, ◌⊎◌, ◌++◌, ◌∷◌, not, filter, ℕ, Bool, true, false, map, slice_get}
use Rattle.std.specs.Prelude.{Option, Some, None, IsSomeAnd, is_some, slice_index_or, ◌≤◌, max, []}
use Rattle.std.specs.List.{remove, insert}
use Rattle.atomic_table.specs.Seated.{TableId}
use Rattle.dash_script.specs.declared.script.Script.{Script}
use Rattle.loop_model.specs.declared.base.Base.{Base}
use Rattle.loop_model.specs.Base.{empty_base}
use Rattle.loop_model.specs.Answers.{Setting, clock, is_over, quit_place}
use Rattle.loop_model.specs.Legal.{IsLegal, AreNumbered}
use Rattle.loop_model.specs.declared.post.Post.{Post as PostData}
use Rattle.loop_model.specs.declared.entry.Entry.{Entry}
use Rattle.loop_model.specs.Entries.{is_next, is_disposed}
use Rattle.shared_queue.specs.Known.{Shared}
use Rattle.looper_run.specs.Holding.{Workplace, workplace, Sender, IsBeside}
use Rattle.looper_run.specs.Round.{RoundBy, is_ended}
use Rattle.looper_run.specs.Asked.{any_heard}
use Rattle.looper_run.specs.Looks.{IsRound}
use Rattle.looper_run.specs.Acts.{taken_messages}
use Rattle.loop_model.specs.Dispatches.{dispatches}
use Rattle.loop_model.specs.declared.journal.Journal.{Journal}
use Rattle.dash_hall.specs.declared.kit.Kit.{Kit}
use Rattle.run_model.specs.Planned.{sender_count, entries_by, frame_handler}
use Rattle.looper_run.specs.declared.looper.Round.{Round}
use Rattle.looper_run.specs.declared.looper.Round.TheVariants as round
use Rattle.looper_run.specs.declared.by_clock.Loop.{Loop}
use Rattle.looper_run.specs.declared.by_clock.Loop.TheVariants as loop
use Rattle.choreographer.specs.Known.{SharedFrames, Pass, IfAlone}
use Rattle.dash_hall.specs.declared.hall.Hall.{Hall}
use Rattle.dash_loopers.specs.declared.player.Parts.{Parts}
use Rattle.dash_loopers.specs.declared.looper.StageLooper.{StageLooper}
use Rattle.frame_phases.specs.declared.entry.FrameEntry.{FrameEntry}
use Rattle.dash_hall.specs.Hearing.{AreKept, PassHasHeard, HasHeardAll}
use Rattle.dash_hall.specs.Kits.{IsHall, badge_of, badge_for, frame_badge_of, frame_badge_for}
use mathlib.Core.List.{IsPrefix}
use Rattle.dash_loopers.specs.declared.view_root.ViewRoot.{ViewRoot}
use Rattle.std.specs.Option.{option_map}
use Rattle.loop_model.specs.Items.{when_of}
use Rattle.loop_model.specs.Pick.{first_eligible, pick}

-- where the looper awaits a pulse's frame, and its pass alone delivers the pulses, the pass knows of one that is to begin
abbrev pub MayAwait : Parts → Type 0
MayAwait parts = parts.awaits ≡ true → IfAlone parts.frames (parts.frames.view.awaits ≡ 1)

-- what a looper has beside its own poster: the posters of the other queues in order, and its pass of its choreographer
pub record ArePartsOf (s : Script) (hall : Hall) (number : ℕ) (parts : Parts) : Type 0 where
  pub others : map badge_of parts.others.items ≡ remove (map (badge_for (s.threads + number)) hall.queues.items) number
  pub frames : (c : SharedFrames) → slice_get hall.choreographers.items number ≡ Some c → frame_badge_of parts.frames ≡ frame_badge_for s.threads c
  pub awaits : MayAwait parts

-- the workplace is the queue of this looper, and the pool of the hall
pub record IsPlaceOf (hall : Hall) (number : ℕ) (w : Workplace) : Type 0 where
  pub queue : (q : Shared TableId) → slice_get hall.queues.items number ≡ Some q → (w.table ≡ q.table) × (w.constants ≡ Some q.constants)
  pub pool : w.pool ≡ hall.pool

-- the number is one of a looper of the script, which has few senders, and the hall is the script's
pub record IsLooperOf (s : Script) (hall : Hall) (number : ℕ) : Type 0 where
  pub few : s.threads + s.loopers < 100
  pub one : number < s.loopers
  pub is_hall : IsHall s hall

-- the setting of a looper's queue, in lockstep or not: main for looper 0 alone
abbrev pub setting_in : Bool → Script → ℕ → Setting
setting_in lockstep s looper = record { main = looper == 0; lockstep = lockstep; senders = sender_count s }

-- the setting in lockstep
abbrev pub setting_for : Script → ℕ → Setting
setting_for s looper = setting_in true s looper

-- the history is one that this looper's queue may have
pub record IsSoundOn (s : Script) (q : ℕ) (es : List Entry) : Type 0 where
  pub legal : IsLegal (setting_for s q) (empty_base (sender_count s)) es
  pub numbered : AreNumbered (setting_for s q) (empty_base (sender_count s)) es

-- a round that found no memory
abbrev pub is_given_up : Round → Bool
is_given_up (round.Drained dispatched until) = false
is_given_up (round.Ended dispatched) = false
is_given_up round.NoMemory = true

-- when the first message is due that no barrier holds back, after a round that ended with a wait; None behind a loop by a clock
abbrev pub until_of : Round → Option ℕ
until_of (round.Drained dispatched until) = until
until_of (round.Ended dispatched) = None
until_of round.NoMemory = None

-- a look that disposed of the queue
abbrev pub is_disposal : Entry → Bool
is_disposal e = is_next e.call && is_disposed e.reply

-- the entries but the looks that disposed of the queue
abbrev pub calls_among : List Entry → List Entry
calls_among es = filter (λ e. not (is_disposal e)) es

-- none of the entries disposed of the queue, or the last one alone did
abbrev pub DisposesLast : List Entry → Type 0
DisposesLast es = (calls_among es ≡ es) ⊎ ((e : Entry) × (es ≡ calls_among es ++ e ∷ []) × (is_disposal e ≡ true))

-- after a round, none of these entries of the looper disposed of its queue, but the last one may have where the round ended the looper
abbrev pub DisposesAtEnd : Round → List Entry → Type 0
DisposesAtEnd (round.Drained dispatched until) es = calls_among es ≡ es
DisposesAtEnd (round.Ended dispatched) es = DisposesLast es
DisposesAtEnd round.NoMemory es = Unit {0}

-- the message goes to the rules: it is none of the choreographer, and has no object
abbrev pub goes_to_rules : ℕ → PostData → Bool
goes_to_rules q m = not (m.handler == frame_handler q) && not (is_some m.obj)

-- a looper of the script, with what it needs in the hall
pub record IsLooper (s : Script) (hall : Hall) (l : StageLooper) : Type 0 where
  pub few : s.threads + s.loopers < 100
  pub number : l.number < s.loopers
  pub sender : l.sender ≡ s.threads + l.number
  pub parts : IsSomeAnd l.parts (ArePartsOf s hall l.number)
  pub place : IsPlaceOf hall l.number (workplace l.looper.held)
  pub own : l.looper.held.poster.sender ≡ l.sender
  pub journal : l.looper.held.journal.looper ≡ l.number
  pub ended : l.looper.ended ≡ is_ended l.last
  -- unless memory ran out, its Dispatch acts are, one for one and in order, the messages that it took
  pub told : is_given_up l.last ≡ false → dispatches l.looper.held.journal.acts ≡ taken_messages l.sender l.looper.held.poster.view.seen
  -- a round that ended it has seen its queue over
  pub over : is_ended l.last ≡ true → is_over (empty_base (sender_count s)) l.looper.held.poster.view.seen ≡ true
  -- it disposes of its queue by its last call, if at all
  pub disposes : DisposesAtEnd l.last (entries_by l.sender l.looper.held.poster.view.seen)

-- the looper is one of the script, in the script's hall, which is in lockstep or not
pub record MayWork (lockstep : Bool) (s : Script) (hall : Hall) (l : StageLooper) : Type 0 where
  pub mode : hall.lockstep ≡ lockstep
  pub is_hall : IsHall s hall
  pub looper : IsLooper s hall l

-- it is the same looper of the script
pub record IsLooperStill (s : Script) (hall : Hall) (before after : StageLooper) : Type 0 where
  pub looper : IsLooper s hall after
  pub number : after.number ≡ before.number

-- one that a round has ended, or that found no memory, stays as it is; another runs a round on its queue at this moment, in lockstep or not
pub record RunsRound (lockstep : Bool) (s : Script) (now : ℕ) (before after : StageLooper) : Type 0 where
  pub stopped : (is_ended before.last || is_given_up before.last) ≡ true → after ≡ before
  pub ran : (is_ended before.last || is_given_up before.last) ≡ false
      → RoundBy (setting_in lockstep s before.number) now before.looper.held after.looper.held after.last
  pub looks : (is_ended before.last || is_given_up before.last) ≡ false → IsRound any_heard now before.looper after.looper after.last

-- so it is in lockstep
abbrev pub HasRunInLockstep : Script → ℕ → StageLooper → StageLooper → Type 0
HasRunInLockstep s now before after = RunsRound true s now before after

-- the Dispatch acts in the journal are, one for one and in order, the messages that this looper's own poster took
abbrev pub HasTold : Script → ℕ → Journal → Kit → Type 0
HasTold s number j kit = (d : Sender) → dispatches j.acts ≡ taken_messages (s.threads + number) (slice_index_or kit.posters.items number d).view.seen

-- of this looper's own calls on its queue, none disposed of it, or the last one alone did
abbrev pub HasDisposedLast : Script → ℕ → Kit → Type 0
HasDisposedLast s number kit = (d : Sender) → DisposesLast (entries_by (s.threads + number) (slice_index_or kit.posters.items number d).view.seen)

-- so it is with each looper, whose kit comes behind the threads'
abbrev pub HaveTold : Script → List Journal → List Kit → Type 0
HaveTold s js kits = (k : ℕ) (j : Journal) (d : Kit) → k < length js → HasTold s k (slice_index_or js k j) (slice_index_or kits (s.threads + k) d)

-- a looper's posters of the other queues
abbrev pub others_in : Option Parts → List Sender
others_in None = []
others_in (Some parts) = parts.others.items

-- a looper's posters, one of each queue and in order
abbrev pub posters_of : StageLooper → List Sender
posters_of l = insert (others_in l.parts) l.number l.looper.held.poster

-- what a looper has beside its posters, its pass of the pool and its journal
pub record LooperRest : Type 0 where
  pub frames : Pass
  pub root : ViewRoot
  pub fired : List ℕ
  pub passed : ℕ
  pub awaits : Bool

-- the same, where it is there
abbrev pub rest_in : Option Parts → Option LooperRest
rest_in None = None
rest_in (Some parts) = Some (record { frames = parts.frames; root = parts.root; fired = parts.fired.items; passed = parts.passed; awaits = parts.awaits })

-- the pass heard others, or is as before, and the rest is as before
pub record RestHasHeard (before after : LooperRest) : Type 0 where
  pub frames : PassHasHeard before.frames after.frames
  pub root : after.root ≡ before.root
  pub fired : after.fired ≡ before.fired
  pub passed : after.passed ≡ before.passed
  pub awaits : after.awaits ≡ before.awaits

-- so it is, where the rest is there
abbrev pub MayHaveHeard : Option LooperRest → Option LooperRest → Type 0
MayHaveHeard before after = (r : LooperRest) → before ≡ Some r → (r' : LooperRest) × (after ≡ Some r') × RestHasHeard r r'

-- a looper's posters before and after are so, its pass of its choreographer is as before or heard others, and all else of it is as before
pub record LooperKeeps (R : List Sender → List Sender → Type 0) (before after : StageLooper) : Type 0 where
  pub number : after.number ≡ before.number
  pub sender : after.sender ≡ before.sender
  pub posters : R (posters_of before) (posters_of after)
  pub beside : IsBeside before.looper after.looper
  pub rest : MayHaveHeard (rest_in before.parts) (rest_in after.parts)
  pub last : after.last ≡ before.last
  pub dispatched : after.dispatched ≡ before.dispatched

-- this holds of the looper's pass of its choreographer
abbrev pub OfItsPass : (Pass → Type 0) → StageLooper → Type 0
OfItsPass P l = (r : LooperRest) → rest_in l.parts ≡ Some r → P r.frames

-- the looper let another pass hear: its own is as it was
abbrev pub LooperTellsPass : StageLooper → StageLooper → Type 0
LooperTellsPass before after = LooperKeeps AreKept before after × (rest_in after.parts ≡ rest_in before.parts)

-- the looper's pass has heard this, and all else is as before
abbrev pub LooperHearsPass : List (ℕ × FrameEntry) → StageLooper → StageLooper → Type 0
LooperHearsPass whole before after = LooperKeeps AreKept before after × OfItsPass (HasHeardAll whole) after

-- the looper's number is that of one of its posters
abbrev pub IsWithin : StageLooper → Type 0
IsWithin l = l.number ≤ length (others_in l.parts)

-- the round dispatched nothing and ended with a wait, and there is no message to wait for
abbrev pub WaitsForNothing : Round → Type 0
WaitsForNothing r = r ≡ round.Drained 0 None

-- a looper that has done nothing, by its kit: its journal is empty, an idle turn is owed, and it has the kit's pass of the pool
pub record HasDoneNothing (kit : Kit) (l : StageLooper) : Type 0 where
  pub acts : l.looper.held.journal.acts ≡ []
  pub idle_owed : l.looper.idle_owed ≡ true
  pub pass : l.looper.held.pass ≡ kit.pass

-- the queue of this history is neither over nor quitting, and no message that may be dispatched is due at this moment
pub record HasNoneDue (b : Base) (es : List Entry) (now : ℕ) : Type 0 where
  pub going : is_over b es ≡ false
  pub not_quitting : quit_place b es ≡ None
  pub none : pick b es now ≡ None

-- the looper waits for the first message that no barrier holds back of all that it has seen, on a queue that isn't quitting, and no such message is due at
-- this moment
abbrev pub WaitsAt : Script → ℕ → StageLooper → StageLooper → Type 0
WaitsAt s moment before after =
    IsPrefix before.looper.held.poster.view.seen after.looper.held.poster.view.seen
    × (until_of after.last ≡ option_map when_of (first_eligible (empty_base (sender_count s)) after.looper.held.poster.view.seen))
    × HasNoneDue (empty_base (sender_count s)) after.looper.held.poster.view.seen moment

-- the time of the looper's queue, by all that it has seen
abbrev pub looper_time : Script → StageLooper → ℕ
looper_time s l = clock (empty_base (sender_count s)) l.looper.held.poster.view.seen

-- unless it ended or gave up, the looper has come to wait so at its queue's time
abbrev pub ComesToWait : Script → StageLooper → StageLooper → Type 0
ComesToWait s before after = is_ended after.last ≡ false → is_given_up after.last ≡ false → WaitsAt s (looper_time s after) before after

-- the same by a clock, at this moment or at the queue's time, whichever is later
abbrev pub ComesToWaitAt : Script → ℕ → StageLooper → StageLooper → Type 0
ComesToWaitAt s now before after = is_ended after.last ≡ false → is_given_up after.last ≡ false → WaitsAt s (max now (looper_time s after)) before after

-- one round by a clock at this moment, up to where the looper waits
pub record DrainsAt (s : Script) (now : ℕ) (before after : StageLooper) : Type 0 where
  pub round : RunsRound false s now before after
  pub waits : ComesToWaitAt s now before after

-- a loop by a clock as the last round of its looper: it ended it, it found no memory, or it waits, and for which message isn't told
abbrev pub round_of : Loop → Round
round_of loop.Ended = round.Ended 0
round_of (loop.Cap now) = round.Drained 0 None
round_of loop.Nudged = round.Drained 0 None
round_of loop.NoMemory = round.NoMemory
