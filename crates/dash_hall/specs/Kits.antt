-- What the senders of a run share, and what each of them needs.
use Rattle.std.specs.Prelude.{◌≡◌, ◌==◌, ◌+◌, ◌-◌, ◌<◌, nat_lt, ℕ, Bool, true, List, [], ◌∷◌, map, length, Option, Some, None, slice_get}
use Rattle.std.specs.Prelude.{slice_index_or, if◌then◌else◌}
use Rattle.std.specs.List.{range_with_len}
use Rattle.atomic_table.specs.Seated.{TableId}
use Rattle.loop_model.specs.Base.{empty_base}
use Rattle.loop_model.specs.Answers.{is_over}
use Rattle.dash_script.specs.declared.script.Script.{Script}
use Rattle.dash_script.specs.Causes.{phase_count}
use Rattle.shared_queue.specs.Constants.{Constants}
use Rattle.shared_queue.specs.Known.{Shared}
use Rattle.looper_run.specs.Holding.{Sender}
use Rattle.choreographer.specs.declared.view.Constants.{Constants as FrameConstants}
use Rattle.choreographer.specs.Known.{SharedFrames, Pass}
use Rattle.run_model.specs.Planned.{sender_count}
use Rattle.dash_hall.specs.declared.hall.Hall.{Hall}
use Rattle.dash_hall.specs.declared.kit.Kit.{Kit}

-- which queue a poster is of, and whose it is
pub record Badge : Type 0 where
  pub table : TableId
  pub constants : Option (Constants TableId)
  pub sender : ℕ

abbrev pub badge_of : Sender → Badge
badge_of p = record { table = p.table; constants = p.view.constants; sender = p.sender }

abbrev pub badge_for : ℕ → Shared TableId → Badge
badge_for sender q = record { table = q.table; constants = Some q.constants; sender = sender }

-- the posters are this sender's, one of each queue and in order
abbrev pub ArePostersOf : ℕ → List (Shared TableId) → List Sender → Type 0
ArePostersOf sender queues posters = map badge_of posters ≡ map (badge_for sender) queues

-- which choreographer a pass is of, and which of its passes it is
pub record FrameBadge : Type 0 where
  pub table : TableId
  pub constants : Option FrameConstants
  pub number : ℕ

abbrev pub frame_badge_of : Pass → FrameBadge
frame_badge_of p = record { table = p.table; constants = p.view.constants; number = p.number }

abbrev pub frame_badge_for : ℕ → SharedFrames → FrameBadge
frame_badge_for number c = record { table = c.table; constants = Some c.constants; number = number }

-- the passes have this number, one of each choreographer and in order
abbrev pub ArePassesOf : ℕ → List SharedFrames → List Pass → Type 0
ArePassesOf number choreographers passes = map frame_badge_of passes ≡ map (frame_badge_for number) choreographers

-- what stays the same in a looper's queue: in lockstep or not, main for looper 0 alone, its messages of this pool
abbrev pub queue_constants : Bool → Script → TableId → ℕ → Constants TableId
queue_constants lockstep s pool looper =
    record { home = pool; looper = looper; setting = record { main = looper == 0; lockstep = lockstep; senders = sender_count s } }

-- what stays the same in a looper's choreographer: it has the phases of the script's edition, each thread has a pass, the looper one and the controller one,
-- its record may be handed out as the run goes, and the looper's pass alone delivers pulses
abbrev pub frame_constants : Script → ℕ → FrameConstants
frame_constants s looper =
    record { looper = looper; interval = s.period; phases = phase_count s.edition; passes = s.threads + 2; seals = true; pulses = Some s.threads }

abbrev pub queue_key : Shared TableId → Constants TableId
queue_key q = q.constants

abbrev pub frame_key : SharedFrames → FrameConstants
frame_key c = c.constants

-- each looper has its queue, in order
abbrev pub AreQueuesOf : Bool → Script → TableId → List (Shared TableId) → Type 0
AreQueuesOf lockstep s pool queues = map queue_key queues ≡ map (queue_constants lockstep s pool) (range_with_len 0 s.loopers)

-- each looper has its choreographer, in order
abbrev pub AreChoreographersOf : Script → List SharedFrames → Type 0
AreChoreographersOf s cs = map frame_key cs ≡ map (frame_constants s) (range_with_len 0 s.loopers)

-- the queues, choreographers and sources of the script's loopers, with one pool
pub record IsHall (s : Script) (hall : Hall) : Type 0 where
  pub queues : AreQueuesOf hall.lockstep s hall.pool hall.queues.items
  pub choreographers : AreChoreographersOf s hall.choreographers.items
  pub sources : length hall.sources.items ≡ s.loopers

-- a looper's pass of its own choreographer
abbrev pub looper_frames : ℕ → Option SharedFrames → List FrameBadge
looper_frames number None = []
looper_frames number (Some c) = frame_badge_for number c ∷ []

-- the passes that a sender has: a thread and the controller one of each choreographer, a looper one of its own
abbrev pub frames_for : Script → List SharedFrames → ℕ → List FrameBadge
frames_for s cs k =
    if nat_lt k s.threads then map (frame_badge_for k) cs
    else if nat_lt k (s.threads + s.loopers) then looper_frames s.threads (slice_get cs (k - s.threads))
    else map (frame_badge_for (s.threads + 1)) cs

-- what a sender needs in the hall
pub record IsKitOf (s : Script) (hall : Hall) (k : ℕ) (kit : Kit) : Type 0 where
  pub posters : ArePostersOf k hall.queues.items kit.posters.items
  pub frames : map frame_badge_of kit.frames.items ≡ frames_for s hall.choreographers.items k
  pub pass : kit.pass.home ≡ hall.pool

-- each sender has its kit, in order
pub record AreKitsOf (s : Script) (hall : Hall) (kits : List Kit) : Type 0 where
  pub count : length kits ≡ sender_count s
  pub each : (k : ℕ) (d : Kit) → k < length kits → IsKitOf s hall k (slice_index_or kits k d)

-- what this looper's own poster has seen of its queue ends it
abbrev pub HasSeenOver : Script → ℕ → Kit → Type 0
HasSeenOver s looper kit = (d : Sender) → is_over (empty_base (sender_count s)) (slice_index_or kit.posters.items looper d).view.seen ≡ true

-- each looper but the main one has seen its queue over
abbrev pub OthersAreOver : Script → List Kit → Type 0
OthersAreOver s kits = (looper : ℕ) (d : Kit) → 0 < looper → looper < s.loopers → HasSeenOver s looper (slice_index_or kits (s.threads + looper) d)

-- the posters have seen nothing
abbrev pub AreUnseen : List Sender → Type 0
AreUnseen ps = (q : ℕ) (p : Sender) → q < length ps → (slice_index_or ps q p).view.seen ≡ []

-- the kit's posters have seen no call and handed nothing out, and its passes have seen no frame callback and heard of none, taken no turn, recorded nothing,
-- handed nothing out, delivered no pulse, and know of no frame that is to begin
pub record IsUnusedKit (kit : Kit) : Type 0 where
  pub posters : AreUnseen kit.posters.items
  pub sealed : (q : ℕ) (p : Sender) → q < length kit.posters.items → (slice_index_or kit.posters.items q p).view.sealed ≡ []
  pub frames : (q : ℕ) (p : Pass) → q < length kit.frames.items → (slice_index_or kit.frames.items q p).view.seen ≡ []
  pub turns : (q : ℕ) (p : Pass) → q < length kit.frames.items → (slice_index_or kit.frames.items q p).view.turns ≡ 0
  pub own : (q : ℕ) (p : Pass) → q < length kit.frames.items → (slice_index_or kit.frames.items q p).view.own ≡ []
  pub handed : (q : ℕ) (p : Pass) → q < length kit.frames.items → (slice_index_or kit.frames.items q p).view.handed ≡ 0
  pub heard : (q : ℕ) (p : Pass) → q < length kit.frames.items → (slice_index_or kit.frames.items q p).view.heard ≡ []
  pub stamp : (q : ℕ) (p : Pass) → q < length kit.frames.items → (slice_index_or kit.frames.items q p).view.stamp ≡ 0
  pub awaits : (q : ℕ) (p : Pass) → q < length kit.frames.items → (slice_index_or kit.frames.items q p).view.awaits ≡ 0

abbrev pub AreUnusedKits : List Kit → Type 0
AreUnusedKits kits = (k : ℕ) (d : Kit) → k < length kits → IsUnusedKit (slice_index_or kits k d)
