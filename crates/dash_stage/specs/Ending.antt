-- How the kits give their posters and passes back, queue after queue and choreographer after choreographer.
use Rattle.std.specs.Prelude.{◌≡◌, ◌<◌, ◌+◌, ℕ, Bool, List, ◌∷◌, map, length, slice_index_or, drop}
use Rattle.std.specs.Global.{Vec}
use mathlib.Core.List.{IsPrefix}
use Rattle.atomic_table.specs.Seated.{TableId}
use Rattle.frame_phases.specs.declared.entry.FrameEntry.{FrameEntry}
use Rattle.loop_model.specs.declared.entry.Entry.{Entry}
use Rattle.loop_model.specs.declared.record.QueueRecord.{QueueRecord}
use Rattle.loop_model.specs.declared.segment.Segment.{Segment}
use Rattle.loop_model.specs.Base.{empty_base}
use Rattle.loop_model.specs.Legal.{IsLegal, AreNumbered}
use Rattle.loop_model.specs.Chain.{IsChainFrom}
use Rattle.run_model.specs.Planned.{history_of, sender_count}
use Rattle.dash_script.specs.declared.script.Script.{Script}
use Rattle.shared_queue.specs.Known.{Shared}
use Rattle.shared_queue.specs.Constants.{Constants}
use Rattle.looper_run.specs.Holding.{Sender}
use Rattle.choreographer.specs.Known.{SharedFrames, Pass}
use Rattle.choreographer.specs.Ends.{AreHeard, HasHandedOut, entries_in}
use Rattle.run_model.specs.Run.{record_setting}
use Rattle.message_pool.specs.Passes.{Tally}
use Rattle.dash_hall.specs.declared.hall.Hall.{Hall}
use Rattle.dash_hall.specs.declared.kit.Kit.{Kit}
use Rattle.dash_hall.specs.Kits.{IsHall, AreKitsOf, AreQueuesOf, AreChoreographersOf, frame_constants, frames_for}
use Rattle.dash_hall.specs.Kits.{ArePostersOf, badge_of, badge_for, FrameBadge, frame_badge_of}
use Rattle.dash_hall.specs.Dealing.{given_of}
use Rattle.dash_stage.specs.Controllers.{parts_handed_out, parts_in, HaveHandedOut}
use Rattle.dash_stage.specs.Records.{HasAllOf, passes_at}

-- each kit has a poster
abbrev pub HavePosters : List Kit → Type 0
HavePosters kits = (k : ℕ) (d : Kit) → k < length kits → 0 < length (slice_index_or kits k d).posters.items

-- the kit's first poster is sender k's, of this queue
pub record IsNext (k : ℕ) (q : Shared TableId) (kit : Kit) : Type 0 where
  pub some : 0 < length kit.posters.items
  pub badge : (p : Sender) → badge_of (slice_index_or kit.posters.items 0 p) ≡ badge_for k q

-- the last kit's posters, the controller's, handed out what stands in these lists, queue by queue
abbrev pub AreSealed : List Kit → List (Vec Segment) → Type 0
AreSealed kits lists = (k : ℕ) (d : Kit) → k + 1 ≡ length kits → parts_handed_out (slice_index_or kits k d).posters.items ≡ parts_in lists

-- the first of them handed these parts out
abbrev pub HasSealedNext : List Kit → List Segment → Type 0
HasSealedNext kits parts =
    (k : ℕ) (d : Kit) (p : Sender) → k + 1 ≡ length kits → (slice_index_or (slice_index_or kits k d).posters.items 0 p).view.sealed ≡ parts

-- the last kit's passes, the controller's, handed out what stands in these lists, choreographer by choreographer
abbrev pub AreFramesSealed : List Kit → List (Vec (List FrameEntry)) → Type 0
AreFramesSealed kits lists = (k : ℕ) (d : Kit) → k + 1 ≡ length kits → HaveHandedOut (slice_index_or kits k d).frames.items lists

-- the first of them handed these parts out
abbrev pub HasSealedNextFrames : List Kit → List (List FrameEntry) → Type 0
HasSealedNextFrames kits parts = (k : ℕ) (d : Kit) (p : Pass) → k + 1 ≡ length kits
    → HasHandedOut (slice_index_or (slice_index_or kits k d).frames.items 0 p) (entries_in parts)

-- so it is with each kit, and there is one for each sender
pub record AreNext (q : Shared TableId) (kits : List Kit) : Type 0 where
  pub count : length kits ≡ q.constants.setting.senders
  pub each : (k : ℕ) (d : Kit) → k < length kits → IsNext k q (slice_index_or kits k d)

-- each kit has a poster of each queue, in order
abbrev pub HaveAllPosters : List (Shared TableId) → List Kit → Type 0
HaveAllPosters queues kits = (k : ℕ) (d : Kit) → k < length kits → ArePostersOf k queues (slice_index_or kits k d).posters.items

-- what is kept of a queue with these constants: a lawful history
pub record IsKeptOf (c : Constants TableId) (r : QueueRecord) : Type 0 where
  pub looper : r.looper ≡ c.looper
  pub setting : record_setting r ≡ c.setting
  pub chain : IsChainFrom (empty_base c.setting.senders) r.segments
  pub legal : IsLegal c.setting (empty_base c.setting.senders) (history_of r)
  pub numbered : AreNumbered c.setting (empty_base c.setting.senders) (history_of r)

-- sender k gave up its first poster, which made its entries in this history
pub record EndsPoster (k : ℕ) (entries : List Entry) (before after : Kit) : Type 0 where
  pub poster : Sender
  pub whose : poster.sender ≡ k
  pub posters : before.posters.items ≡ poster ∷ after.posters.items
  pub made : HasAllOf k poster entries
  pub frames : after.frames.items ≡ before.frames.items
  pub pass : after.pass.home ≡ before.pass.home

pub record EachEndsPoster (entries : List Entry) (before after : List Kit) : Type 0 where
  pub count : length after ≡ length before
  pub each : (k : ℕ) (d : Kit) → k < length before → EndsPoster k entries (slice_index_or before k d) (slice_index_or after k d)

-- the kit has given up so many posters, and nothing else
pub record HasGivenBack (given_up : ℕ) (before after : Kit) : Type 0 where
  pub posters : after.posters.items ≡ drop given_up before.posters.items
  pub frames : after.frames.items ≡ before.frames.items
  pub pass : after.pass.home ≡ before.pass.home

pub record HaveLeft (given_up : ℕ) (before after : List Kit) : Type 0 where
  pub count : length after ≡ length before
  pub each : (k : ℕ) (d : Kit) → k < length before → HasGivenBack given_up (slice_index_or before k d) (slice_index_or after k d)

-- the passes and the pass of the pool are as before
pub record KeepsFrames (before after : Kit) : Type 0 where
  pub frames : after.frames.items ≡ before.frames.items
  pub pass : after.pass.home ≡ before.pass.home

pub record KeepFrames (before after : List Kit) : Type 0 where
  pub count : length after ≡ length before
  pub each : (k : ℕ) (d : Kit) → k < length before → KeepsFrames (slice_index_or before k d) (slice_index_or after k d)

-- the passes that each kit has begin with those of this looper's choreographer
abbrev pub BeginWithPasses : Script → ℕ → SharedFrames → List Kit → Type 0
BeginWithPasses s looper c kits =
    (k : ℕ) (d : Kit) → k < length kits → IsPrefix (given_of s looper c k) (map frame_badge_of (slice_index_or kits k d).frames.items)

-- so it is, and there is a kit for each sender
pub record HaveNextPasses (s : Script) (looper : ℕ) (c : SharedFrames) (kits : List Kit) : Type 0 where
  pub count : length kits ≡ sender_count s
  pub begin : BeginWithPasses s looper c kits

-- each kit has the passes that its sender has of these choreographers, those of the loopers from `from` on
abbrev pub HaveAllPasses : (ℕ → List FrameBadge) → List Kit → Type 0
HaveAllPasses marks kits = (k : ℕ) (d : Kit) → k < length kits → map frame_badge_of (slice_index_or kits k d).frames.items ≡ marks k

-- the kit has given up so many passes
pub record HasFramesLeft (given_up : ℕ) (before after : Kit) : Type 0 where
  pub frames : after.frames.items ≡ drop given_up before.frames.items
  pub pass : after.pass.home ≡ before.pass.home

pub record HaveFramesLeft (given_up : ℕ → ℕ) (before after : List Kit) : Type 0 where
  pub count : length after ≡ length before
  pub each : (k : ℕ) (d : Kit) → k < length before → HasFramesLeft (given_up k) (slice_index_or before k d) (slice_index_or after k d)

-- the entries are parted among the next passes of this looper's choreographer, which recorded them, and each of these has heard the beginning of that
abbrev pub AreOfNext : Script → ℕ → List Kit → List FrameEntry → Type 0
AreOfNext s looper kits entries = (d : Kit) (p : Pass) → AreHeard entries (passes_at s looper 0 kits d p)

-- the entries begin with what this sender's next pass has seen
abbrev pub BeginWithOwn : ℕ → List Kit → List FrameEntry → Type 0
BeginWithOwn sender kits entries = (d : Kit) (p : Pass) → IsPrefix (slice_index_or (slice_index_or kits sender d).frames.items 0 p).view.seen entries

-- all kits have a pass of this pool
abbrev pub AreOfPool : TableId → List Kit → Type 0
AreOfPool pool kits = (k : ℕ) (d : Kit) → k < length kits → (slice_index_or kits k d).pass.home ≡ pool

-- the entries are parted among the next passes of this looper's choreographer, and begin with what its looper's own has seen
pub record AreOfNextPasses (s : Script) (looper : ℕ) (kits : List Kit) (entries : List FrameEntry) : Type 0 where
  pub parted : AreOfNext s looper kits entries
  pub own : BeginWithOwn (s.threads + looper) kits entries

-- what the records of a run are made of
pub record CanEnd (s : Script) (hall : Hall) (ks : List Kit) (pass : Tally) (lists : List (Vec Segment)) (frames : List (Vec (List FrameEntry))) : Type 0 where
  pub fits : s.threads + s.loopers < 100
  pub is_hall : IsHall s hall
  pub kits : AreKitsOf s hall ks
  pub sealed : AreSealed ks lists
  pub sealed_frames : AreFramesSealed ks frames
  pub home : pass.home ≡ hall.pool

-- those of the queues
pub record CanEndQueues (s : Script) (pool : TableId) (pass : Tally) (qs : List (Shared TableId)) (ks : List Kit) (lists : List (Vec Segment)) : Type 0 where
  pub home : pass.home ≡ pool
  pub queues : (lockstep : Bool) × AreQueuesOf lockstep s pool qs
  pub count : length ks ≡ sender_count s
  pub kits : HaveAllPosters qs ks
  pub sealed : AreSealed ks lists

-- that of one queue
pub record CanEndQueue (pool : TableId) (pass : Tally) (q : Shared TableId) (ks : List Kit) (parts : List Segment) : Type 0 where
  pub of_pool : pass.home ≡ pool
  pub home : q.constants.home ≡ pool
  pub next : AreNext q ks
  pub sealed : HasSealedNext ks parts

-- those of the choreographers
pub record CanEndFrames (s : Script) (cs : List SharedFrames) (ks : List Kit) (lists : List (Vec (List FrameEntry))) : Type 0 where
  pub fits : s.threads + s.loopers < 100
  pub choreographers : AreChoreographersOf s cs
  pub count : length ks ≡ sender_count s
  pub kits : HaveAllPasses (frames_for s cs) ks
  pub sealed : AreFramesSealed ks lists

-- that of one choreographer
pub record CanEndChoreographer (s : Script) (looper : ℕ) (c : SharedFrames) (ks : List Kit) (parts : List (List FrameEntry)) : Type 0 where
  pub fits : s.threads + s.loopers < 100
  pub one : looper < s.loopers
  pub constants : c.constants ≡ frame_constants s looper
  pub kits : HaveNextPasses s looper c ks
  pub sealed : HasSealedNextFrames ks parts
