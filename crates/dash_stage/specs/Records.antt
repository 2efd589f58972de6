-- What is kept of the queues and the choreographers of a run.
use Rattle.std.specs.Prelude.{◌≡◌, ◌<◌, ◌+◌, ◌++◌, ℕ, Bool, List, [], ◌∷◌, map, length, slice_index_or}
use Rattle.std.specs.List.{AllByRecursion, range_with_len}
use mathlib.Core.List.{IsPrefix}
use Rattle.dash_script.specs.declared.script.Script.{Script}
use Rattle.run_model.specs.Planned.{history_of, entries_by}
use Rattle.loop_model.specs.declared.entry.Entry.{Entry}
use Rattle.loop_model.specs.declared.journal.Journal.{Journal}
use Rattle.loop_model.specs.declared.record.QueueRecord.{QueueRecord}
use Rattle.frame_phases.specs.declared.entry.FrameRecord.{FrameRecord}
use Rattle.looper_run.specs.Holding.{Sender}
use Rattle.choreographer.specs.Known.{Pass}
use Rattle.choreographer.specs.Ends.{AreHeard}
use Rattle.run_model.specs.Moments.{Mode}
use Rattle.run_model.specs.Run.{IsRecordOf, IsFrameRun, IsLooperRun, EachLooper}
use Rattle.run_model.specs.Parts.{all_entries}
use Rattle.dash_hall.specs.declared.kit.Kit.{Kit}
use Rattle.dash_hall.specs.Growth.{own}
use Rattle.dash_hall.specs.ByClock.{IsByClock}

-- each looper's queue has its record, in order
abbrev pub AreOfLoopers : Script → List QueueRecord → Type 0
AreOfLoopers s records = map (λ (q : QueueRecord). q.looper) records ≡ range_with_len 0 s.loopers

-- and with the replies that a queue of one thread gives, and in free mode with moments of the clock
pub record AreQueueRecords (m : Mode) (s : Script) (records : List QueueRecord) : Type 0 where
  pub loopers : AreOfLoopers s records
  pub histories : AllByRecursion (IsRecordOf m all_entries s) records

-- each looper's choreographer has its record, in order
pub record AreFrameRecords (s : Script) (records : List FrameRecord) : Type 0 where
  pub loopers : map (λ (f : FrameRecord). f.looper) records ≡ range_with_len 0 s.loopers
  pub lawful : AllByRecursion (IsFrameRun s) records

-- the history has the entries that the poster made and no others of its sender, and begins with what it has seen
abbrev pub HasAllOf : ℕ → Sender → List Entry → Type 0
HasAllOf k p entries = (entries_by k entries ≡ own p) × IsPrefix p.view.seen entries

-- so it is with each record and each sender's poster
abbrev pub HaveAll : List Kit → List QueueRecord → Type 0
HaveAll kits records = (k q : ℕ) (d : Kit) (p : Sender) (r : QueueRecord) → k < length kits → q < length records
    → HasAllOf k (slice_index_or (slice_index_or kits k d).posters.items q p) (history_of (slice_index_or records q r))

-- all passes of a looper's choreographer: each thread's, at this place in its kit, the looper's, and the controller's, at this place in its kit
abbrev pub passes_at : Script → ℕ → ℕ → List Kit → Kit → Pass → List Pass
passes_at s looper place kits d p =
    map (λ thread. slice_index_or (slice_index_or kits thread d).frames.items place p) (range_with_len 0 s.threads)
    ++ slice_index_or (slice_index_or kits (s.threads + looper) d).frames.items 0 p
    ∷ slice_index_or (slice_index_or kits (s.threads + s.loopers) d).frames.items place p
    ∷ []

-- the entries of each frame record are parted among the passes of its choreographer, which recorded them, and each pass has heard the beginning of that
abbrev pub AreAllTheirs : Script → List Kit → List FrameRecord → Type 0
AreAllTheirs s kits records = (q : ℕ) (d : Kit) (p : Pass) (r : FrameRecord) → q < length records
    → AreHeard (slice_index_or records q r).entries (passes_at s q q kits d p)

-- each looper's frame record begins with what its pass has seen
abbrev pub HaveSeenOwn : ℕ → List Kit → List FrameRecord → Type 0
HaveSeenOwn threads kits records = (q : ℕ) (d : Kit) (p : Pass) (r : FrameRecord) → q < length records
    → IsPrefix (slice_index_or (slice_index_or kits (threads + q) d).frames.items 0 p).view.seen (slice_index_or records q r).entries

-- each looper has its journal, in order
abbrev pub AreJournals : Script → List Journal → Type 0
AreJournals s js = map (λ (j : Journal). j.looper) js ≡ range_with_len 0 s.loopers

-- each looper's queue, journal and frame record are those of a run
abbrev pub AreLooperRuns : Mode → Script → List QueueRecord → List Journal → List FrameRecord → Type 0
AreLooperRuns m s queues js frames = EachLooper (IsLooperRun m s queues) queues js frames

-- in free mode the moments of what each sender called on each queue are the clock's, or the queue's time
abbrev pub HaveCalledByClock : Mode → Script → List Kit → Type 0
HaveCalledByClock m s kits =
    (k q : ℕ) (d : Kit) (p : Sender) → k < length kits → q < s.loopers → IsByClock m (slice_index_or (slice_index_or kits k d).posters.items q p)

-- where the kits' senders called so, these are the records of the queues
abbrev pub AreRecordsBy : Mode → Script → List Kit → List QueueRecord → Type 0
AreRecordsBy m s kits records = HaveCalledByClock m s kits → AreQueueRecords m s records

-- the records of the queues in such a mode, which have all entries of the kits' senders
pub record AreRecordsIn (lockstep : Bool) (s : Script) (kits : List Kit) (records : List QueueRecord) : Type 0 where
  pub by : (m : Mode) → m.lockstep ≡ lockstep → AreRecordsBy m s kits records
  pub loopers : AreOfLoopers s records
  pub all : HaveAll kits records

-- the records of the choreographers, which have all entries of the kits' passes
pub record AreFramesIn (s : Script) (kits : List Kit) (records : List FrameRecord) : Type 0 where
  pub records_are : AreFrameRecords s records
  pub theirs : AreAllTheirs s kits records
  pub own : HaveSeenOwn s.threads kits records
