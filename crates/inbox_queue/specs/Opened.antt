-- An inbox run from its start to its end.
use Rattle.std.specs.Prelude.{◌≡◌, ◌<◌, ◌+◌, ℕ, true, List, length, slice_index_or, Some, None}
use Rattle.loop_model.specs.declared.entry.Entry.{Entry}
use Rattle.loop_model.specs.declared.record.QueueRecord.{QueueRecord}
use Rattle.loop_model.specs.Base.{empty_base}
use Rattle.loop_model.specs.Chain.{IsChainFrom}
use Rattle.loop_model.specs.Legal.{IsLegal, AreNumbered}
use Rattle.dash_script.specs.declared.script.Script.{Script}
use Rattle.shared_queue.specs.Known.{Shared, IsOf, own_count}
use Rattle.atomic_table.specs.Seated.{TableId}
use Rattle.run_model.specs.Planned.{history_of}
use Rattle.run_model.specs.Run.{record_setting}
use Rattle.inbox_queue.specs.declared.parcel.Parcel.{Parcel}
use Rattle.inbox_queue.specs.declared.run.Opened.{Opened}
use Rattle.inbox_queue.specs.declared.run.InboxRan.{InboxRan}
use Rattle.inbox_queue.specs.declared.run.InboxRan.TheVariants as ran
use Rattle.inbox_queue.specs.InboxRun.{AreOfBlocks, posts_made, posts_admitted, IsInboxRun}
use Rattle.run_model.specs.Control.{AreReached}
use Rattle.inbox_queue.specs.MainQueue.{HandsAreAt, threads_of, AreSilent, MainHasEnded}
use Rattle.inbox_queue.specs.Turned.{Sender}
use Rattle.inbox_queue.specs.Bad.{bad_line}

-- the threads' posters of the queue, in order, none of which has made a call
abbrev pub AreIdle : Shared TableId → List Sender → Type 0
AreIdle queue posters = (k : ℕ) (d : Sender) → k < length posters
    → IsOf (slice_index_or posters k d) queue × ((slice_index_or posters k d).sender ≡ k) × (own_count (slice_index_or posters k d) ≡ 0)

-- the queue of so many threads, and who calls it
pub record IsOpen (threads : ℕ) (o : Opened) : Type 0 where
  pub at : HandsAreAt o.place o.hands
  pub count : threads_of o.hands ≡ threads
  pub looper : o.place.queue.constants.looper ≡ 0
  pub idle : AreIdle o.place.queue o.threads.items
  pub posters : length o.threads.items ≡ threads

-- the whole run, with what was admitted
pub record IsInboxPlayed (s : Script) (threads : ℕ) (admitted : List (List Parcel)) (es : List Entry) : Type 0 where
  pub ended : MainHasEnded threads s es
  pub posts : posts_made threads es ≡ posts_admitted s.blocks admitted
  pub reached : AreReached s.blocks es

-- what is kept of the queue, where this was seen of its history
pub record IsKeptRecord (threads : ℕ) (es : List Entry) (r : QueueRecord) : Type 0 where
  pub looper : r.looper ≡ 0
  pub setting : record_setting r ≡ record { main = true; lockstep = true; senders = threads + 2 }
  pub chain : IsChainFrom (empty_base r.senders) r.segments
  pub legal : IsLegal (record_setting r) (empty_base r.senders) (history_of r)
  pub numbered : AreNumbered (record_setting r) (empty_base r.senders) (history_of r)
  pub silent : AreSilent threads (history_of r)
  pub whole : history_of r ≡ es

-- each thread's posts of each block were admitted, and what is kept is a history in which just these were posted, from the start to the end
abbrev pub IsWholeRun : Script → QueueRecord → List (List Parcel) → Type 0
IsWholeRun s r admitted = AreOfBlocks s s.blocks admitted × ((es : List Entry) × IsKeptRecord s.threads es r × IsInboxPlayed s s.threads admitted es)

-- where it is said that the script was run, the report is an inbox run of it
abbrev pub Runs : Script → InboxRan → Type 0
Runs s (ran.Ok report) = IsInboxRun s report
Runs s (ran.Bad line) = bad_line s ≡ Some line
Runs s ran.NoMemory = Unit {0}

-- a line that an inbox run doesn't know is told, and no other answer comes then
abbrev pub RefusesBad : Script → InboxRan → Type 0
RefusesBad s (ran.Ok report) = bad_line s ≡ None
RefusesBad s (ran.Bad line) = Unit {0}
RefusesBad s ran.NoMemory = bad_line s ≡ None
