-- A thread of a script, and how far it has come.
use Rattle.std.specs.Prelude.{◌≡◌, ◌≢◌, ◌<◌, ◌+◌, ◌-◌, ◌^◌, min, ℕ, zero, suc, ◌==◌, Bool, false, List, [], ◌∷◌, ◌++◌, length, slice_index_or, Option}
use Rattle.std.specs.Prelude.{Some, None, is_some, map, if◌then◌else◌}
use Rattle.std.specs.List.{filter_map}
use Rattle.dash_script.specs.declared.script.Block.{Block}
use Rattle.dash_script.specs.declared.script.Script.{Script}
use Rattle.looper_run.specs.Holding.{Sender}
use Rattle.choreographer.specs.Known.{Pass}
use Rattle.run_model.specs.Moments.{Mode, IfFree, IsUptime}
use Rattle.run_model.specs.Planned.{TimedCommand, lines_of, labels_on}
use Rattle.run_model.specs.Parts.{lines_in, MakeCalls}
use Rattle.run_model.specs.FrameRecords.{as_told}
use Rattle.run_model.specs.AskedSoFar.{lines_ask, tokens_in}
use Rattle.dash_hall.specs.declared.hall.Hall.{Hall}
use Rattle.dash_threads.specs.declared.thread.PostingThread.{PostingThread}
use mathlib.Core.List.{IsPrefix}
use Rattle.dash_script.specs.declared.script.Command.{Command}
use Rattle.dash_script.specs.declared.script.Command.TheVariants as command
use Rattle.dash_script.specs.declared.script.Command.TheVariants.{Barrier}
use Rattle.dash_threads.specs.declared.labels.Labelled.{Labelled}
use Rattle.dash_threads.specs.declared.planned.PlannedCall.{PlannedCall}
use Rattle.dash_hall.specs.Growth.{own, Makes}
use Rattle.dash_hall.specs.Hosts.{pass_asks}
use Rattle.dash_hall.specs.ByClock.{IsByClock}
use Rattle.dash_hall.specs.QueueCalls.{call_made, tokens_of, posts_barrier, IsAtItsMoment}
use Rattle.dash_hall.specs.declared.calls.QueueCall.{QueueCall}
use Rattle.dash_threads.specs.Planning.{call_planned}
use Rattle.frame_phases.specs.declared.entry.FrameEntry.{FrameEntry}
use Rattle.dash_hall.specs.Hearing.{AreKept, PassesHaveHeard, PassesHaveHeardAt}
use Rattle.dash_hall.specs.Kits.{Badge, badge_of, ArePostersOf, ArePassesOf}
use Rattle.loop_model.specs.declared.entry.Entry.{Entry}

-- a thread of the script, with what it needs in the hall
pub record IsThread (s : Script) (hall : Hall) (t : PostingThread) : Type 0 where
  pub number : t.number < s.threads
  pub posters : ArePostersOf t.number hall.queues.items t.kit.posters.items
  pub frames : ArePassesOf t.number hall.choreographers.items t.kit.frames.items
  pub pass : t.kit.pass.home ≡ hall.pool

-- on each queue the thread has made the calls of these lines, the first of its lines, and no others
abbrev pub HasCalled : Mode → Script → List TimedCommand → ℕ → List Sender → Type 0
HasCalled m s past thread posters = (q : ℕ) (d : Sender) → q < length posters
    → MakeCalls m s (labels_on q (lines_of thread s.blocks)) q past (own (slice_index_or posters q d))

-- in free mode the moments of its calls are the clock's, or the queue's time
abbrev pub AreByClock : Mode → List Sender → Type 0
AreByClock m posters = (q : ℕ) (d : Sender) → q < length posters → IsByClock m (slice_index_or posters q d)

-- it has asked each choreographer for the posts and removals of frame callbacks that these lines ask for, in order, and for no others; in free mode the due
-- times are left open
abbrev pub HasAsked : Mode → List TimedCommand → List Pass → Type 0
HasAsked m past frames = (q : ℕ) (d : Pass) → q < length frames
    → map (as_told m.lockstep) (pass_asks (slice_index_or frames q d)) ≡ map (as_told m.lockstep) (lines_ask q past)

-- it has taken a turn there for each of these, and no other
abbrev pub HasTurned : List TimedCommand → List Pass → Type 0
HasTurned past frames = (q : ℕ) (d : Pass) → q < length frames → (slice_index_or frames q d).view.turns ≡ length (lines_ask q past)

-- the barriers that a thread keeps, on one queue: their labels and their tokens, in order
abbrev pub labels_kept : ℕ → List Labelled → List ℕ
labels_kept q bs = filter_map (λ b. if b.looper == q then Some b.label else None) bs

abbrev pub tokens_kept : ℕ → List Labelled → List ℕ
tokens_kept q bs = filter_map (λ b. if b.looper == q then Some b.token else None) bs

-- a thread keeps the barriers that these lines post, each with the token that was answered
pub record KeepsBarriers (past : List TimedCommand) (barriers : List Labelled) (posters : List Sender) : Type 0 where
  pub labels : (q : ℕ) → labels_kept q barriers ≡ labels_on q past
  pub tokens : (q : ℕ) (d : Sender) → q < length posters → tokens_kept q barriers ≡ tokens_in (own (slice_index_or posters q d))

-- how far a thread has come, by its number, its barriers, its posters and its passes: it has run these lines, the first of its lines
pub record Progress (m : Mode) (s : Script) (past : List TimedCommand) (n : ℕ) (bs : List Labelled) (ps : List Sender) (fs : List Pass) : Type 0 where
  pub called : HasCalled m s past n ps
  pub clocked : AreByClock m ps
  pub barriers : KeepsBarriers past bs ps
  pub asked : HasAsked m past fs
  pub turned : HasTurned past fs

abbrev pub IsUpTo : Mode → Script → List TimedCommand → PostingThread → Type 0
IsUpTo m s past t = Progress m s past t.number t.barriers.items t.kit.posters.items t.kit.frames.items

-- where a block comes next among the thread's lines, the thread has run its lines too
abbrev pub Continues : Mode → Script → Block → PostingThread → PostingThread → Type 0
Continues m s b before after = (past rest : List TimedCommand) → past ++ (lines_in before.number b ++ rest) ≡ lines_of before.number s.blocks
    → IsUpTo m s past before → IsUpTo m s (past ++ lines_in before.number b) after

-- where this line comes next among the thread's lines, the thread has run it too
abbrev pub RunsLine : Mode → Script → TimedCommand → PostingThread → PostingThread → Type 0
RunsLine m s l before after = (past rest : List TimedCommand) → past ++ (l ∷ rest) ≡ lines_of before.number s.blocks
    → IsUpTo m s past before → IsUpTo m s (past ++ l ∷ []) after

-- at this uptime it has run the command, in each mode and for each time of a block that may have it; free mode is the hall's
abbrev pub TakesAt : Bool → Script → ℕ → Command → PostingThread → PostingThread → Type 0
TakesAt lockstep s u command before after = (m : Mode) (time : ℕ) → IfFree m (lockstep ≡ false) → IsUptime m time u
    → RunsLine m s (record { time = time; command = command }) before after

-- so it has at each uptime
abbrev pub TakesAtAny : Bool → Script → Command → PostingThread → PostingThread → Type 0
TakesAtAny lockstep s command before after = (u : ℕ) → TakesAt lockstep s u command before after

-- the sender made this call at its moment, which was answered this token, and has seen what it had seen and maybe more
pub record Performs (call : QueueCall) (token : Option ℕ) (before after : Sender) : Type 0 where
  pub sender : after.sender ≡ before.sender
  pub seen : IsPrefix before.view.seen after.view.seen
  pub made : Makes before after (call_made call) (tokens_of token)
  pub moment : IsAtItsMoment call token before after

-- on the queue at this place the sender made this call, which was answered this token, and on the others none
pub record CallsAt (place : ℕ) (call : QueueCall) (token : Option ℕ) (before after : List Sender) : Type 0 where
  pub long : length after ≡ length before
  pub here : (d : Sender) → place < length before → Performs call token (slice_index_or before place d) (slice_index_or after place d)
  pub elsewhere : (q : ℕ) (d : Sender) → q ≢ place → slice_index_or after q d ≡ slice_index_or before q d

-- the barriers with that of a command, where it posted one
abbrev pub with_barrier : List Labelled → Command → Option ℕ → List Labelled
with_barrier bs (Barrier l b) (Some token) = bs ++ record { label = b; looper = l; token = token } ∷ []
with_barrier bs _ _ = bs

-- the thread made this call, and keeps the barrier that its command posted
pub record Called (command : Command) (p : PlannedCall) (before after : PostingThread) : Type 0 where
  pub token : Option ℕ
  pub calls : CallsAt p.looper p.call token before.kit.posters.items after.kit.posters.items
  pub answered : p.looper < length before.kit.posters.items → is_some token ≡ posts_barrier p.call
  pub barriers : after.barriers.items ≡ with_barrier before.barriers.items command token
  pub frames : after.kit.frames ≡ before.kit.frames

-- the thread made the planned call, or where none is planned it stays as it was
abbrev pub CalledIf : Command → Option PlannedCall → PostingThread → PostingThread → Type 0
CalledIf command None before after = after ≡ before
CalledIf command (Some p) before after = Called command p before after

-- a command's call was made, where it plans one
abbrev pub MakesPlanned : Script → ℕ → Command → PostingThread → PostingThread → Type 0
MakesPlanned s u command before after = CalledIf command (call_planned s before.barriers.items u command) before after

-- one pass of the gate more, where the count isn't at its end
abbrev pub one_pass_more : ℕ → ℕ
one_pass_more passed = min (passed + 1) (2 ^ 64 - 1)

-- so many passes more
abbrev pub passes_more : ℕ → ℕ → ℕ
passes_more zero passed = passed
passes_more (suc n) passed = one_pass_more (passes_more n passed)

-- unless it has given up, the thread came to the gate once for each of these lines
abbrev pub HasPassed : List TimedCommand → PostingThread → PostingThread → Type 0
HasPassed lines before after = after.gave_up ≡ false → after.passed ≡ passes_more (length lines) before.passed

-- a thread that has run nothing yet
abbrev pub HasBegun : Mode → Script → PostingThread → Type 0
HasBegun m s t = IsUpTo m s [] t

-- a thread's posters before and after are so, its passes of choreographers are as before or heard others, and all else of it is as before
pub record ThreadKeeps (R : List Sender → List Sender → Type 0) (before after : PostingThread) : Type 0 where
  pub number : after.number ≡ before.number
  pub posters : R before.kit.posters.items after.kit.posters.items
  pub pass : after.kit.pass ≡ before.kit.pass
  pub frames : PassesHaveHeard before.kit.frames.items after.kit.frames.items
  pub barriers : after.barriers ≡ before.barriers
  pub passed : after.passed ≡ before.passed
  pub gave_up : after.gave_up ≡ before.gave_up

-- the thread let another pass hear: its own are as they were
abbrev pub TellsPass : PostingThread → PostingThread → Type 0
TellsPass before after = ThreadKeeps AreKept before after × (after.kit.frames.items ≡ before.kit.frames.items)

-- the thread's pass at this place has heard this, and all else is as before
abbrev pub HearsPass : ℕ → List (ℕ × FrameEntry) → PostingThread → PostingThread → Type 0
HearsPass place whole before after = ThreadKeeps AreKept before after × PassesHaveHeardAt place whole before.kit.frames.items after.kit.frames.items

-- what is known of a poster besides its bell
abbrev pub known_of : Sender → Badge × List Entry
known_of p = (badge_of p, p.view.seen)

-- the posters are the same and have seen the same; bells may have been rung
abbrev pub HaveSeenSame : List Sender → List Sender → Type 0
HaveSeenSame before after = map known_of after ≡ map known_of before

-- how often the thread has rung the bell of each looper
abbrev pub rungs_of : PostingThread → List ℕ
rungs_of t = map (λ p. p.view.rung) t.kit.posters.items

-- the counts, that of this looper one more
abbrev pub one_more_at : ℕ → List ℕ → List ℕ
one_more_at looper [] = []
one_more_at zero (x ∷ xs) = suc x ∷ xs
one_more_at (suc looper) (x ∷ xs) = x ∷ one_more_at looper xs

-- the counts, that of a looper one more where there is one
abbrev pub more_for : Option ℕ → List ℕ → List ℕ
more_for None rungs = rungs
more_for (Some looper) rungs = one_more_at looper rungs

-- the looper that has to look again by a clock: that which the command asks for a frame, or hands an event
abbrev pub looper_woken : Command → Option ℕ
looper_woken (command.Frame looper phase id delay) = Some looper
looper_woken (command.Event looper fd events) = Some looper
looper_woken (command.Post handler what delay) = None
looper_woken (command.PostAsync handler what delay) = None
looper_woken (command.Front handler what) = None
looper_woken (command.Callback handler id delay) = None
looper_woken (command.Set gauge value) = None
looper_woken (command.Remove handler what) = None
looper_woken (command.RemoveCallback handler id) = None
looper_woken (command.RemoveAll handler) = None
looper_woken (command.Barrier looper label) = None
looper_woken (command.Unbarrier label) = None
looper_woken (command.Quit looper) = None
looper_woken (command.QuitSafely looper) = None
looper_woken (command.Idle looper id keep) = None
looper_woken (command.Watch looper fd mask answer) = None
looper_woken (command.Unframe looper phase id) = None

-- a thread that had run nothing has run all its lines
abbrev pub RunsAll : Mode → Script → PostingThread → PostingThread → Type 0
RunsAll m s before after = IsUpTo m s [] before → IsUpTo m s (lines_of before.number s.blocks) after
