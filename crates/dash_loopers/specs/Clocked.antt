-- The moments of a looper's calls, where a clock is read.
use Rattle.std.specs.Prelude.{◌≡◌, ◌<◌, ◌==◌, ◌&&◌, ℕ, Bool, true, false, not, List, ◌++◌, map, length, slice_index_or}
use Rattle.loop_model.specs.declared.post.Post.{Post as PostData}
use Rattle.loop_model.specs.declared.entry.Entry.{Entry}
use Rattle.loop_model.specs.declared.journal.Act.{Act}
use Rattle.loop_model.specs.Entries.{is_next}
use Rattle.dash_script.specs.declared.script.Script.{Script}
use Rattle.looper_run.specs.Holding.{Sender, Workplace}
use Rattle.run_model.specs.Moments.{Mode, AreOfClockAfter}
use Rattle.dash_hall.specs.ByClock.{IsByClock, AddsByClock, AddsAt}
use Rattle.dash_hall.specs.declared.hall.Hall.{Hall}
use Rattle.dash_loopers.specs.declared.player.Parts.{Parts}
use Rattle.dash_loopers.specs.declared.looper.StageLooper.{StageLooper}
use Rattle.dash_loopers.specs.Loopers.{is_given_up, others_in, posters_of, goes_to_rules}
use Rattle.dash_loopers.specs.Players.{Owner, ServesAt}
use Rattle.dash_loopers.specs.Played.{IsPlayingBy}

-- ---- what a step adds

-- what the poster has called since has no moment, or the queue's time
abbrev pub AddsUntimed : Sender → Sender → Type 0
AddsUntimed before after = (m : Mode) → AddsByClock m before after

-- so it is with each of these posters, which are the same senders'
pub record AreUntimed (before after : List Sender) : Type 0 where
  pub senders : map (λ p. p.sender) after ≡ map (λ p. p.sender) before
  pub each : (j : ℕ) (d : Sender) → j < length before → AddsUntimed (slice_index_or before j d) (slice_index_or after j d)

-- so it is with the looper's own poster and with the others
pub record CallsUntimed (before after : Sender) (parts parts' : Parts) : Type 0 where
  pub own : AddsUntimed before after
  pub others : AreUntimed parts.others.items parts'.others.items

-- a message was delivered at this moment: what the rules called has no moment, or the queue's time, and what else was called has this one, or the queue's time
pub record DeliversAt (q u : ℕ) (m : PostData) (before after : Sender) (parts parts' : Parts) : Type 0 where
  pub rules : goes_to_rules q m ≡ true → AddsUntimed before after
  pub timed : goes_to_rules q m ≡ false → AddsAt u before after
  pub others : AreUntimed parts.others.items parts'.others.items

-- ---- a loop by a clock

-- whose code it is, and by which clock
pub record ClockOwner : Type 0 where
  pub owner : Owner
  pub mode : Mode

-- the code works at its looper's queue, in a hall in free mode
pub record ServesFree (s : Script) (hall : Hall) (number : ℕ) (parts : Parts) (w : Workplace) : Type 0 where
  pub serves : ServesAt s hall number parts w
  pub mode : hall.lockstep ≡ false

-- the entry is a call of this sender, and no look for a message
abbrev pub is_call_by : ℕ → Entry → Bool
is_call_by k e = (e.sender == k) && not (is_next e.call)

-- a history went on, and of the sender's calls in it the moments are the clock's, or the queue's time; its looks are told elsewhere
pub record CallsByClock (m : Mode) (k : ℕ) (past es : List Entry) : Type 0 where
  pub more : List Entry
  pub seen : es ≡ past ++ more
  pub clocked : AreOfClockAfter m (is_call_by k) past more

-- in a loop by a clock: the looper has gone on by what it stood at, and by the clock
pub record IsPlayingAt (m : Mode) (s : Script) (q : ℕ) (began : StageLooper) (k : ℕ) (es : List Entry) (acts : List Act) (parts : Parts) : Type 0 where
  pub plays : IsPlayingBy s q began k es acts parts
  pub calls : CallsByClock m k began.looper.held.poster.view.seen es
  pub others : AreUntimed (others_in began.parts) parts.others.items

-- ---- a looper by a clock

-- in free mode the moments of the looper's own entries are the clock's, or the queue's time, on each queue
abbrev pub AreByClockOf : Mode → StageLooper → Type 0
AreByClockOf m l = (q : ℕ) (d : Sender) → q < length (posters_of l) → IsByClock m (slice_index_or (posters_of l) q d)

-- it stays so, unless memory ran out
abbrev pub StaysByClock : Mode → StageLooper → StageLooper → Type 0
StaysByClock m before after = is_given_up after.last ≡ false → AreByClockOf m before → AreByClockOf m after
