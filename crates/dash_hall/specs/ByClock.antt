-- The moments of a sender's calls, where a clock is read.
use Rattle.std.specs.Prelude.{◌≡◌, ◌==◌, ◌++◌, ℕ, Bool, false, List, Some}
use Rattle.atomic_table.specs.Seated.{TableId}
use Rattle.loop_model.specs.declared.entry.Entry.{Entry}
use Rattle.shared_queue.specs.Constants.{Constants}
use Rattle.looper_run.specs.Holding.{Sender}
use Rattle.run_model.specs.Moments.{Mode, IfFree, IsMomentOf, AreOfClockAfter}
use Rattle.run_model.specs.Parts.{AreOfClock}

-- the entry is this sender's
abbrev pub is_by : ℕ → Entry → Bool
is_by sender e = e.sender == sender

-- in free mode the moments of the poster's own entries are the clock's, or the queue's time
abbrev pub IsByClock : Mode → Sender → Type 0
IsByClock m p = AreOfClock m (is_by p.sender) p.view.seen

-- in free mode the poster's queue is in free mode too
abbrev pub IsInMode : Mode → Sender → Type 0
IsInMode m p = IfFree m ((c : Constants TableId) × (p.view.constants ≡ Some c) × (c.setting.lockstep ≡ false))

-- the poster has seen these entries more, and of its own among them the moments are the clock's, or the queue's time
pub record AddsByClock (m : Mode) (before after : Sender) : Type 0 where
  pub more : List Entry
  pub seen : after.view.seen ≡ before.view.seen ++ more
  pub clocked : AreOfClockAfter m (is_by before.sender) before.view.seen more

-- so it is in each free mode of the queue in which this is a moment of the clock
abbrev pub AddsAt : ℕ → Sender → Sender → Type 0
AddsAt u before after = (m : Mode) → m.lockstep ≡ false → IsInMode m before → IsMomentOf m u → AddsByClock m before after
