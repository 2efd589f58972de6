-- What a turn finds, and what it may leave.
use Rattle.std.specs.Prelude.{ℕ, List}
use Rattle.frame_phases.specs.declared.entry.FrameEntry.{FrameEntry}
use Rattle.choreographer.specs.declared.state.StampedFrames.{StampedFrames}
use Rattle.choreographer.specs.declared.view.Constants.{Constants}
use Rattle.choreographer.specs.declared.view.View.{View}
use Rattle.choreographer.specs.Turn.{HasConstants, IsStamped, AsksIfScheduled, SchedulesIfWanted}
use Rattle.choreographer.specs.Plays.{FoundBy, FoundSealed, FoundPulse, FoundHeard, MayGive, MaySeal, MayPulse}

-- a seat with this view finds this state, and has heard who recorded its entries
pub record HasFound (key : Constants) (v : View) (x : StampedFrames) (made : List (ℕ × FrameEntry)) : Type 0 where
  pub state : HasConstants key x × FoundBy v x
  pub stamped : IsStamped x
  pub handed : FoundSealed key v x
  pub heard : FoundHeard v x made
  pub latest : FoundPulse key v x
  pub asks : AsksIfScheduled key x
  pub wanted : SchedulesIfWanted key x

-- a seat with this view may leave this state
pub record MayLeave (key : Constants) (v : View) (x : StampedFrames) : Type 0 where
  pub state : HasConstants key x × MayGive v x
  pub stamped : IsStamped x
  pub handed : MaySeal key v x
  pub latest : MayPulse key v x
  pub asks : AsksIfScheduled key x
  pub wanted : SchedulesIfWanted key x
