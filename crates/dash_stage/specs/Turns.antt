-- Which loopers run a round.
use Rattle.std.specs.Prelude.{◌≡◌, ◌<◌, ◌==◌, ℕ, Bool, true, false, not, List, length, slice_index_or}
use Rattle.dash_loopers.specs.declared.looper.StageLooper.{StageLooper}
use Rattle.dash_script.specs.declared.script.Script.{Script}
use Rattle.looper_run.specs.Round.{is_ended}
use Rattle.dash_hall.specs.declared.hall.Hall.{Hall}
use Rattle.dash_hall.specs.Hearing.{HaveHeard}
use Rattle.dash_loopers.specs.Loopers.{LooperKeeps, IsLooper, HasRunInLockstep, ComesToWait}
use Rattle.dash_stage.specs.Playing.{PlaysOn, EachPlaysOn}
use Rattle.dash_stage.specs.Stages.{AreLoopers, LoopersGoOn}
use Rattle.dash_stage.specs.declared.side.Turn.{Turn}
use Rattle.dash_stage.specs.declared.side.Turn.TheVariants.{All, Main, Others}

-- whether the looper at this place runs a round: each does, or the main one alone, which is at place 0, or each but the main one
abbrev pub has_turn : Turn → ℕ → Bool
has_turn All place = true
has_turn Main place = place == 0
has_turn Others place = not (place == 0)

-- each looper whose turn it isn't is as it was, but for what it has heard
abbrev pub AwaitTheirTurn : Turn → List StageLooper → List StageLooper → Type 0
AwaitTheirTurn turn before after =
    (k : ℕ) (d : StageLooper) → k < length before → has_turn turn k ≡ false → LooperKeeps HaveHeard (slice_index_or before k d) (slice_index_or after k d)

-- each looper that has the turn, or each that has it not, is so before and after
abbrev pub AtTurn : Turn → Bool → (StageLooper → StageLooper → Type 0) → List StageLooper → List StageLooper → Type 0
AtTurn turn has R before after =
    (k : ℕ) (d : StageLooper) → k < length before → has_turn turn k ≡ has → R (slice_index_or before k d) (slice_index_or after k d)

-- the looper is as it was
abbrev pub IsTheSame : StageLooper → StageLooper → Type 0
IsTheSame before after = after ≡ before

-- the looper is the same and has not begun anew; where it has the turn it ran a round and came to wait, and else it is as it was
abbrev pub RunsInTurn : Turn → Script → Hall → ℕ → StageLooper → StageLooper → Type 0
RunsInTurn turn s hall now before after = IsLooper s hall after × (after.number ≡ before.number)
    × (is_ended before.last ≡ true → is_ended after.last ≡ true)
    × (has_turn turn before.number ≡ true → ComesToWait s before after)
    × (has_turn turn before.number ≡ true → HasRunInLockstep s now before after)
    × (has_turn turn before.number ≡ false → after ≡ before)
    × PlaysOn s now before after

-- the loopers took their turns, and none gave up
pub record HaveTakenTurns (turn : Turn) (before after : List StageLooper) : Type 0 where
  pub on : LoopersGoOn after
  pub others : AwaitTheirTurn turn before after

-- the loopers that have the turn ran a round and came to wait, the others are as they were, and each played on
pub record HaveRunRound (turn : Turn) (s : Script) (hall : Hall) (now : ℕ) (before after : List StageLooper) : Type 0 where
  pub loopers : AreLoopers s hall after
  pub waits : AtTurn turn true (ComesToWait s) before after
  pub rounds : AtTurn turn true (HasRunInLockstep s now) before after
  pub others : AtTurn turn false IsTheSame before after
  pub plays : EachPlaysOn s now before after
