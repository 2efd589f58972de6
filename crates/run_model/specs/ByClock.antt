-- When a report is a run of a script by a clock.
use Rattle.std.specs.Prelude.{ℕ, Bool, false}
use Rattle.dash_script.specs.declared.script.Script.{Script}
use Rattle.run_model.specs.declared.report.Report.{Report}
use Rattle.run_model.specs.Moments.{Mode}
use Rattle.run_model.specs.Run.{IsRun}

-- the clock shows such numbers, and this one at the start
abbrev pub in_free_mode : (ℕ → Bool) → ℕ → Mode
in_free_mode shows start = record { lockstep = false; shows = shows; start = start }

-- the report is a run of the script by a clock that shows such numbers
pub record IsStagedByClock (shows : ℕ → Bool) (s : Script) (r : Report) : Type 0 where
  pub run : IsRun (in_free_mode shows r.start) s r
