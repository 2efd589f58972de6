-- Reports that are runs of their script, and none that the stage makes: blocks are not first at their time, or are passed over.
use Rattle.std.proofs.Common.{◌≡◌, refl, true, false, List, [], ◌∷◌, None}
use Rattle.loop_model.specs.declared.call.Call.TheVariants as call
use Rattle.loop_model.specs.declared.reply.Reply.TheVariants as reply
use Rattle.dash_script.specs.declared.script.Command.TheVariants as command
use Rattle.dash_script.specs.declared.script.Script.{Script}
use Rattle.run_model.specs.Moments.{in_lockstep}
use Rattle.run_model.specs.Control.{come_first, is_fresh, is_reached}
use Rattle.run_model.specs.Run.{IsRun, IsStaged}
use Rattle.run_model.proofs.Examples.{entry, handler_on, block, by, plain_script, message}
use Rattle.run_model.proofs.RunBut.{Nothing}
use Rattle.run_model.proofs.Table.{Row, report_of, found, wanted, run_by, computing}
use Rattle.run_model.proofs.NotRuns.{dispatch, advance, look}
use Rattle.run_model.proofs.NotRunsTimes.{main_rows}

-- the report is a run of the script, and the stage makes none such
pub record RunsUnstaged (s : Script) (rows : List Row) : Type 0 where
  pub runs : IsRun in_lockstep s (report_of s rows)
  pub unstaged : IsStaged s (report_of s rows) → ⊥

runs_unstaged : (s : Script) (rows : List Row) → (IsStaged s (report_of s rows) → ⊥) → found Nothing s rows ≡ wanted Nothing s rows → RunsUnstaged s rows
runs_unstaged s rows unstaged same = record { runs = run_by s rows same; unstaged = unstaged }

-- a thread posts two messages that are due at 10, where the run ends: one at 5, and one at 10
abbrev posts_twice : Script
posts_twice = plain_script 1 1 (handler_on 0 ∷ []) (block 5 (by 0 (command.Post 0 7 5) ∷ []) ∷ block 10 (by 0 (command.Post 0 8 0) ∷ []) ∷ []) 10

abbrev taken_first : List Row
taken_first =
    main_rows (advance 0 5 ∷ entry 0 0 (call.Post (message 0 7 10 None)) (reply.Accepted 0) ∷ advance 1 10 ∷ look 0 10 0
    ∷ entry 0 1 (call.Post (message 0 8 10 None)) (reply.Accepted 1) ∷ look 1 10 1 ∷ entry 2 2 (call.Halt 10) reply.Halted ∷ []) (dispatch 0 10 ∷ dispatch 1 10 ∷ [])

-- a looper takes a message at the time of a block, before the block's call
pub takes_before_block : RunsUnstaged posts_twice taken_first
unfolding computing come_first is_fresh
takes_before_block = runs_unstaged posts_twice taken_first (λ st. let first : false ≡ true = st.blocks.0 in cc) refl

-- a thread hands in an idle handler at 5, and posts at 10
abbrev adds_idle : Script
adds_idle = plain_script 1 1 (handler_on 0 ∷ []) (block 5 (by 0 (command.Idle 0 3 false) ∷ []) ∷ block 10 (by 0 (command.Post 0 8 5) ∷ []) ∷ []) 10

abbrev passed_over : List Row
passed_over = main_rows (advance 0 10 ∷ entry 0 0 (call.Post (message 0 8 15 None)) (reply.Accepted 0) ∷ entry 2 1 (call.Halt 10) reply.Halted ∷ []) []

-- time is moved over a block that calls no queue
pub passes_over_block : RunsUnstaged adds_idle passed_over
unfolding computing is_reached
passes_over_block = runs_unstaged adds_idle passed_over (λ st. let reached : false ≡ true = st.reached.0 in cc) refl
