-- Reports that are no runs of their script: a side looper ends before a call of its time, or main does.
use Rattle.std.proofs.Common.{◌≡◌, ℕ, refl, true, false, List, [], ◌∷◌, ◌++◌, None}
use Rattle.std.specs.List.{AllByRecursion}
use Rattle.loop_model.specs.declared.call.Call.TheVariants as call
use Rattle.loop_model.specs.declared.reply.Reply.TheVariants as reply
use Rattle.loop_model.specs.declared.entry.Entry.{Entry}
use Rattle.dash_script.specs.declared.script.Command.TheVariants as command
use Rattle.dash_script.specs.declared.script.Block.{Block}
use Rattle.dash_script.specs.declared.script.Line.{Line}
use Rattle.dash_script.specs.declared.script.Script.{Script}
use Rattle.run_model.proofs.Examples.{entry, halted_at, handler_on, block, by, plain_script, message}
use Rattle.run_model.proofs.RunBut as but
use Rattle.run_model.proofs.Table.{Row, quiet, computing}
use Rattle.run_model.proofs.OneFault.{FailsBy, fails_by, Faulty, faulty, Fails, each_untimely}

-- thread 1 quits the side looper
abbrev pub quits_side : Line
quits_side = by 1 (command.Quit 1)

-- thread 0 posts to it
abbrev pub posts_side : Line
posts_side = by 0 (command.Post 1 7 0)

-- a script with two threads and these blocks
abbrev pub quit_script : List Block → Script
quit_script blocks = plain_script 2 2 (handler_on 0 ∷ handler_on 1 ∷ []) blocks 10

-- the side looper's queue is moved to the end, quit there by thread 1, and disposed of; then thread 0 posts at this time
abbrev quit_then_post : ℕ → List Entry
quit_then_post when =
    entry 4 0 (call.Advance 10) reply.Advanced ∷ entry 1 0 (call.Quit false 10) reply.QuitDone ∷ entry 3 0 (call.Next 10) reply.Disposed
    ∷ entry 0 0 (call.Post (message 1 7 when None)) (reply.Refused 1) ∷ []

abbrev quit_rows : ℕ → List Row
quit_rows when =
    quiet (halted_at 4 10) 0
    ∷ quiet (quit_then_post when) 10
    ∷ []

-- the side looper ends too early
abbrev early_ends : List Faulty
early_ends =
    -- it is driven to the end and disposed of before a thread's earlier call
    faulty but.Blocks (quit_script (block 5 (posts_side ∷ []) ∷ block 10 (quits_side ∷ []) ∷ [])) (quit_rows 5)
    -- a thread's call comes behind the disposal at its own time: the looper ran a round before the block was through
    ∷ faulty but.Threads (quit_script (block 10 (quits_side ∷ posts_side ∷ []) ∷ [])) (quit_rows 10)
    ∷ []

pub early_ends_fail : AllByRecursion Fails early_ends
unfolding computing
early_ends_fail = each_untimely early_ends refl refl

-- at the end a thread posts to main
abbrev last_post : Script
last_post = plain_script 1 1 (handler_on 0 ∷ []) (block 10 (by 0 (command.Post 0 7 5) ∷ []) ∷ []) 10

abbrev halted_first : List Row
halted_first = quiet (halted_at 2 10 ++ entry 0 0 (call.Post (message 0 7 15 None)) (reply.Accepted 0) ∷ []) 0 ∷ []

-- main is halted before that
pub calls_behind_halt : FailsBy but.Halted last_post halted_first
unfolding computing
calls_behind_halt = fails_by but.Halted last_post halted_first (λ r. let ends : false ≡ true = r.timely.halted in cc) refl
