-- Reports that are no runs of their script: the controller calls a side looper's queue at a wrong time.
use Rattle.std.proofs.Common.{◌≡◌, ℕ, refl, true, false, List, [], ◌∷◌, None}
use Rattle.std.specs.List.{AllByRecursion}
use Rattle.loop_model.specs.declared.call.Call.TheVariants as call
use Rattle.loop_model.specs.declared.reply.Reply.{Reply}
use Rattle.loop_model.specs.declared.reply.Reply.TheVariants as reply
use Rattle.loop_model.specs.declared.entry.Entry.{Entry}
use Rattle.loop_model.specs.declared.journal.Act.TheVariants as act
use Rattle.loop_model.specs.declared.journal.Route.TheVariants as route
use Rattle.dash_script.specs.declared.script.Command.{Command}
use Rattle.dash_script.specs.declared.script.Command.TheVariants as command
use Rattle.dash_script.specs.declared.script.Script.{Script}
use Rattle.run_model.proofs.Examples.{entry, halted_at, handler_on, block, by, plain_script, message}
use Rattle.run_model.proofs.RunBut as but
use Rattle.run_model.proofs.Table.{Row, acting, quiet, computing}
use Rattle.run_model.proofs.OneFault.{FailsBy, fails_by, Faulty, faulty, Fails, each_untimely}

-- a script whose thread does this to the side looper at this time, and ends at 10
abbrev pub side_script : ℕ → Command → Script
side_script time command = plain_script 2 1 (handler_on 0 ∷ handler_on 1 ∷ []) (block time (by 0 command ∷ []) ∷ []) 10

-- main is moved to the end and halted there, and this is the side looper
abbrev pub side_rows : Row → List Row
side_rows row = quiet (halted_at 3 10) 0 ∷ row ∷ []

abbrev pub side_advance : ℕ → ℕ → Entry
side_advance seq now = entry 3 seq (call.Advance now) reply.Advanced

abbrev pub side_quit : ℕ → Reply → Entry
side_quit seq r = entry 3 seq (call.Quit true 10) r

abbrev side_post : ℕ → Reply → Entry
side_post when r = entry 0 0 (call.Post (message 1 7 when None)) r

abbrev pub disposal : ℕ → ℕ → Entry
disposal seq now = entry 2 seq (call.Next now) reply.Disposed

-- a thread posts at the end
abbrev post_script : Script
post_script = side_script 10 (command.Post 1 7 0)

-- the controller calls on a queue when it may not
abbrev wrong_controls : List Faulty
wrong_controls =
    -- it quits a looper that has ended
    faulty but.Controls (side_script 10 (command.Quit 1))
    (side_rows (quiet (side_advance 0 10 ∷ entry 0 0 (call.Quit false 10) reply.QuitDone ∷ disposal 0 10 ∷ side_quit 1 (reply.AlreadyQuit 1) ∷ []) 10))
    -- it quits one while a message is due there
    ∷ faulty but.Controls post_script (side_rows (acting
    (side_advance 0 10 ∷ side_post 10 (reply.Accepted 0) ∷ side_quit 1 reply.QuitDone ∷ entry 2 0 (call.Next 10) (reply.Dispatched 0) ∷ disposal 1 10 ∷ [])
    (act.Dispatch 0 10 route.Handled ∷ []) 10))
    -- it moves the time of one that is quitting
    ∷ faulty but.Controls (side_script 5 (command.Quit 1)) (
    quiet (side_advance 0 5 ∷ side_advance 1 10 ∷ entry 3 2 (call.Halt 10) reply.Halted ∷ []) 0
    ∷ quiet (side_advance 0 5 ∷ entry 0 0 (call.Quit false 5) reply.QuitDone ∷ side_advance 1 10 ∷ disposal 0 10 ∷ []) 10 ∷ [])
    -- it quits one before a thread's call at the end
    ∷ faulty but.BeforeQuit post_script
    (side_rows (quiet (side_advance 0 10 ∷ side_quit 1 reply.QuitDone ∷ side_post 10 (reply.Refused 1) ∷ disposal 0 10 ∷ []) 10))
    ∷ []

pub wrong_controls_fail : AllByRecursion Fails wrong_controls
unfolding computing
wrong_controls_fail = each_untimely wrong_controls refl refl

-- a message is posted for a time behind the end
abbrev later_script : Script
later_script = side_script 10 (command.Post 1 7 5)

abbrev plain_quit : List Row
plain_quit = side_rows (quiet (side_advance 0 10 ∷ side_post 15 (reply.Accepted 0) ∷ entry 3 1 (call.Quit false 10) reply.QuitDone ∷ disposal 0 10 ∷ []) 10)

-- the controller quits the side looper, and not safely
pub quits_plainly : FailsBy but.Controlled later_script plain_quit
unfolding computing
quits_plainly = fails_by but.Controlled later_script plain_quit (λ r. let controlled : false ≡ true = r.controls.1.0 in cc) refl
