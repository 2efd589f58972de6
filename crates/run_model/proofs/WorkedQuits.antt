-- Worked reports: quits, and posts that race with them.
use Rattle.std.proofs.Common.{false, ℕ, List, [], ◌∷◌, ◌++◌, ◌+◌, None, refl, true}
use Rattle.std.specs.Prelude.{codes}
use Rattle.std.specs.List.{AllByRecursion}
use Rattle.loop_model.specs.declared.call.Call.TheVariants as call
use Rattle.loop_model.specs.declared.reply.Reply.TheVariants as reply
use Rattle.loop_model.specs.declared.entry.Entry.{Entry}
use Rattle.dash_script.specs.declared.script.Command.TheVariants as command
use Rattle.dash_script.specs.declared.script.Line.{Line}
use Rattle.dash_script.specs.declared.script.Script.{Script}
use Rattle.run_model.proofs.Examples.{entry, halted_at, message, handler_on, block, by, plain_script}
use Rattle.run_model.proofs.Table.{Worked, Holds, quiet, one_looper, all_hold, printing}

-- so many threads do this at 10
abbrev side_script : ℕ → List Line → ℕ → Script
side_script threads lines end = plain_script 2 threads (handler_on 0 ∷ handler_on 1 ∷ []) (block 10 lines ∷ []) end

-- main has these entries, and the side looper these between the move of its time to 10 and its disposal there, and these lines
abbrev side_ends : Script → List Entry → List Entry → List (List ℕ) → Worked
side_ends s main es printed = record {
  script = s;
  rows =
      quiet main 0
      ∷ quiet (entry (s.threads + 2) 0 (call.Advance 10) reply.Advanced ∷ es ++ entry (s.threads + 1) 0 (call.Next 10) reply.Disposed ∷ []) 10
      ∷ [];
  printed =
      codes "report 1" ∷ codes "looper 0" ∷ codes "fates accepted 0 dispatched 0 removed 0 dropped 0 stranded 0 queued 0" ∷ codes "looper 1"
      ∷ printed ++ codes "end" ∷ [];
}

-- a thread quits the side looper, and a thread posts to it
abbrev race : Script
race = side_script 2 (by 0 (command.Quit 1) ∷ by 1 (command.Post 1 5 0) ∷ []) 10

abbrev quits : List Worked
quits =
    -- a post after a quit is refused
    side_ends (side_script 1 (by 0 (command.Quit 1) ∷ by 0 (command.Post 1 5 0) ∷ []) 10) (halted_at 3 10)
    (entry 0 0 (call.Quit false 10) reply.QuitDone ∷ entry 0 1 (call.Post (message 1 5 10 None)) (reply.Refused 1) ∷ [])
    (codes "refused 1 5 quit 1" ∷ codes "fates accepted 0 dispatched 0 removed 0 dropped 0 stranded 0 queued 0" ∷ [])
    -- two threads: the quit comes first
    ∷ side_ends race (halted_at 4 10)
    (entry 0 0 (call.Quit false 10) reply.QuitDone ∷ entry 1 0 (call.Post (message 1 5 10 None)) (reply.Refused 1) ∷ [])
    (codes "refused 1 5 quit 1" ∷ codes "fates accepted 0 dispatched 0 removed 0 dropped 0 stranded 0 queued 0" ∷ [])
    -- the same script: the post comes first
    ∷ side_ends race (halted_at 4 10)
    (entry 1 0 (call.Post (message 1 5 10 None)) (reply.Accepted 0) ∷ entry 0 0 (call.Quit false 10) reply.QuitDone ∷ [])
    (codes "fates accepted 1 dispatched 0 removed 0 dropped 1 stranded 0 queued 0" ∷ [])
    -- the first quit counts
    ∷ side_ends (side_script 1 (by 0 (command.Quit 1) ∷ by 0 (command.Quit 1) ∷ []) 10) (halted_at 3 10)
    (entry 0 0 (call.Quit false 10) reply.QuitDone ∷ entry 0 1 (call.Quit false 10) (reply.AlreadyQuit 1) ∷ [])
    (codes "already-quit 1" ∷ codes "fates accepted 0 dispatched 0 removed 0 dropped 0 stranded 0 queued 0" ∷ [])
    -- a message behind a barrier is stranded
    ∷ side_ends (side_script 1 (by 0 (command.Barrier 1 0) ∷ by 0 (command.Post 1 1 0) ∷ by 0 (command.QuitSafely 1) ∷ []) 20)
    (entry 3 0 (call.Advance 10) reply.Advanced ∷ entry 3 1 (call.Advance 20) reply.Advanced ∷ entry 3 2 (call.Halt 20) reply.Halted ∷ [])
    (entry 0 0 (call.Barrier 10) (reply.Token 0) ∷ entry 0 1 (call.Post (message 1 1 10 None)) (reply.Accepted 0) ∷ entry 0 2 (call.Quit true 10) reply.QuitDone ∷ [])
    (codes "fates accepted 1 dispatched 0 removed 0 dropped 0 stranded 1 queued 0" ∷ [])
    -- a quit of main is not allowed, and a message that is not due stays queued
    ∷ one_looper (block 10 (by 0 (command.Quit 0) ∷ by 0 (command.Post 0 1 5) ∷ []) ∷ []) 12 (
    entry 2 0 (call.Advance 10) reply.Advanced ∷ entry 0 0 (call.Quit false 10) reply.NotAllowed ∷ entry 0 1 (call.Post (message 0 1 15 None)) (reply.Accepted 0)
    ∷ entry 2 1 (call.Advance 12) reply.Advanced ∷ entry 2 2 (call.Halt 12) reply.Halted ∷ []
    ) [] (codes "not-allowed" ∷ codes "fates accepted 1 dispatched 0 removed 0 dropped 0 stranded 0 queued 1" ∷ [])
    ∷ []

pub quits_hold : AllByRecursion Holds quits
unfolding printing
quits_hold = all_hold quits refl refl
