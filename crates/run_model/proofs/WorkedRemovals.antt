-- Worked reports: posted callbacks, and what a removal takes.
use Rattle.std.proofs.Common.{List, ℕ, [], ◌∷◌, ◌++◌, None, refl}
use Rattle.std.specs.Prelude.{codes}
use Rattle.std.specs.List.{AllByRecursion}
use Rattle.loop_model.specs.declared.call.Call.TheVariants as call
use Rattle.loop_model.specs.declared.reply.Reply.TheVariants as reply
use Rattle.loop_model.specs.declared.entry.Entry.{Entry}
use Rattle.loop_model.specs.declared.journal.Act.{Act}
use Rattle.loop_model.specs.declared.journal.Act.TheVariants as act
use Rattle.loop_model.specs.declared.journal.Route.TheVariants as route
use Rattle.loop_model.specs.declared.post.Kind.{Kind}
use Rattle.loop_model.specs.declared.post.Kind.TheVariants as kind
use Rattle.dash_script.specs.declared.script.Command.TheVariants as command
use Rattle.dash_script.specs.declared.script.Line.{Line}
use Rattle.run_model.proofs.Examples.{entry, message, callback_message, block, by}
use Rattle.run_model.proofs.Table.{Worked, Holds, one_looper, all_hold, printing}

-- at 10 a callback and the messages 0 and 1 are posted, and behind these comes this line: the entries between the posts and the end, the acts and their lines
abbrev behind_posts : List Line → List Entry → List Act → List (List ℕ) → Worked
behind_posts lines es acts printed =
    one_looper (block 10 (by 0 (command.Callback 0 9 0) ∷ by 0 (command.Post 0 0 0) ∷ by 0 (command.Post 0 1 0) ∷ lines) ∷ []) 10 (
    entry 2 0 (call.Advance 10) reply.Advanced ∷
    entry 0 0 (call.Post (callback_message 0 9 10 None)) (reply.Accepted 0) ∷
    entry 0 1 (call.Post (message 0 0 10 None)) (reply.Accepted 1) ∷
    entry 0 2 (call.Post (message 0 1 10 None)) (reply.Accepted 2) ∷
    es ++ entry 2 1 (call.Halt 10) reply.Halted ∷ []
    ) acts printed

-- so many messages of the handler are removed
abbrev removed : Kind → ℕ → Entry
removed k count = entry 0 3 (call.Remove (record { handler = 0; kind = k; obj = None })) (reply.Removed count)

abbrev look : ℕ → ℕ → Entry
look seq number = entry 1 seq (call.Next 10) (reply.Dispatched number)

abbrev handled : ℕ → Act
handled number = act.Dispatch number 10 route.Handled

abbrev removals : List Worked
removals =
    -- a posted callback runs, and the messages behind it
    behind_posts [] (look 0 0 ∷ look 1 1 ∷ look 2 2 ∷ []) (act.Dispatch 0 10 (route.Callback 9) ∷ handled 1 ∷ handled 2 ∷ [])
    (codes "10 dispatch 0 0 callback 9" ∷ codes "10 dispatch 1 0 0" ∷ codes "10 dispatch 2 0 1" ∷ codes "fates accepted 3 dispatched 3 removed 0 dropped 0 stranded 0 queued 0" ∷ [])
    -- a removal of number 0 takes a posted callback too
    ∷ behind_posts (by 0 (command.Remove 0 0) ∷ []) (removed (kind.What 0) 2 ∷ look 0 2 ∷ []) (handled 2 ∷ [])
    (codes "10 dispatch 2 0 1" ∷ codes "fates accepted 3 dispatched 1 removed 2 dropped 0 stranded 0 queued 0" ∷ [])
    -- a removal of the callback alone
    ∷ behind_posts (by 0 (command.RemoveCallback 0 9) ∷ []) (removed (kind.Callback 9) 1 ∷ look 0 1 ∷ look 1 2 ∷ []) (handled 1 ∷ handled 2 ∷ [])
    (codes "10 dispatch 1 0 0" ∷ codes "10 dispatch 2 0 1" ∷ codes "fates accepted 3 dispatched 2 removed 1 dropped 0 stranded 0 queued 0" ∷ [])
    -- a removal of all of a handler
    ∷ behind_posts (by 0 (command.RemoveAll 0) ∷ []) (removed kind.All 3 ∷ []) []
    (codes "fates accepted 3 dispatched 0 removed 3 dropped 0 stranded 0 queued 0" ∷ [])
    ∷ []

pub removals_hold : AllByRecursion Holds removals
unfolding printing
removals_hold = all_hold removals refl refl
