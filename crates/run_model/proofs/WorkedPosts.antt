-- Worked reports: posts, barriers, rules, idle handlers and descriptors.
use Rattle.std.proofs.Common.{List, [], ◌∷◌, None, refl, true, false}
use Rattle.std.specs.Prelude.{codes}
use Rattle.std.specs.List.{AllByRecursion}
use Rattle.loop_model.specs.declared.call.Call.TheVariants as call
use Rattle.loop_model.specs.declared.reply.Reply.TheVariants as reply
use Rattle.loop_model.specs.declared.entry.Entry.{Entry}
use Rattle.dash_script.specs.declared.script.Command.TheVariants as command
use Rattle.loop_model.specs.declared.journal.Act.TheVariants as act
use Rattle.loop_model.specs.declared.journal.Route.TheVariants as route
use Rattle.run_model.proofs.Examples.{entry, halted_at, message, handler_on, block, by, plain_script}
use Rattle.run_model.proofs.Table.{Worked, Holds, acting, one_looper, all_hold, printing}

abbrev pub two_posts_entries : List Entry
two_posts_entries =
    entry 2 0 (call.Advance 10) reply.Advanced ∷
    entry 0 0 (call.Post (message 0 7 15 None)) (reply.Accepted 0) ∷
    entry 0 1 (call.Post (message 0 8 10 None)) (reply.Accepted 1) ∷
    entry 1 0 (call.Next 10) (reply.Dispatched 1) ∷
    entry 2 1 (call.Advance 15) reply.Advanced ∷
    entry 1 1 (call.Next 15) (reply.Dispatched 0) ∷
    entry 2 2 (call.Advance 20) reply.Advanced ∷
    entry 2 3 (call.Halt 20) reply.Halted ∷ []

-- two posts of one block, the second one due first
abbrev pub two_posts : Worked
two_posts =
    one_looper (block 10 (by 0 (command.Post 0 7 5) ∷ by 0 (command.Post 0 8 0) ∷ []) ∷ []) 20 two_posts_entries
    (act.Dispatch 1 10 route.Handled ∷ act.Dispatch 0 15 route.Handled ∷ [])
    (codes "10 dispatch 1 0 8" ∷ codes "15 dispatch 0 0 7" ∷ codes "fates accepted 2 dispatched 2 removed 0 dropped 0 stranded 0 queued 0" ∷ [])

-- a rule that fires twice, on another queue.
abbrev rule_fires_twice : Worked
rule_fires_twice = record {
  script =
      record (plain_script 2 2 (handler_on 0 ∷ handler_on 1 ∷ []) (block 10 (by 0 (command.Post 0 1 0) ∷ by 0 (command.Post 0 1 0) ∷ by 0 (command.Post 0 1 0) ∷ []) ∷ []) 20) { rules = record { handler = 0; what = 1; times = 2; to_handler = 1; to_what = 2; delay = 3 } ∷ [] };
  rows =
      acting (
      entry 4 0 (call.Advance 10) reply.Advanced ∷
      entry 0 0 (call.Post (message 0 1 10 None)) (reply.Accepted 0) ∷
      entry 0 1 (call.Post (message 0 1 10 None)) (reply.Accepted 1) ∷
      entry 0 2 (call.Post (message 0 1 10 None)) (reply.Accepted 2) ∷
      entry 2 0 (call.Next 10) (reply.Dispatched 0) ∷
      entry 2 1 (call.Next 10) (reply.Dispatched 1) ∷
      entry 2 2 (call.Next 10) (reply.Dispatched 2) ∷
      entry 4 1 (call.Advance 13) reply.Advanced ∷
      entry 4 2 (call.Advance 20) reply.Advanced ∷
      entry 4 3 (call.Halt 20) reply.Halted ∷ []
      ) (act.Dispatch 0 10 route.Handled ∷ act.Dispatch 1 10 route.Handled ∷ act.Dispatch 2 10 route.Handled ∷ []) 0
      ∷ acting (
      entry 4 0 (call.Advance 10) reply.Advanced ∷
      entry 2 0 (call.Post (message 1 2 13 None)) (reply.Accepted 0) ∷
      entry 2 1 (call.Post (message 1 2 13 None)) (reply.Accepted 1) ∷
      entry 4 1 (call.Advance 13) reply.Advanced ∷
      entry 3 0 (call.Next 13) (reply.Dispatched 0) ∷
      entry 3 1 (call.Next 13) (reply.Dispatched 1) ∷
      entry 4 2 (call.Advance 20) reply.Advanced ∷
      entry 4 3 (call.Quit true 20) reply.QuitDone ∷
      entry 3 2 (call.Next 20) reply.Disposed ∷ []
      ) (act.Dispatch 0 13 route.Handled ∷ act.Dispatch 1 13 route.Handled ∷ []) 20
      ∷ [];
  printed = codes "report 1" ∷ codes "looper 0" ∷ codes "10 dispatch 0 0 1" ∷ codes "10 dispatch 1 0 1" ∷ codes "10 dispatch 2 0 1" ∷ codes "fates accepted 3 dispatched 3 removed 0 dropped 0 stranded 0 queued 0" ∷ codes "looper 1" ∷ codes "13 dispatch 0 1 2" ∷ codes "13 dispatch 1 1 2" ∷ codes "fates accepted 2 dispatched 2 removed 0 dropped 0 stranded 0 queued 0" ∷ codes "end" ∷ [];
}

abbrev posts : List Worked
posts =
    two_posts
    -- a message that a barrier holds, and an asynchronous one that it lets pass
    ∷ one_looper (
    block 10 (by 0 (command.Barrier 0 0) ∷ by 0 (command.Post 0 1 0) ∷ by 0 (command.PostAsync 0 2 0) ∷ [])
    ∷ block 12 (by 0 (command.Unbarrier 0) ∷ []) ∷ []) 12 (
    entry 2 0 (call.Advance 10) reply.Advanced ∷
    entry 0 0 (call.Barrier 10) (reply.Token 0) ∷
    entry 0 1 (call.Post (message 0 1 10 None)) (reply.Accepted 0) ∷
    entry 0 2 (call.Post (record (message 0 2 10 None) { asynchronous = true })) (reply.Accepted 1) ∷
    entry 1 0 (call.Next 10) (reply.Dispatched 1) ∷
    entry 2 1 (call.Advance 12) reply.Advanced ∷
    entry 0 3 (call.Unbarrier 0) reply.Unbarriered ∷
    entry 1 1 (call.Next 12) (reply.Dispatched 0) ∷
    entry 2 2 (call.Halt 12) reply.Halted ∷ []
    ) (act.Dispatch 1 10 route.Handled ∷ act.Dispatch 0 12 route.Handled ∷ [])
    (codes "10 dispatch 1 0 2" ∷ codes "12 dispatch 0 0 1" ∷ codes "fates accepted 2 dispatched 2 removed 0 dropped 0 stranded 0 queued 0" ∷ [])
    ∷ rule_fires_twice
    -- an idle handler runs once
    ∷ one_looper (block 0 (by 0 (command.Idle 0 3 false) ∷ by 0 (command.Post 0 1 5) ∷ []) ∷ []) 5 (
    entry 0 0 (call.Post (message 0 1 5 None)) (reply.Accepted 0) ∷ entry 2 0 (call.Advance 5) reply.Advanced ∷ entry 1 0 (call.Next 5) (reply.Dispatched 0)
    ∷ entry 2 1 (call.Halt 5) reply.Halted ∷ []
    ) (act.Idle 3 false ∷ act.Dispatch 0 5 route.Handled ∷ [])
    (codes "5 dispatch 0 0 1" ∷ codes "fates accepted 1 dispatched 1 removed 0 dropped 0 stranded 0 queued 0" ∷ codes "idle 3" ∷ [])
    -- a listener takes its descriptor back
    ∷ one_looper (block 10 (by 0 (command.Watch 0 5 1 0) ∷ by 0 (command.Event 0 5 3) ∷ by 0 (command.Event 0 5 1) ∷ []) ∷ []) 10 (halted_at 2 10) (act.Event 5 1 0 ∷ [])
    (codes "fates accepted 0 dispatched 0 removed 0 dropped 0 stranded 0 queued 0" ∷ codes "event 5 1" ∷ [])
    ∷ []

pub posts_hold : AllByRecursion Holds posts
unfolding printing
posts_hold = all_hold posts refl refl
