-- Reports that are no runs of their script: calls that come too early, too late, too often or in another order.
use Rattle.std.proofs.Common.{◌≡◌, ℕ, Bool, refl, true, false, List, [], ◌∷◌, ◌++◌, Some, None, sym, ap, subst, arith, length}
use Rattle.std.specs.Prelude.{map, ◌==◌}
use Rattle.std.proofs.lemmas.Bool.Decides.{nat_tests}
use Rattle.std.specs.List.{AllByRecursion}
use Rattle.loop_model.specs.declared.call.Call.TheVariants as call
use Rattle.loop_model.specs.declared.reply.Reply.TheVariants as reply
use Rattle.loop_model.specs.declared.entry.Entry.{Entry}
use Rattle.loop_model.specs.declared.journal.Act.{Act}
use Rattle.loop_model.specs.Answers.{clock, has_disposed}
use Rattle.dash_script.specs.declared.script.Command.TheVariants as command
use Rattle.dash_script.specs.declared.script.Script.{Script}
use Rattle.run_model.specs.Moments.{in_lockstep}
use Rattle.run_model.specs.Control.{befores, are_on_time}
use Rattle.run_model.specs.Planned.{AreFor, entries_by, token_in}
use Rattle.run_model.specs.Loopers.{LooperState, first_looper, after_act, ActsLead, IsSent}
use Rattle.run_model.specs.Run.{IsRun, caused_on}
use Rattle.run_model.proofs.Examples.{entry, handler_on, block, by, plain_script, message}
use Rattle.run_model.proofs.RunBut as but
use Rattle.run_model.proofs.Table.{Row, acting, quiet, report_of, computing}
use Rattle.run_model.proofs.OneFault.{FailsBy, fails_by, Faulty, faulty, Fails, each_untimely}
use Rattle.run_model.proofs.Led.{led_passes}
use Rattle.run_model.proofs.NotRuns.{dispatch, advance, look}
use Rattle.run_model.proofs.NotRunsEnds.{quits_side, posts_side, quit_script}

-- one looper, with this history and these acts
abbrev pub main_rows : List Entry → List Act → List Row
main_rows es acts = acting es acts 0 ∷ []

-- at 10 a thread posts a message with this delay, and the run ends at this time
abbrev post_script : ℕ → ℕ → Script
post_script delay end = plain_script 1 1 (handler_on 0 ∷ []) (block 10 (by 0 (command.Post 0 7 delay) ∷ []) ∷ []) end

abbrev post : ℕ → Entry
post when = entry 0 0 (call.Post (message 0 7 when None)) (reply.Accepted 0)

abbrev halt : ℕ → ℕ → Entry
halt seq now = entry 2 seq (call.Halt now) reply.Halted

abbrev taken_rows : List Row
taken_rows = main_rows (advance 0 10 ∷ post 15 ∷ advance 1 15 ∷ look 0 15 0 ∷ halt 2 15 ∷ []) (dispatch 0 10 ∷ [])

abbrev pub moment_first : List (ℕ × ℕ) → ℕ
moment_first ((number, now) ∷ xs) = now
moment_first [] = 0

-- a message is dispatched at a later time than the journal tells
pub takes_late : FailsBy but.Takes (post_script 5 15) taken_rows
unfolding computing
takes_late = fails_by but.Takes (post_script 5 15) taken_rows no_run refl
  where
    no_run : IsRun in_lockstep (post_script 5 15) (report_of (post_script 5 15) taken_rows) → ⊥
    no_run r = let now : 10 ≡ 15 = ap moment_first r.loopers.0.dispatches in omega (arith, now)

-- a script whose rule sends another message, due 5 later
abbrev rule_script : Script
rule_script = record (post_script 0 15) { rules = record { handler = 0; what = 7; times = 1; to_handler = 0; to_what = 8; delay = 5 } ∷ [] }

abbrev reacted_entries : List Entry
reacted_entries =
    advance 0 10 ∷ post 10 ∷ look 0 10 0 ∷ advance 1 15 ∷ entry 1 1 (call.Post (message 0 8 15 None)) (reply.Accepted 1) ∷ look 2 15 1 ∷ halt 2 15 ∷ []

abbrev reacted_acts : List Act
reacted_acts = dispatch 0 10 ∷ dispatch 1 15 ∷ []

-- when this looper's calls are to come, and what stood before them
abbrev AreItsOnTime : LooperState → Type 0
AreItsOnTime b = are_on_time (map (λ x. x.timing) (caused_on 0 b 0 0)) (befores 1 reacted_entries) ≡ true

late_by_acts : (b : LooperState) → ActsLead rule_script 0 reacted_entries [] (first_looper rule_script) reacted_acts b → AreItsOnTime b → ⊥
unfolding after_act befores clock has_disposed
late_by_acts b (Some p, (comes, rest)) on_time = let starts : false ≡ true = comes.starts in cc
late_by_acts b (None, (first, (Some p, (may, is)))) on_time = let starts : false ≡ true = may.starts in cc
late_by_acts b (None, (first, (None, (may, is)))) on_time = let late : false ≡ true = subst AreItsOnTime (sym is) on_time in cc

-- a rule's message is sent when the time was moved on
pub reacts_late : FailsBy but.OnTime rule_script (main_rows reacted_entries reacted_acts)
unfolding computing
reacts_late = fails_by but.OnTime rule_script (main_rows reacted_entries reacted_acts) (λ r. late_by_acts r.loopers.0.final r.loopers.0.acts r.loopers.0.on_time.0) refl

abbrev twice_entries : List Entry
twice_entries =
    advance 0 10 ∷ post 10 ∷ look 0 10 0 ∷ entry 1 1 (call.Post (message 0 8 15 None)) (reply.Accepted 1)
    ∷ entry 1 2 (call.Post (message 0 8 15 None)) (reply.Accepted 2) ∷ advance 1 15 ∷ look 3 15 1 ∷ look 4 15 2 ∷ halt 2 15 ∷ []

abbrev twice_acts : List Act
twice_acts = dispatch 0 10 ∷ dispatch 1 15 ∷ dispatch 2 15 ∷ []

-- there are as many calls as these acts cause
as_many : {X : Type 0} (IsFor : List ℕ → X → Entry → Type 0) (tokens : List ℕ) (xs : List X) (es : List Entry) → AreFor IsFor tokens xs es → (length xs == length es) ≡ true
as_many IsFor tokens [] [] all = refl
as_many IsFor tokens [] (e ∷ es) all = absurd all
as_many IsFor tokens (x ∷ xs) [] all = absurd all
as_many IsFor tokens (x ∷ xs) (e ∷ es) all = let rest = as_many IsFor (tokens ++ token_in e.reply) xs es all.1 in grind (arith, nat_tests)

abbrev calls_as_often : LooperState → Bool
calls_as_often b = length (caused_on 0 b 0 0) == length (entries_by 1 twice_entries)

-- a rule that fires once sends its message twice
pub reacts_twice : FailsBy but.Takes rule_script (main_rows twice_entries twice_acts)
unfolding computing
reacts_twice = fails_by but.Takes rule_script (main_rows twice_entries twice_acts) no_run refl
  where
    no_run : IsRun in_lockstep rule_script (report_of rule_script (main_rows twice_entries twice_acts)) → ⊥
    no_run r =
        let l = r.loopers.0 in
        let wrong : false ≡ true = led_passes calls_as_often rule_script 0 twice_entries [] (first_looper rule_script) twice_acts l.final l.acts
        (as_many IsSent [] (caused_on 0 l.final 0 0) (entries_by 1 twice_entries) l.calls.0) in
        cc

-- thread 1 quits the side looper and then posts to it, and later thread 0 posts to it
abbrev order_script : Script
order_script = quit_script (block 5 (quits_side ∷ []) ∷ block 8 (by 1 (command.Post 1 7 0) ∷ []) ∷ block 10 (posts_side ∷ []) ∷ [])

abbrev order_main : List Entry
order_main =
    entry 4 0 (call.Advance 5) reply.Advanced ∷ entry 4 1 (call.Advance 8) reply.Advanced ∷ entry 4 2 (call.Advance 10) reply.Advanced
    ∷ entry 4 3 (call.Halt 10) reply.Halted ∷ []

abbrev order_side : List Entry
order_side =
    entry 4 0 (call.Advance 5) reply.Advanced ∷ entry 1 0 (call.Quit false 5) reply.QuitDone ∷ entry 3 0 (call.Next 5) reply.Disposed
    ∷ entry 0 0 (call.Post (message 1 7 10 None)) (reply.Refused 1) ∷ entry 1 1 (call.Post (message 1 7 8 None)) (reply.Refused 1) ∷ []

-- threads call at a wrong time
abbrev wrong_calls : List Faulty
wrong_calls =
    -- before the time of a block
    faulty but.Threads (post_script 0 10) (main_rows (post 10 ∷ advance 0 10 ∷ look 0 10 0 ∷ halt 1 10 ∷ []) (dispatch 0 10 ∷ []))
    -- behind the next move of the time
    ∷ faulty but.Threads (post_script 5 15) (main_rows (advance 0 10 ∷ advance 1 15 ∷ post 15 ∷ look 0 15 0 ∷ halt 2 15 ∷ []) (dispatch 0 15 ∷ []))
    -- behind the disposal, and for the block at 10 before another's call for the block at 8
    ∷ faulty but.Order order_script (quiet order_main 0 ∷ quiet order_side 5 ∷ [])
    ∷ []

pub wrong_calls_fail : AllByRecursion Fails wrong_calls
unfolding computing
wrong_calls_fail = each_untimely wrong_calls refl refl
