-- Reports by a clock that are no runs of their script: each is the run of FreeRun with one thing changed, or has one fault.
use Rattle.std.proofs.Common.{◌≡◌, ◌≤◌, ℕ, ◌+◌, ◌^◌, ◌-◌, ◌%◌, true, false, List, [], ◌∷◌, Option, Some, None, refl, ap, subst, arith, lit<, inl, inr}
use Rattle.std.specs.Prelude.{◌==◌, min}
use Rattle.std.proofs.lemmas.Bool.Decides.{nat_tests}
use Rattle.loop_model.specs.declared.call.Call.{Call}
use Rattle.loop_model.specs.declared.call.Call.TheVariants as call
use Rattle.loop_model.specs.declared.reply.Reply.TheVariants as reply
use Rattle.loop_model.specs.declared.entry.Entry.{Entry}
use Rattle.loop_model.specs.declared.journal.Act.{Act}
use Rattle.loop_model.specs.declared.record.QueueRecord.{QueueRecord}
use Rattle.loop_model.specs.Base.{empty_base}
use Rattle.loop_model.specs.Answers.{answer, clock, accepted_count, barrier_count, quit_place, has_disposed, has_halted}
use Rattle.loop_model.specs.Legal.{IsLegal}
use Rattle.loop_model.specs.Live.{live}
use Rattle.loop_model.specs.Pick.{first_eligible, pick}
use Rattle.dash_script.specs.declared.script.Command.{Command}
use Rattle.dash_script.specs.declared.script.Command.TheVariants as command
use Rattle.dash_script.specs.declared.script.Script.{Script}
use Rattle.run_model.specs.Control.{is_controlled, are_before_quit}
use Rattle.run_model.specs.Moments.{IsMomentOf}
use Rattle.run_model.specs.Run.{IsRun}
use Rattle.run_model.specs.declared.report.Report.{Report}
use Rattle.run_model.proofs.Examples.{entry, message, block, by, handler_on, plain_script, journal, frames}
use Rattle.run_model.proofs.NotRuns.{dispatch, look, what_in, number_in}
use Rattle.run_model.proofs.NotRunsTimes.{moment_first}
use Rattle.run_model.proofs.FreeRun.{script, mode, first_post, second_post, halt, acts, report_by}

-- the report with these entries and acts is no run of the script
abbrev IsNoRun : List Entry → List Act → Type 0
IsNoRun es told = IsRun mode script (report_by script 5 es told) → ⊥

-- the time of a message, and of a call
abbrev when_in : Option Call → ℕ
when_in (Some (call.Post p)) = p.when
when_in _ = 0

-- the clock shows the multiples of 5 alone
no_moment : (now : ℕ) → (now % 5 == 0) ≡ false → IsMomentOf mode now → ⊥
no_moment now not_shown m =
    let shown : (m.reading % 5 == 0) ≡ true = m.shown in
    grind (arith, nat_tests, m.since, not_shown, shown)

-- ---- the threads' calls

-- a message without delay that is due before its block
pub due_before_block : IsNoRun (first_post 15 ∷ second_post 5 ∷ look 0 25 1 ∷ look 1 30 0 ∷ halt 40 ∷ []) (dispatch 1 25 ∷ dispatch 0 30 ∷ [])
due_before_block r =
    let p = (r.planned.0 0 (lit< tt)).1.0 in
    let when : min (p.uptime + 0) (2 ^ 64 - 1) ≡ 5 = ap when_in p.call in
    omega (arith, when, p.allowed.0)

-- a message that is due at a time that counts from no moment of the clock
pub due_at_no_moment : IsNoRun (first_post 15 ∷ second_post 17 ∷ look 0 25 0 ∷ look 1 30 1 ∷ halt 40 ∷ []) acts
due_at_no_moment r =
    let p = (r.planned.0 0 (lit< tt)).1.0 in
    let when : min (p.uptime + 0) (2 ^ 64 - 1) ≡ 17 = ap when_in p.call in
    let counts_from : p.uptime ≡ 17 = omega (arith, when) in
    no_moment 17 refl (subst (IsMomentOf mode) counts_from p.allowed.1)

-- posts that are exchanged
pub exchanged : IsNoRun (entry 0 0 (call.Post (message 0 8 15 None)) (reply.Accepted 0) ∷ entry 0 1 (call.Post (message 0 7 20 None)) (reply.Accepted 1) ∷ look 0 25 0 ∷ look 1 30 1 ∷ halt 40 ∷ []) acts
exchanged r =
    let what : 7 ≡ 8 = ap what_in (r.planned.0 0 (lit< tt)).0.call in
    omega (arith, what)

-- a post that is left out
pub left_out : IsNoRun (first_post 15 ∷ look 0 25 0 ∷ halt 40 ∷ []) (dispatch 0 25 ∷ [])
left_out r = (r.planned.0 0 (lit< tt)).1

-- a post that is made twice
pub made_twice : IsNoRun (first_post 15 ∷ second_post 20 ∷ entry 0 2 (call.Post (message 0 8 20 None)) (reply.Accepted 2) ∷ look 0 25 0 ∷ look 1 30 1 ∷ look 2 30 2 ∷ halt 40 ∷ []) (dispatch 0 25 ∷ dispatch 1 30 ∷ dispatch 2 30 ∷ [])
made_twice r = (r.planned.0 0 (lit< tt)).1.1

-- thread 0 makes this call at 10 in place of the posts
abbrev calling : Command → Script
calling c = plain_script 1 1 (handler_on 0 ∷ []) (block 10 (by 0 c ∷ []) ∷ []) 20

-- a barrier before its block
pub early_barrier : IsRun mode (calling (command.Barrier 0 0)) (report_by (calling (command.Barrier 0 0)) 5 (entry 0 0 (call.Barrier 5) (reply.Token 0) ∷ halt 40 ∷ []) []) → ⊥
early_barrier r =
    let late : 10 ≤ 5 = (r.planned.0 0 (lit< tt)).0.no_earlier in
    omega (arith, late)

-- a quit before its block
pub early_quit : IsRun mode (calling (command.Quit 0)) (report_by (calling (command.Quit 0)) 5 (entry 0 0 (call.Quit false 5) reply.NotAllowed ∷ halt 40 ∷ []) []) → ⊥
early_quit r =
    let late : 10 ≤ 5 = (r.planned.0 0 (lit< tt)).0.no_earlier in
    omega (arith, late)

-- a side looper that the controller quits before the thread's call
abbrev side_script : Script
side_script = plain_script 2 1 (handler_on 0 ∷ handler_on 1 ∷ []) (block 10 (by 0 (command.Post 1 7 0) ∷ []) ∷ []) 20

abbrev queue_of : ℕ → List Entry → QueueRecord
queue_of looper es = record { looper = looper; main = looper == 0; lockstep = false; senders = 4; segments = record { base = empty_base 4; entries = es } ∷ [] }

abbrev side_report : List Entry → Report
side_report es = record {
  script = side_script;
  queues = queue_of 0 (entry 3 0 (call.Halt 40) reply.Halted ∷ []) ∷ queue_of 1 es ∷ [];
  journals = journal 0 [] ∷ journal 1 [] ∷ [];
  frames = frames 0 [] ∷ frames 1 [] ∷ [];
  start = 5;
}

pub quit_before_call : IsRun mode side_script (side_report (entry 3 0 (call.Quit true 35) reply.QuitDone
    ∷ entry 0 0 (call.Post (message 1 7 40 None)) (reply.Refused 0) ∷ entry 2 0 (call.Next 40) reply.Disposed ∷ [])) → ⊥
unfolding are_before_quit
quit_before_call r = let before : false ≡ true = r.timely.before_quit.1.0 in cc

-- ---- the histories

-- a look at a moment that the clock never showed
pub look_at_no_moment : IsNoRun (first_post 15 ∷ second_post 20 ∷ look 0 26 0 ∷ look 1 30 1 ∷ halt 40 ∷ []) (dispatch 0 26 ∷ dispatch 1 30 ∷ [])
unfolding clock
look_at_no_moment r = elim r.records.histories.0.clocked.1.1.0 [ inl m ↦ no_moment 26 refl m | inr same ↦ omega (arith, same) ]

-- a start that is not the reading of the clock
pub other_start : (IsRun mode script (report_by script 10 (first_post 15 ∷ second_post 20 ∷ look 0 25 0 ∷ look 1 30 1 ∷ halt 40 ∷ []) acts)) → ⊥
other_start r = let start : 10 ≡ 5 = r.records.mode in omega (arith, start)

-- a message that is dispatched twice
pub dispatched_twice : IsNoRun (first_post 15 ∷ second_post 20 ∷ look 0 25 0 ∷ look 1 30 0 ∷ halt 40 ∷ []) (dispatch 0 25 ∷ dispatch 0 30 ∷ [])
unfolding IsLegal answer clock accepted_count barrier_count quit_place has_disposed has_halted live first_eligible pick
dispatched_twice r =
    let number : 1 ≡ 0 = ap number_in r.records.histories.0.legal.1.1.1.0.reply in
    omega (arith, number)

-- a message that is dispatched before it is due
pub dispatched_early : IsNoRun (first_post 15 ∷ second_post 20 ∷ look 0 15 0 ∷ look 1 15 1 ∷ halt 40 ∷ []) (dispatch 0 15 ∷ dispatch 1 15 ∷ [])
unfolding IsLegal answer clock accepted_count barrier_count quit_place has_disposed has_halted live first_eligible pick
dispatched_early r = let there : None ≡ Some (reply.Dispatched 1) = r.records.histories.0.legal.1.1.1.0.reply in cc

-- time that goes back
pub goes_back : IsNoRun (first_post 15 ∷ second_post 20 ∷ look 0 30 0 ∷ look 1 25 1 ∷ halt 40 ∷ []) (dispatch 0 30 ∷ dispatch 1 25 ∷ [])
unfolding IsLegal clock
goes_back r =
    let later : 30 ≤ 25 = r.records.histories.0.legal.1.1.1.0.timely in
    omega (arith, later)

-- main is halted while a message is due
pub halted_while_due : IsNoRun (first_post 15 ∷ second_post 20 ∷ look 0 25 0 ∷ halt 40 ∷ []) (dispatch 0 25 ∷ [])
unfolding IsLegal answer clock accepted_count barrier_count quit_place has_disposed has_halted live first_eligible pick
halted_while_due r = let there : None ≡ Some reply.Halted = r.records.histories.0.legal.1.1.1.0.reply in cc

-- ---- the end, and what is told

-- main is halted before the end of the script
pub halted_before_end : IsNoRun (first_post 15 ∷ second_post 15 ∷ look 0 15 0 ∷ look 1 15 1 ∷ halt 15 ∷ []) (dispatch 0 15 ∷ dispatch 1 15 ∷ [])
unfolding is_controlled
halted_before_end r = let controlled : false ≡ true = r.controls.0 in cc

-- a dispatch that is told at another time than it was made
pub told_early : IsNoRun (first_post 15 ∷ second_post 20 ∷ look 0 25 0 ∷ look 1 30 1 ∷ halt 40 ∷ []) (dispatch 0 20 ∷ dispatch 1 30 ∷ [])
told_early r = let now : 20 ≡ 25 = ap moment_first r.loopers.0.dispatches in omega (arith, now)
