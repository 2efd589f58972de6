-- Reports that are no runs of their script: each has one fault.
use Rattle.std.proofs.Common.{◌≡◌, ℕ, true, false, List, [], ◌∷◌, Option, Some, None, sym, ap, subst, length, arith, lit<}
use Rattle.loop_model.specs.declared.call.Call.{Call}
use Rattle.loop_model.specs.declared.call.Call.TheVariants as call
use Rattle.loop_model.specs.declared.reply.Reply.{Reply}
use Rattle.loop_model.specs.declared.reply.Reply.TheVariants as reply
use Rattle.loop_model.specs.declared.entry.Entry.{Entry}
use Rattle.loop_model.specs.Legal.{IsLegal}
use Rattle.loop_model.specs.Answers.{answer, clock, accepted_count, barrier_count, quit_place, has_disposed, has_halted}
use Rattle.loop_model.specs.Live.{live}
use Rattle.loop_model.specs.Pick.{first_eligible, pick}
use Rattle.run_model.specs.declared.report.Report.{Report}
use Rattle.run_model.specs.Control.{is_called_in_time}
use Rattle.run_model.specs.Run.{IsRun, caused_on}
use Rattle.loop_model.specs.declared.journal.Act.{Act}
use Rattle.loop_model.specs.declared.journal.Act.TheVariants as act
use Rattle.loop_model.specs.declared.journal.Route.TheVariants as route
use Rattle.run_model.specs.Planned.{AreFor, entries_by}
use Rattle.run_model.specs.Loopers.{LooperState, IsSent, after_act}
use Rattle.run_model.proofs.Examples.{entry, message}
use Rattle.run_model.specs.Moments.{in_lockstep}
use Rattle.run_model.proofs.Table.{acting, report_of}
use Rattle.run_model.proofs.WorkedPosts.{two_posts, two_posts_entries}
use Rattle.dash_script.specs.declared.script.Script.{Script}

abbrev pub script : Script
script = two_posts.script

-- the report of the run, with another history and other acts
abbrev with_entries : List Entry → List Act → Report
with_entries es acts = report_of script (acting es acts 0 ∷ [])

-- the act of a dispatch
abbrev pub dispatch : ℕ → ℕ → Act
dispatch number now = act.Dispatch number now route.Handled

abbrev pub advance : ℕ → ℕ → Entry
advance seq now = entry 2 seq (call.Advance now) reply.Advanced

abbrev pub first_post : ℕ → ℕ → Entry
first_post seq number = entry 0 seq (call.Post (message 0 7 15 None)) (reply.Accepted number)

abbrev pub second_post : ℕ → ℕ → Entry
second_post seq number = entry 0 seq (call.Post (message 0 8 10 None)) (reply.Accepted number)

abbrev pub look : ℕ → ℕ → ℕ → Entry
look seq now number = entry 1 seq (call.Next now) (reply.Dispatched number)

abbrev pub halt : ℕ → Entry
halt seq = entry 2 seq (call.Halt 20) reply.Halted

-- the number of a message's post, and of a dispatch
abbrev pub what_in : Option Call → ℕ
what_in (Some (call.Post p)) = p.what
what_in _ = 0

abbrev pub number_in : Option Reply → ℕ
number_in (Some (reply.Dispatched n)) = n
number_in _ = 0

-- a thread that makes a call twice
pub doubled : IsRun in_lockstep script (with_entries (advance 0 10 ∷ first_post 0 0 ∷ first_post 1 1 ∷ second_post 2 2 ∷ look 0 10 2 ∷ advance 1 15 ∷ look 1 15 0 ∷ look 2 15 1 ∷ advance 2 20 ∷ halt 3 ∷ []) (dispatch 2 10 ∷ dispatch 0 15 ∷ dispatch 1 15 ∷ [])) → ⊥
doubled r = (r.planned.0 0 (lit< tt)).1.1

-- a thread that leaves a call out
pub missing : IsRun in_lockstep script (with_entries (advance 0 10 ∷ second_post 0 0 ∷ look 0 10 0 ∷ advance 1 20 ∷ halt 2 ∷ []) (dispatch 0 10 ∷ [])) → ⊥
missing r = (r.planned.0 0 (lit< tt)).1

-- a thread that makes its calls in another order
pub out_of_order : IsRun in_lockstep script (with_entries (advance 0 10 ∷ second_post 0 0 ∷ first_post 1 1 ∷ look 0 10 0 ∷ advance 1 15 ∷ look 1 15 1 ∷ advance 2 20 ∷ halt 3 ∷ []) (dispatch 0 10 ∷ dispatch 1 15 ∷ [])) → ⊥
out_of_order r =
    let what : 7 ≡ 8 = ap what_in (r.planned.0 0 (lit< tt)).0.call in
    omega (arith, what)

-- a dispatch of the message that is not due
pub wrong_number : IsRun in_lockstep script (with_entries (advance 0 10 ∷ first_post 0 0 ∷ second_post 1 1 ∷ look 0 10 0 ∷ look 1 10 1 ∷ advance 1 20 ∷ halt 2 ∷ []) (dispatch 0 10 ∷ dispatch 1 10 ∷ [])) → ⊥
unfolding IsLegal answer clock accepted_count barrier_count quit_place has_disposed has_halted live first_eligible pick
wrong_number r =
    let number : 1 ≡ 0 = ap number_in r.records.histories.0.legal.1.1.1.0.reply in
    omega (arith, number)

-- the controller advances past the messages, which then come late
pub late : IsRun in_lockstep script (with_entries (advance 0 10 ∷ first_post 0 0 ∷ second_post 1 1 ∷ advance 1 20 ∷ look 0 20 1 ∷ look 1 20 0 ∷ halt 2 ∷ []) (dispatch 1 20 ∷ dispatch 0 20 ∷ [])) → ⊥
unfolding is_called_in_time quit_place first_eligible pick live
late r = let on_time : false ≡ true = r.timely.histories.0.controls in cc

-- a journal that leaves a dispatch out
pub act_missing : IsRun in_lockstep script (with_entries two_posts_entries (dispatch 1 10 ∷ [])) → ⊥
unfolding after_act
act_missing r =
    let l = r.loopers.0 in
    (subst (λ (b : LooperState). AreFor IsSent [] (caused_on 0 b 0 l.disposed_at) (entries_by 1 two_posts_entries)) (sym l.acts.1.1) l.calls.0).1

-- a journal with a paint that nothing caused
pub paint_of_nothing : IsRun in_lockstep script (with_entries two_posts_entries (act.Paint 0 1 ∷ dispatch 1 10 ∷ dispatch 0 15 ∷ [])) → ⊥
unfolding after_act
paint_of_nothing r =
    let painted : 0 ≡ 1 = ap length (r.loopers.0.acts.1.1.1.0.painted) in
    omega (arith, painted)
