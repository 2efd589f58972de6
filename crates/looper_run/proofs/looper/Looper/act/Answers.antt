use Rattle.std.proofs.Common.{rules, subst, sym, refl, true, inl, None}
use Rattle.atomic_table.specs.Seated.{TableId}
use Rattle.message_pool.specs.Passes.{Claimed}
use Rattle.queue_state.specs.declared.answers.Nexted.{Nexted}
use Rattle.shared_queue.specs.Calls.{NextedBy}
use Rattle.looper_run.specs.Holding.{Holding, Looping, held}
use Rattle.looper_run.specs.Acts.{IsIdleAct}
use Rattle.looper_run.specs.Told.{Dispatches, GivesBack}
use Rattle.looper_run.specs.Tests.{Passes}
use Rattle.looper_run.specs.Ready.{RestsBetween, HasToDispatch}
use Rattle.looper_run.specs.Looks.{StepBy, WaitsAsTold, HasDispatched, GivesUp, looked_by, by_poster}
use Rattle.looper_run.specs.Round.{UnlessStopped}
use Rattle.looper_run.specs.declared.step.Step.{Step}
use Rattle.looper_run.proofs.Looking.{fits_dispatches}
use Rattle.looper_run.proofs.Acting.{answer_taken, answer_number, answer_claim, answer_idle, answer_wait, answer_over, answer_end}
use Rattle.looper_run.proofs.Idling.{grows_none}
use Rattle.looper_run.proofs.looper.Looper.act.Goals as goal
use Rattle.looper_run.proofs.looper.Looper.act.Goals.{in-Ok, in-Err, in-Ok-run_idle, in-Err-run_idle}

pub dispatch-requires-clause-may : goal.dispatch-requires-clause-may
dispatch-requires-clause-may g c κs lives =
    let D = g.D.Dispatcher in
    let d = c.args.d.now in
    let M = D.Meets d in
    let n = c.in-Taken.number in
    let m = c.in-Taken.node in
    let ready = subst (λ (l : Looping). HasToDispatch D.Serves D.Awaits D.Meets d l.held n m c.in-Taken.now) (sym c.self.view_is) (record {
      serves = c.requires.may.serves;
      awaits = c.requires.may.awaits;
      taken = answer_taken M c.args.self.now c.args.answer c.requires.may.answered.look n c.in-Taken.now m (g.met.D.Dispatcher.others d) c.in-Taken.is;
      number = answer_number M c.args.self.now c.args.answer c.requires.may.answered.look n c.in-Taken.now m c.in-Taken.is;
      claim = answer_claim M c.args.self.now c.args.answer c.requires.may.answered.look n c.in-Taken.now m c.in-Taken.is;
    }) in
    record { ready = ready; pass = search rules; node = search rules }

pub returns-after-dispatch-clause-step : goal.returns-after-dispatch-clause-step
returns-after-dispatch-clause-step g c p now look =
    let l = c.args.self.now in
    let before : Looping = by_poster l p in
    let after : Looping = record { held = held c.dispatch.new.own; idle_owed = true; ended = c.self.inside.ended } in
    let took = subst (λ (r : Nexted Claimed TableId). NextedBy p l.held.poster now l.idle_owed r) c.in-Taken.is look in
    elim c.match-dispatch.branch [
      | in-Ok w ↦
          (let done = subst (λ (x : Looping). Dispatches x.held after.held c.in-Taken.node c.in-Taken.now) c.self.view_is w.in-Ok.ensures.done in
          let did : HasDispatched now before after = record { looked = l.held.poster; number = c.in-Taken.number; moment = c.in-Taken.now; node = c.in-Taken.node; look = took; done = done; idle_owed = refl } in
          let fits = fits_dispatches (looked_by before.held l.held.poster) after.held c.in-Taken.node c.in-Taken.now done in
          subst (λ (r : Step). StepBy now before after r) (sym w.result-is) (did, fits))
      | in-Err w ↦
          (let back = subst (λ (x : Looping). GivesBack x.held after.held c.in-Taken.node) c.self.view_is w.in-Err.ensures.given_up in
          let up : GivesUp now before after = inl (l.held.poster, c.in-Taken.number, c.in-Taken.now, c.in-Taken.node, took, back) in
          subst (λ (r : Step). StepBy now before after r) (sym w.result-is) up)
    ]

pub returns-after-dispatch-clause-waits : goal.returns-after-dispatch-clause-waits
returns-after-dispatch-clause-waits g c = elim c.match-dispatch.branch [
  | in-Ok w ↦ subst (λ (r : Step). WaitsAsTold c.args.answer r) (sym w.result-is) tt
  | in-Err w ↦ subst (λ (r : Step). WaitsAsTold c.args.answer r) (sym w.result-is) tt
]

pub returns-after-run_idle-clause-waits : goal.returns-after-run_idle-clause-waits
returns-after-run_idle-clause-waits g c = elim c.match-run_idle.branch [
  | in-Ok-run_idle w ↦ subst (λ (r : Step). WaitsAsTold c.args.answer r) (sym w.result-is) tt
  | in-Err-run_idle w ↦ subst (λ (r : Step). WaitsAsTold c.args.answer r) (sym w.result-is) tt
]

pub returns-after-run_idle-clause-comes : goal.returns-after-run_idle-clause-comes
returns-after-run_idle-clause-comes g c =
    let D = g.D.Dispatcher in
    let M = D.Meets c.args.d.now in
    let l = c.args.self.now in
    let here = subst (λ (x : Looping). M x.held.poster.sender x.held.poster.view.seen x.held.journal.acts) (sym c.self.view_is)
    (answer_idle M l c.args.answer c.requires.may.answered.look (g.met.D.Dispatcher.others c.args.d.now) (g.met.D.Dispatcher.quiet c.args.d.now) l.held.journal.acts c.in-Idle.is (grows_none IsIdleAct l.held.journal.acts)) in
    let after : Holding = record { poster = c.self.inside.poster; pass = c.self.inside.pass; journal = c.run_idle.new.journal } in
    let still : RestsBetween D.Awaits D.Meets c.run_idle.new.d after = record {
      awaits = c.run_idle.ensures.tells.carries.awaits None c.requires.may.awaits;
      meets = c.run_idle.ensures.tells.carries.meets c.self.inside.poster.sender c.self.inside.poster.view.seen here;
    } in
    let rests : UnlessStopped c.match-run_idle.result (RestsBetween D.Awaits D.Meets c.run_idle.new.d after) = elim c.match-run_idle.branch [
      | in-Ok-run_idle w ↦ subst (λ (r : Step). UnlessStopped r (RestsBetween D.Awaits D.Meets c.run_idle.new.d after)) (sym w.result-is) still
      | in-Err-run_idle w ↦ subst (λ (r : Step). UnlessStopped r (RestsBetween D.Awaits D.Meets c.run_idle.new.d after)) (sym w.result-is) tt
    ] in
    record { keeps = search rules; rests = rests; ended = search rules }

pub returns-in-Wait-clause-comes : goal.returns-in-Wait-clause-comes
returns-in-Wait-clause-comes g c =
    let M = g.D.Dispatcher.Meets c.args.d.now in
    let passes = answer_wait M c.args.self.now c.args.answer c.requires.may.answered.look (g.met.D.Dispatcher.others c.args.d.now) (g.met.D.Dispatcher.quiet c.args.d.now) c.in-Wait.until c.in-Wait.is in
    record { keeps = search rules; rests = record { awaits = c.requires.may.awaits; meets = passes }; ended = search rules }

pub returns-in-End-clause-comes : goal.returns-in-End-clause-comes
returns-in-End-clause-comes g c =
    let M = g.D.Dispatcher.Meets c.args.d.now in
    let passes = subst (λ (x : Looping). Passes M x.held) (sym c.self.view_is)
    (answer_end M c.args.self.now c.args.answer c.requires.may.answered.look (g.met.D.Dispatcher.others c.args.d.now) (g.met.D.Dispatcher.disposal c.args.d.now) c.in-End.left c.in-End.is) in
    record { keeps = search rules; rests = record { awaits = c.requires.may.awaits; meets = passes }; ended = search rules }

pub returns-in-Over-clause-comes : goal.returns-in-Over-clause-comes
returns-in-Over-clause-comes g c =
    let M = g.D.Dispatcher.Meets c.args.d.now in
    let passes = answer_over M c.args.self.now c.args.answer c.requires.may.answered.look (g.met.D.Dispatcher.others c.args.d.now) (g.met.D.Dispatcher.quiet c.args.d.now) c.in-Over.is in
    record { keeps = search rules; rests = record { awaits = c.requires.may.awaits; meets = passes }; ended = search rules }
