use Rattle.std.proofs.Common.{rules, subst, sym}
use Rattle.atomic_table.specs.Seated.{TableId}
use Rattle.message_pool.specs.Passes.{Claimed}
use Rattle.queue_state.specs.Calls.{LooksAtHome}
use Rattle.looper_run.specs.Holding.{Looping, IsAt}
use Rattle.looper_run.specs.Tests.{Passes}
use Rattle.looper_run.specs.Looks.{StepBy}
use Rattle.looper_run.proofs.looper.Looper.step.Goals as goal

pub act-requires-clause-may : goal.act-requires-clause-may
act-requires-clause-may g c κs lives =
    let at = subst (λ (l : Looping). IsAt c.args.queue.now c.args.pool.now l.held) (sym c.self.view_is) c.requires.may.looper.at in
    let passes = subst (λ (l : Looping). Passes (g.D.Dispatcher.Meets c.args.d.now) l.held) (sym c.self.view_is) c.requires.may.ready.meets in
    record {
      serves = search rules;
      awaits = c.requires.may.ready.awaits;
      answered = record {
        pool = at.pass;
        of_pool = subst (λ (h : TableId). LooksAtHome (λ (k : Claimed). k.home) h c.next-answer.result) c.requires.may.looper.at.home c.next-answer.ensures.home;
        look = record { queue = c.args.queue.now; poster = c.self.inside.poster; now = c.args.now; of = at.poster; look = c.next-answer.ensures.done; passes = passes };
      };
    }

pub returns-clause-step : goal.returns-clause-step
returns-clause-step g c =
    subst (λ (l : Looping). StepBy c.args.now l c.act.new.self c.act.result) c.self.view_is (c.act.ensures.step c.self.inside.poster c.args.now c.next-answer.ensures.done)
