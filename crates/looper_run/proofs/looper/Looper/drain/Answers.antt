use Rattle.std.proofs.Common.{sym, subst, refl, true, ◌∙◌, arith}
use Rattle.looper_run.specs.Holding.{Looping}
use Rattle.looper_run.specs.Going.{GoesThrough}
use Rattle.looper_run.specs.Tests.{IsSameLooper}
use Rattle.looper_run.specs.Looks.{HasEnded}
use Rattle.looper_run.specs.Round.{RoundBy, UnlessWanting}
use Rattle.looper_run.specs.declared.looper.Round.TheVariants.{Ended}
use Rattle.looper_run.proofs.Working.{same_self, same_then}
use Rattle.looper_run.proofs.Sleeping.{still_of}
use Rattle.looper_run.proofs.Keeping.{keeps_self, keeps_then}
use Rattle.looper_run.proofs.Through.{may_again}
use Rattle.looper_run.proofs.Rounds.{goes_none, goes_dispatching, fits_dispatching, goes_idling, drained, ended, ends_marked}
use Rattle.looper_run.proofs.looper.Looper.drain.Goals as goal

pub loop-init : goal.loop-init
loop-init g c =
    let D = g.D.Dispatcher in
    record {
      goes = goes_none c.args.queue.now c.args.now c.args.self.now;
      keeps = keeps_self D.Serves D.origin D.nudges D.asked IsSameLooper c.args.d.now c.args.self.now.held (same_self c.args.self.now.held);
      may = c.requires.may;
    }

pub overflow_add-dispatched : goal.overflow_add-dispatched
overflow_add-dispatched g c =
    let step = c.in-Dispatched.ensures.step in
    omega (arith, fits_dispatching c.args.queue.now c.args.pool.now c.args.now c.loop.dispatched c.args.self.now c.loop.self c.step.new.self c.requires.may.looper.at c.loop.invariant.goes step.0 step.1)

pub loop-preserved-in-Dispatched : goal.loop-preserved-in-Dispatched
loop-preserved-in-Dispatched g c =
    let D = g.D.Dispatcher in
    let here = c.loop.invariant in
    let came = c.in-Dispatched.ensures.comes in
    record {
      goes = goes_dispatching c.args.queue.now c.args.pool.now c.args.now c.loop.dispatched c.args.self.now c.loop.self c.step.new.self c.requires.may.looper.at here.goes c.in-Dispatched.ensures.step.0;
      keeps = keeps_then D.Serves D.origin D.nudges D.asked IsSameLooper same_then c.args.d.now c.loop.d c.step.new.d c.args.self.now.held c.loop.self.held c.step.new.self.held here.keeps came.keeps;
      may = may_again D.Serves D.origin D.nudges D.asked IsSameLooper D.Awaits D.Meets c.loop.d c.step.new.d c.args.queue.now c.args.pool.now c.loop.self c.step.new.self (still_of c.loop.self.held c.step.new.self.held came.keeps.same) here.may came.keeps came.rests came.ended;
    }

pub loop-preserved : goal.loop-preserved
loop-preserved g c =
    let D = g.D.Dispatcher in
    let here = c.loop.invariant in
    let came = c.in-Idled.ensures.comes in
    record {
      goes = goes_idling c.args.queue.now c.args.pool.now c.args.now c.loop.dispatched c.args.self.now c.loop.self c.step.new.self c.requires.may.looper.at here.goes c.in-Idled.ensures.step;
      keeps = keeps_then D.Serves D.origin D.nudges D.asked IsSameLooper same_then c.args.d.now c.loop.d c.step.new.d c.args.self.now.held c.loop.self.held c.step.new.self.held here.keeps came.keeps;
      may = may_again D.Serves D.origin D.nudges D.asked IsSameLooper D.Awaits D.Meets c.loop.d c.step.new.d c.args.queue.now c.args.pool.now c.loop.self c.step.new.self (still_of c.loop.self.held c.step.new.self.held came.keeps.same) here.may came.keeps came.rests came.ended;
    }

pub returns-in-Waits-clause-round : goal.returns-in-Waits-clause-round
returns-in-Waits-clause-round g c =
    drained c.args.queue.now c.args.pool.now c.args.now c.loop.dispatched c.args.self.now c.loop.self c.step.new.self c.requires.may.looper.at c.loop.invariant.goes c.in-Waits.until c.in-Waits.ensures.step

pub returns-in-Ends-clause-round : goal.returns-in-Ends-clause-round
returns-in-Ends-clause-round g c =
    subst (λ (l : Looping). RoundBy c.args.queue.now.constants.setting c.args.now c.args.self.now.held l.held (Ended c.loop.dispatched)) (sym c.self.view_is)
    (ended c.args.queue.now c.args.pool.now c.args.now c.loop.dispatched c.args.self.now c.loop.self c.step.new.self c.requires.may.looper.at c.loop.invariant.goes c.in-Ends.ensures.step)

pub returns-in-Ends-clause-looks : goal.returns-in-Ends-clause-looks
returns-in-Ends-clause-looks g c = (
  c.loop.self,
  c.loop.invariant.goes.looks,
  subst (λ (l : Looping). HasEnded c.args.now c.loop.self (record { held = l.held; idle_owed = l.idle_owed; ended = true })) (sym c.self.view_is)
      (ends_marked c.args.now c.loop.self c.step.new.self c.in-Ends.ensures.step),
)

pub returns-in-Waits-clause-comes : goal.returns-in-Waits-clause-comes
returns-in-Waits-clause-comes g c =
    let D = g.D.Dispatcher in
    let here = c.loop.invariant in
    record {
      keeps = keeps_then D.Serves D.origin D.nudges D.asked IsSameLooper same_then c.args.d.now c.loop.d c.step.new.d c.args.self.now.held c.loop.self.held c.step.new.self.held here.keeps c.step.ensures.comes.keeps;
      rests = c.in-Waits.ensures.comes.rests;
      ended = c.step.ensures.comes.ended ∙ here.may.looper.going;
    }

pub returns-in-NoMemory-clause-comes : goal.returns-in-NoMemory-clause-comes
returns-in-NoMemory-clause-comes g c =
    let D = g.D.Dispatcher in
    let here = c.loop.invariant in
    record {
      keeps = keeps_then D.Serves D.origin D.nudges D.asked IsSameLooper same_then c.args.d.now c.loop.d c.step.new.d c.args.self.now.held c.loop.self.held c.step.new.self.held here.keeps c.step.ensures.comes.keeps;
      rests = tt;
      ended = c.step.ensures.comes.ended ∙ here.may.looper.going;
    }

pub returns-in-Ends-clause-comes : goal.returns-in-Ends-clause-comes
returns-in-Ends-clause-comes g c =
    let D = g.D.Dispatcher in
    let here = c.loop.invariant in
    subst (λ (l : Looping). GoesThrough D.Serves D.origin D.nudges D.asked D.Awaits D.Meets IsSameLooper (λ P. UnlessWanting (Ended c.loop.dispatched) P) c.args.d.now c.step.new.d c.args.self.now (record { held = l.held; idle_owed = l.idle_owed; ended = true }) true) (sym c.self.view_is)
    (record {
      keeps = keeps_then D.Serves D.origin D.nudges D.asked IsSameLooper same_then c.args.d.now c.loop.d c.step.new.d c.args.self.now.held c.loop.self.held c.step.new.self.held here.keeps c.step.ensures.comes.keeps;
      rests = c.in-Ends.ensures.comes.rests;
      ended = refl;
    })
