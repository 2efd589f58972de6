use Rattle.std.proofs.Common.{◌≡◌, ℕ, true, refl, sym, ap, subst, suc, ◌∙◌, inr, map, List, [], Option}
use Rattle.looper_run.specs.Holding.{Looping}
use Rattle.looper_run.specs.Asked.{Asked, Listening, Listen, with_asked, any_heard}
use Rattle.looper_run.specs.Carried.{unasked}
use Rattle.looper_run.specs.Ready.{RestsBetween}
use Rattle.looper_run.specs.Loops.{IsStill, UnlessLost, has_ended_looper, HasStepped, LoopBy, StepsUntil, Stepped, IsClosed}
use Rattle.looper_run.specs.Going.{GoesThrough}
use Rattle.looper_run.specs.declared.step.Step.TheVariants.{Ends}
use Rattle.looper_run.specs.declared.by_clock.Loop.{Loop}
use Rattle.looper_run.specs.declared.by_clock.Loop.TheVariants.{Ended}
use Rattle.looper_run.proofs.Keeping.{keeps_self, keeps_then, keeps_unasked, keeps_then_closed, rests_closed}
use Rattle.looper_run.proofs.Through.{loops_again}
use Rattle.looper_run.proofs.Bounds.{AreMade, made_none, made_one, made_all}
use Rattle.looper_run.proofs.Asking.{with_none}
use Rattle.looper_run.proofs.Sleeping.{of_still, still_self, still_then, goes_self, goes_then, goes_step}
use Rattle.looper_run.proofs.Pausing.{unless_pauses, pause_goes_on, loop_ends, loop_pauses, closed_as, steps_pause, steps_marked}
use Rattle.looper_run.proofs.looper.Looper.go.Goals as goal

pub loop-init : goal.loop-init
loop-init g c =
    let D = g.D.Dispatcher in
    let a = c.args.self.now.held in
    record {
      goes = goes_self (g.C.Clock.shows c.args.by.now.clock.now) c.args.by.now.start c.args.queue.now a;
      steps = (0, refl, made_none c.args.most);
      keeps = keeps_self D.Serves D.origin D.nudges D.asked IsStill c.args.d.now a (still_self a);
      may = c.requires.may;
    }

pub loop-preserved : goal.loop-preserved
loop-preserved g c =
    let D = g.D.Dispatcher in
    let shows = g.C.Clock.shows c.args.by.now.clock.now in
    let here = c.loop.invariant in
    let q = c.args.queue.now in
    let a = c.args.self.now in
    let of = of_still q a.held c.loop.self.held here.goes.works.still c.requires.may.on.looper.at.poster in
    let went = c.in-Goes.ensures.paced in
    let came = c.in-Goes.ensures.comes in
    let made = made_one c.args.most c.loop.left here.steps.0 (sym c.is_spent.ensures ∙ c.if-is_spent.false) here.steps.2 in
    record {
      goes = goes_then shows c.args.by.now.start q a.held c.loop.self.held c.pace.new.self.held here.goes (goes_step shows c.args.by.now.start c.args.by.now.cap q c.loop.self c.pace.new.self went.0 of went.1 went.2);
      steps = (suc here.steps.0, (c.loop.self, here.steps.1, went.0, went.1, went.2), subst (λ (left : Option ℕ). AreMade c.args.most (suc here.steps.0) left) (sym c.one_less-left.ensures) made);
      keeps = keeps_then D.Serves D.origin D.nudges D.asked IsStill still_then c.args.d.now c.loop.d c.pace.new.d a.held c.loop.self.held c.pace.new.self.held here.keeps came.keeps;
      may = loops_again D.Serves D.origin D.nudges D.asked IsStill D.Awaits D.Meets c.loop.d c.pace.new.d q c.args.pool.now c.loop.self c.pace.new.self came.keeps.same here.may came.keeps came.rests came.ended;
    }

pub returns-in-Ends-clause-comes : goal.returns-in-Ends-clause-comes
returns-in-Ends-clause-comes g c =
    let D = g.D.Dispatcher in
    let here = c.loop.invariant in
    let all = keeps_then D.Serves D.origin D.nudges D.asked IsStill still_then c.args.d.now c.loop.d c.pace.new.d c.args.self.now.held c.loop.self.held c.pace.new.self.held here.keeps c.pace.ensures.comes.keeps in
    subst (λ (l : Looping). GoesThrough D.Serves D.origin D.nudges unasked D.Awaits D.Meets IsStill (λ P. UnlessLost Ended P) c.args.d.now c.pace.new.d c.args.self.now (record { held = l.held; idle_owed = l.idle_owed; ended = true }) true) (sym c.self.view_is)
    (record {
      keeps = keeps_unasked D.Serves D.origin D.nudges D.asked IsStill IsStill c.args.d.now c.pace.new.d c.args.self.now.held c.pace.new.self.held all.same all;
      rests = c.in-Ends.ensures.comes.rests;
      ended = refl;
    })

pub returns-in-Ends-clause-loops : goal.returns-in-Ends-clause-loops
returns-in-Ends-clause-loops g c =
    let shows = g.C.Clock.shows c.args.by.now.clock.now in
    subst (λ (l : Looping). LoopBy shows c.args.by.now.start c.args.by.now.cap c.args.queue.now.constants.setting c.args.self.now.held l.held Ended) (sym c.self.view_is)
    (loop_ends shows c.args.by.now.start c.args.by.now.cap c.args.queue.now c.args.self.now c.loop.self c.pace.new.self c.requires.may.on.looper.at.poster c.loop.invariant.goes c.in-Ends.ensures.paced)

pub returns-in-Ends-clause-steps : goal.returns-in-Ends-clause-steps
returns-in-Ends-clause-steps g c =
    let shows = g.C.Clock.shows c.args.by.now.clock.now in
    let marked = subst (λ (l : Looping). HasStepped shows c.args.by.now.start c.args.by.now.cap c.loop.self (record { held = l.held; idle_owed = l.idle_owed; ended = true }) Ends) (sym c.self.view_is)
    (steps_marked shows c.args.by.now.start c.args.by.now.cap c.loop.self c.pace.new.self c.in-Ends.ensures.paced) in
    (c.loop.invariant.steps.0, c.loop.self, c.loop.invariant.steps.1, marked, (c.pace.ensures.comes.keeps.asked ∙ c.loop.invariant.keeps.asked) ∙ with_none (g.D.Dispatcher.asked c.args.d.now))

pub returns-in-NoMemory-clause-comes : goal.returns-in-NoMemory-clause-comes
returns-in-NoMemory-clause-comes g c =
    let D = g.D.Dispatcher in
    let here = c.loop.invariant in
    let all = keeps_then D.Serves D.origin D.nudges D.asked IsStill still_then c.args.d.now c.loop.d c.pace.new.d c.args.self.now.held c.loop.self.held c.pace.new.self.held here.keeps c.pace.ensures.comes.keeps in
    record {
      keeps = keeps_unasked D.Serves D.origin D.nudges D.asked IsStill IsStill c.args.d.now c.pace.new.d c.args.self.now.held c.pace.new.self.held all.same all;
      rests = tt;
      ended = c.pace.ensures.comes.ended ∙ here.may.on.looper.going;
    }

pub returns-in_default-clause-comes : goal.returns-in_default-clause-comes
returns-in_default-clause-comes g c =
    let D = g.D.Dispatcher in
    let here = c.loop.invariant in
    let all = keeps_then D.Serves D.origin D.nudges D.asked IsStill still_then c.args.d.now c.loop.d c.pace.new.d c.args.self.now.held c.loop.self.held c.pace.new.self.held here.keeps c.pace.ensures.comes.keeps in
    record {
      keeps = keeps_then_closed D.Serves D.origin D.nudges D.Awaits D.Meets _ c.pace.new.d c.close.new.d c.pace.new.self c.close.new.self c.close.ensures.closed c.close.ensures.carries D.asked c.args.d.now c.args.self.now.held all;
      rests = tt;
      ended = c.close.ensures.ended ∙ (c.pace.ensures.comes.ended ∙ here.may.on.looper.going);
    }

pub returns-in_default-clause-steps : goal.returns-in_default-clause-steps
returns-in_default-clause-steps g c = (
  c.loop.invariant.steps.0,
  c.loop.self,
  c.loop.invariant.steps.1,
  inr (c.pace.new.self, c.in-Pauses.pause, c.in-Pauses.ensures.paced, closed_as _ any_heard c.pace.new.self c.close.new.self (λ heard h. tt) c.close.ensures.closed),
)

pub returns-in-Pauses-clause-comes : goal.returns-in-Pauses-clause-comes
returns-in-Pauses-clause-comes g c =
    let D = g.D.Dispatcher in
    let here = c.loop.invariant in
    let all = keeps_then D.Serves D.origin D.nudges D.asked IsStill still_then c.args.d.now c.loop.d c.pace.new.d c.args.self.now.held c.loop.self.held c.pace.new.self.held here.keeps c.pace.ensures.comes.keeps in
    let P : Type 0 = RestsBetween D.Awaits D.Meets c.close.new.d c.close.new.self.held in
    let rests = unless_pauses P c.in-Pauses.pause (rests_closed D.Serves D.origin D.nudges D.Awaits D.Meets _ c.pace.new.d c.close.new.d c.pace.new.self c.close.new.self c.close.ensures.closed c.close.ensures.carries c.in-Pauses.ensures.comes.rests) in
    subst (λ (r : Loop). GoesThrough D.Serves D.origin D.nudges unasked D.Awaits D.Meets IsStill (λ Q. UnlessLost r Q) c.args.d.now c.close.new.d c.args.self.now c.close.new.self (has_ended_looper r)) (sym c.as_loop.ensures) (record {
      keeps = keeps_then_closed D.Serves D.origin D.nudges D.Awaits D.Meets _ c.pace.new.d c.close.new.d c.pace.new.self c.close.new.self c.close.ensures.closed c.close.ensures.carries D.asked c.args.d.now c.args.self.now.held all;
      rests = rests;
      ended = c.close.ensures.ended ∙ (c.pace.ensures.comes.ended ∙ (here.may.on.looper.going ∙ pause_goes_on c.in-Pauses.pause));
    })

pub returns-in-Pauses-clause-loops : goal.returns-in-Pauses-clause-loops
returns-in-Pauses-clause-loops g c =
    let shows = g.C.Clock.shows c.args.by.now.clock.now in
    subst (λ (r : Loop). LoopBy shows c.args.by.now.start c.args.by.now.cap c.args.queue.now.constants.setting c.args.self.now.held c.close.new.self.held r) (sym c.as_loop.ensures)
    (loop_pauses shows c.args.by.now.start c.args.by.now.cap c.args.queue.now _ c.in-Pauses.pause c.args.self.now c.loop.self c.pace.new.self c.close.new.self c.requires.may.on.looper.at.poster c.loop.invariant.goes c.in-Pauses.ensures.paced c.close.ensures.closed)

pub returns-in-Pauses-clause-steps : goal.returns-in-Pauses-clause-steps
returns-in-Pauses-clause-steps g c =
    let shows = g.C.Clock.shows c.args.by.now.clock.now in
    let asked = g.D.Dispatcher.asked in
    let same : asked c.pace.new.d ≡ asked c.args.d.now = c.pace.ensures.comes.keeps.asked ∙ c.loop.invariant.keeps.asked in
    let Q : List Listening → Type 0 = λ more. asked c.close.new.d ≡ with_asked (asked c.args.d.now) (map Listen more) in
    let closed : IsClosed Q c.pace.new.self c.close.new.self = closed_as _ Q c.pace.new.self c.close.new.self (λ more is. is ∙ ap (λ (t : Option (List Asked)). with_asked t (map Listen more)) same) c.in-Ok.ensures.closed in
    subst (λ (r : Loop). StepsUntil Q shows c.args.by.now.start c.args.by.now.cap c.args.self.now c.close.new.self r) (sym c.as_loop.ensures)
    (steps_pause Q shows c.args.by.now.start c.args.by.now.cap c.loop.invariant.steps.0 c.args.self.now c.loop.self c.pace.new.self c.close.new.self c.in-Pauses.pause c.loop.invariant.steps.1 c.in-Pauses.ensures.paced closed)

pub returns-then-is_spent-clause-comes : goal.returns-then-is_spent-clause-comes
returns-then-is_spent-clause-comes g c =
    let D = g.D.Dispatcher in
    let here = c.loop.invariant in
    record {
      keeps = keeps_unasked D.Serves D.origin D.nudges D.asked IsStill IsStill c.args.d.now c.loop.d c.args.self.now.held c.loop.self.held here.keeps.same here.keeps;
      rests = record { awaits = here.may.on.ready.awaits; meets = here.may.on.ready.meets };
      ended = here.may.on.looper.going;
    }

pub returns-then-is_spent-clause-loops : goal.returns-then-is_spent-clause-loops
returns-then-is_spent-clause-loops g c = c.loop.invariant.goes.works

pub returns-then-is_spent-clause-steps : goal.returns-then-is_spent-clause-steps
returns-then-is_spent-clause-steps g c =
    let asked = g.D.Dispatcher.asked in
    let here = c.loop.invariant in
    let P : ℕ → Type 0 = λ n. Stepped (g.C.Clock.shows c.args.by.now.clock.now) c.args.by.now.start c.args.by.now.cap n c.args.self.now c.loop.self × (asked c.loop.d ≡ with_asked (asked c.args.d.now) (map Listen [])) in
    made_all P c.args.most c.loop.left here.steps.0 (sym c.is_spent.ensures ∙ c.if-is_spent.true) here.steps.2 (here.steps.1, here.keeps.asked ∙ with_none (asked c.args.d.now))
