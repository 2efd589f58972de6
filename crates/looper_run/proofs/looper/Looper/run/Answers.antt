use Rattle.std.proofs.Common.{◌≡◌, refl, ◌∙◌, inl, ◌++◌, map}
use Rattle.loop_io.specs.Moments.{IsMoment}
use Rattle.looper_run.specs.Asked.{Listen, with_asked, asked_by_round}
use Rattle.looper_run.specs.Carried.{unasked}
use Rattle.looper_run.specs.Tests.{IsSameLooper}
use Rattle.looper_run.specs.Loops.{IsStill}
use Rattle.looper_run.proofs.Keeping.{keeps_then, keeps_unasked}
use Rattle.looper_run.proofs.Through.{loops_again}
use Rattle.looper_run.proofs.Rounds.{works_beginning, begun_any}
use Rattle.looper_run.proofs.Sleeping.{still_of, still_then, goes_by}
use Rattle.looper_run.proofs.Pausing.{some_begun, some_begins, asks_both}
use Rattle.looper_run.proofs.looper.Looper.run.Goals as goal

pub returns-in_default-clause-steps : goal.returns-in_default-clause-steps
returns-in_default-clause-steps g c = (c.begin.new.self, begun_any _ c.args.self.now c.begin.new.self c.begin.ensures.begun, inl refl)

pub go-requires-clause-may : goal.go-requires-clause-may
go-requires-clause-may g c κs lives =
    let D = g.D.Dispatcher in
    let came = c.in-Ok.ensures.comes in
    loops_again D.Serves D.origin D.nudges unasked IsSameLooper D.Awaits D.Meets c.args.d.now c.begin.new.d c.args.queue.now c.args.pool.now c.args.self.now c.begin.new.self (still_of c.args.self.now.held c.begin.new.self.held came.keeps.same)
    c.requires.may came.keeps came.rests came.ended

pub returns-in_default-clause-comes : goal.returns-in_default-clause-comes
returns-in_default-clause-comes g c =
    let D = g.D.Dispatcher in
    let a = c.args.self.now.held in
    let b = c.begin.new.self.held in
    record {
      keeps = keeps_unasked D.Serves D.origin D.nudges unasked IsSameLooper IsStill c.args.d.now c.begin.new.d a b (still_of a b c.begin.ensures.comes.keeps.same) c.begin.ensures.comes.keeps;
      rests = tt;
      ended = c.begin.ensures.comes.ended ∙ c.requires.may.on.looper.going;
    }

pub returns-clause-comes : goal.returns-clause-comes
returns-clause-comes g c =
    let D = g.D.Dispatcher in
    let a = c.args.self.now.held in
    let b = c.begin.new.self.held in
    let begun = keeps_unasked D.Serves D.origin D.nudges unasked IsSameLooper IsStill c.args.d.now c.begin.new.d a b (still_of a b c.begin.ensures.comes.keeps.same) c.begin.ensures.comes.keeps in
    record {
      keeps = keeps_then D.Serves D.origin D.nudges unasked IsStill still_then c.args.d.now c.begin.new.d c.go.new.d a b c.go.new.self.held begun c.go.ensures.comes.keeps;
      rests = c.go.ensures.comes.rests;
      ended = c.go.ensures.comes.ended;
    }

pub returns-clause-loops : goal.returns-clause-loops
returns-clause-loops g c =
    let shows = g.C.Clock.shows c.args.by.now.clock.now in
    let now = c.saturating_sub-now.result in
    let moment : IsMoment shows c.args.by.now.start now = record { reading = c.uptime_millis.result; shown = c.uptime_millis.ensures; since = c.saturating_sub-now.ensures } in
    some_begun shows c.args.by.now.start c.args.by.now.cap c.args.queue.now c.args.self.now.held c.begin.new.self.held c.go.new.self.held c.go.result
    (goes_by shows c.args.by.now.start c.args.queue.now now 0 c.args.self.now.held c.begin.new.self.held moment (works_beginning _ c.args.queue.now.constants.setting now c.args.self.now c.begin.new.self c.begin.ensures.begun))
    c.go.ensures.loops

pub returns-clause-steps : goal.returns-clause-steps
returns-clause-steps g c =
    let shows = g.C.Clock.shows c.args.by.now.clock.now in
    let now = c.saturating_sub-now.result in
    let asked = g.D.Dispatcher.asked in
    let moment : IsMoment shows c.args.by.now.start now = record { reading = c.uptime_millis.result; shown = c.uptime_millis.ensures; since = c.saturating_sub-now.ensures } in
    some_begins (λ heard. asked c.begin.new.d ≡ with_asked (asked c.args.d.now) (asked_by_round now heard)) (λ more. asked c.go.new.d ≡ with_asked (asked c.begin.new.d) (map Listen more))
    (λ at heard more. asked c.go.new.d ≡ with_asked (asked c.args.d.now) (asked_by_round at heard ++ map Listen more)) shows c.args.by.now.start c.args.by.now.cap c.args.most now c.args.self.now c.begin.new.self c.go.new.self c.go.result
    moment c.in-Ok.ensures.begun (λ heard more x y. asks_both (asked c.args.d.now) (asked c.begin.new.d) (asked c.go.new.d) now heard more x y) c.go.ensures.steps
