use Rattle.std.proofs.Common.{rules, subst, sym, refl}
use Rattle.atomic_table.specs.Seated.{TableId}
use Rattle.message_pool.specs.Passes.{Claimed}
use Rattle.shared_queue.specs.Waiting.{WaitsAtHome}
use Rattle.looper_run.specs.Holding.{Looping, IsAt}
use Rattle.looper_run.specs.Tests.{Passes}
use Rattle.looper_run.specs.Ready.{RestsBetween}
use Rattle.looper_run.specs.Looks.{by_poster, IsAnswered}
use Rattle.looper_run.specs.Loops.{HasStepped, HasPaused, HasPaced, UnlessHalted, pace_of}
use Rattle.looper_run.specs.declared.by_clock.Pace.{Pace}
use Rattle.looper_run.proofs.Pausing.{may_act, passes_pause, pauses, paces, unless_paced}
use Rattle.looper_run.proofs.looper.Looper.pace.Goals as goal

pub act-step-requires-clause-may : goal.act-step-requires-clause-may
act-step-requires-clause-may g c κs lives =
    let M = g.D.Dispatcher.Meets c.args.d.now in
    let shows = g.C.Clock.shows c.args.by.now.clock.now in
    let l : Looping = record { held = record { poster = c.self.inside.poster; pass = c.self.inside.pass; journal = c.self.inside.journal }; idle_owed = c.self.inside.idle_owed; ended = c.self.inside.ended } in
    let at = subst (λ (x : Looping). IsAt c.args.queue.now c.args.pool.now x.held) (sym c.self.view_is) c.requires.may.on.looper.at in
    let passes = subst (λ (x : Looping). Passes M x.held) (sym c.self.view_is) c.requires.may.on.ready.meets in
    let w = c.wait_next-waited.ensures.done in
    let got = c.in-Ok.ensures.answer.answers shows c.args.by.now.start l.idle_owed c.args.by.now.cap w.1 c.wait_next-waited.new.self w.3 in
    let answered : IsAnswered M c.args.pool.now (by_poster l c.wait_next-waited.new.self) c.in-Ok.answer = record {
      pool = at.pass;
      of_pool = c.in-Ok.ensures.answer.home c.args.pool.now (subst (λ (h : TableId). WaitsAtHome (λ (k : Claimed). k.home) h c.wait_next-waited.result) c.requires.may.on.looper.at.home c.wait_next-waited.ensures.home);
      look = may_act M (g.met.D.Dispatcher.others c.args.d.now) (g.met.D.Dispatcher.quiet c.args.d.now) shows c.args.by.now.start c.args.by.now.cap c.args.queue.now c.args.pool.now l c.wait_next-waited.new.self w.0 w.1 got.0 c.in-Ok.answer at passes w.2 got.1;
    } in
    record { serves = search rules; awaits = c.requires.may.on.ready.awaits; answered = answered }

pub returns-clause-paced : goal.returns-clause-paced
returns-clause-paced g c =
    let shows = g.C.Clock.shows c.args.by.now.clock.now in
    let l : Looping = record { held = record { poster = c.self.inside.poster; pass = c.self.inside.pass; journal = c.self.inside.journal }; idle_owed = c.self.inside.idle_owed; ended = c.self.inside.ended } in
    let w = c.wait_next-waited.ensures.done in
    let got = c.in-Ok.ensures.answer.answers shows c.args.by.now.start l.idle_owed c.args.by.now.cap w.1 c.wait_next-waited.new.self w.3 in
    let stepped : HasStepped shows c.args.by.now.start c.args.by.now.cap l c.act-step.new.self c.act-step.result = (by_poster l w.1, (w.1, w.0, w.2, refl), got.0, got.1.moment, c.act-step.ensures.step w.1 got.0 got.1.look) in
    subst (λ (r : Pace). HasPaced shows c.args.by.now.start c.args.by.now.cap c.args.self.now c.act-step.new.self r) (sym c.paced.ensures)
    (subst (λ (x : Looping). HasPaced shows c.args.by.now.start c.args.by.now.cap x c.act-step.new.self (pace_of c.act-step.result)) c.self.view_is (paces shows c.args.by.now.start c.args.by.now.cap l c.act-step.new.self c.in-Ok.answer c.act-step.result c.in-Ok.ensures.answer.no_wait c.act-step.ensures.waits stepped))

pub returns-in-Err-clause-paced : goal.returns-in-Err-clause-paced
returns-in-Err-clause-paced g c =
    let shows = g.C.Clock.shows c.args.by.now.clock.now in
    let l : Looping = record { held = record { poster = c.self.inside.poster; pass = c.self.inside.pass; journal = c.self.inside.journal }; idle_owed = c.self.inside.idle_owed; ended = c.self.inside.ended } in
    subst (λ (x : Looping). HasPaused shows c.args.by.now.start c.args.by.now.cap x (by_poster l c.wait_next-waited.new.self) c.in-Err.pause) c.self.view_is
    (pauses shows c.args.by.now.start c.args.by.now.cap l c.wait_next-waited.new.self c.wait_next-waited.result c.in-Err.pause c.wait_next-waited.ensures.done c.in-Err.ensures.pause)

pub returns-in-Err-clause-comes : goal.returns-in-Err-clause-comes
returns-in-Err-clause-comes g c =
    let M = g.D.Dispatcher.Meets c.args.d.now in
    let l : Looping = record { held = record { poster = c.self.inside.poster; pass = c.self.inside.pass; journal = c.self.inside.journal }; idle_owed = c.self.inside.idle_owed; ended = c.self.inside.ended } in
    let passes = subst (λ (x : Looping). Passes M x.held) (sym c.self.view_is) c.requires.may.on.ready.meets in
    let meets = passes_pause M (g.met.D.Dispatcher.others c.args.d.now) (g.met.D.Dispatcher.quiet c.args.d.now) (g.C.Clock.shows c.args.by.now.clock.now) c.args.by.now.start c.args.by.now.cap l c.wait_next-waited.new.self c.wait_next-waited.result c.in-Err.pause passes c.wait_next-waited.ensures.done c.in-Err.ensures.pause in
    record { keeps = search rules; rests = record { awaits = c.requires.may.on.ready.awaits; meets = meets }; ended = search rules }

pub returns-clause-comes : goal.returns-clause-comes
returns-clause-comes g c =
    let D = g.D.Dispatcher in
    let P : Type 0 = RestsBetween D.Awaits D.Meets c.act-step.new.d c.act-step.new.self.held in
    let rests = subst (λ (r : Pace). UnlessHalted r P) (sym c.paced.ensures) (unless_paced P c.act-step.result c.act-step.ensures.comes.rests) in
    record { keeps = search rules; rests = rests; ended = search rules }
