use Rattle.std.proofs.Common.{◌∙◌}
use Rattle.looper_run.specs.Holding.{held}
use Rattle.looper_run.specs.Tests.{IsSameLooper, IsLent}
use Rattle.looper_run.proofs.Keeping.{to_route, own_behind}
use Rattle.looper_run.proofs.dispatch.dispatch_one.Goals as goal

pub route-requires-clause-ready : goal.route-requires-clause-ready
route-requires-clause-ready g c κs within =
    let D = g.D.Dispatcher in
    to_route D.Serves D.origin D.nudges D.asked D.Awaits D.Took D.Meets c.args.d.now c.before-2.new.self (held c.args.own.now) c.args.number c.args.m.now c.before-2.new.m c.args.now
    c.requires.ready c.before-2.ensures.rest c.before-2.ensures.awaits c.before-2.ensures.took c.before-2.ensures.carries

pub returns-in-Some-clause-keeps : goal.returns-in-Some-clause-keeps
returns-in-Some-clause-keeps g c =
    let D = g.D.Dispatcher in
    let q = own_behind D.Serves D.origin D.nudges D.asked D.Awaits D.Took D.Meets IsLent c.args.d.now c.before-2.new.self c.route.new.d c.args.own.now c.route.new.own c.before-2.ensures.carries c.route.ensures.keeps in
    let s = q.lent.same in
    record {
      serves = q.serves;
      origin = q.origin;
      nudges = q.nudges;
      asked = q.asked;
      own = record { poster = q.own.poster; pass = q.own.pass; journal = q.own.journal };
      lent = record { table = s.table; sender = s.sender; constants = s.constants; heard = s.heard; turns = s.turns; home = s.home; looper = c.tell.ensures.looper ∙ s.looper };
    }

pub returns-in-None-clause-keeps : goal.returns-in-None-clause-keeps
returns-in-None-clause-keeps g c =
    let D = g.D.Dispatcher in
    let p = c.route.ensures.keeps in
    own_behind D.Serves D.origin D.nudges D.asked D.Awaits D.Took D.Meets IsSameLooper c.args.d.now c.before-2.new.self c.route.new.d c.args.own.now c.route.new.own c.before-2.ensures.carries
    (record { serves = p.serves; origin = p.origin; nudges = p.nudges; asked = p.asked; own = p.own; lent = p.lent.same })
