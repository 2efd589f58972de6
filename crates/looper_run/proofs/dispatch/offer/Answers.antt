use Rattle.std.proofs.Common.{None}
use Rattle.looper_run.proofs.Keeping.{own_then, left_to_route}
use Rattle.looper_run.proofs.dispatch.offer.Goals as goal

pub handle-requires : goal.handle-requires
handle-requires g c =
    let D = g.D.Dispatcher in
    record { ready = left_to_route D.Serves D.origin D.nudges D.asked D.Awaits D.Took D.Meets c.args.d.now c.intercept.new.self c.args.own.now c.intercept.new.own c.args.m.now c.args.now None c.requires.ready c.intercept.ensures.keeps c.in-No.ensures.routed }

pub returns-in-NoMemory-handle-clause-keeps : goal.returns-in-NoMemory-handle-clause-keeps
returns-in-NoMemory-handle-clause-keeps g c =
    let D = g.D.Dispatcher in
    own_then D.Serves D.origin D.nudges D.asked c.args.d.now c.intercept.new.self c.handle.new.self c.args.own.now c.intercept.new.own c.handle.new.own c.intercept.ensures.keeps c.handle.ensures.keeps

pub returns-in-Yes-handle-clause-keeps : goal.returns-in-Yes-handle-clause-keeps
returns-in-Yes-handle-clause-keeps g c =
    let D = g.D.Dispatcher in
    own_then D.Serves D.origin D.nudges D.asked c.args.d.now c.intercept.new.self c.handle.new.self c.args.own.now c.intercept.new.own c.handle.new.own c.intercept.ensures.keeps c.handle.ensures.keeps
