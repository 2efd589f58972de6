use Rattle.std.proofs.Common.{rules}
use Rattle.handler_post.specs.declared.way.Sent.TheVariants.{Accepted, Refused, NoMemory}
use Rattle.dash_hall.proofs.Sending.{sends_on}
use Rattle.dash_hall.proofs.host.HostFrameHost.send.Goals as goal

pub returns-in-Accepted-clause-keeps : goal.returns-in-Accepted-clause-keeps
returns-in-Accepted-clause-keeps g c =
    let h = c.requires.ready in
    record { ready = (sends_on _ c.args.self.now.handler _ _ c.args.what c.args.arg c.args.when (Accepted c.in-Accepted.number c.in-Accepted.wake) h (record { poster = h.of_queue; pass = h.of_pool; home = h.home }) c.send_async_at.ensures.ready c.send_async_at.ensures.same c.in-Accepted.ensures.did).0; origin = search rules; moments = search rules }

pub returns-in-Accepted-clause-sends : goal.returns-in-Accepted-clause-sends
returns-in-Accepted-clause-sends g c =
    let h = c.requires.ready in
    (sends_on _ c.args.self.now.handler _ _ c.args.what c.args.arg c.args.when (Accepted c.in-Accepted.number c.in-Accepted.wake) h (record { poster = h.of_queue; pass = h.of_pool; home = h.home }) c.send_async_at.ensures.ready c.send_async_at.ensures.same c.in-Accepted.ensures.did).1

pub returns-in-Refused-clause-keeps : goal.returns-in-Refused-clause-keeps
returns-in-Refused-clause-keeps g c =
    let h = c.requires.ready in
    record { ready = (sends_on _ c.args.self.now.handler _ _ c.args.what c.args.arg c.args.when (Refused c.in-Refused.place) h (record { poster = h.of_queue; pass = h.of_pool; home = h.home }) c.send_async_at.ensures.ready c.send_async_at.ensures.same c.in-Refused.ensures.did).0; origin = search rules; moments = search rules }

pub returns-in-Refused-clause-sends : goal.returns-in-Refused-clause-sends
returns-in-Refused-clause-sends g c =
    let h = c.requires.ready in
    (sends_on _ c.args.self.now.handler _ _ c.args.what c.args.arg c.args.when (Refused c.in-Refused.place) h (record { poster = h.of_queue; pass = h.of_pool; home = h.home }) c.send_async_at.ensures.ready c.send_async_at.ensures.same c.in-Refused.ensures.did).1

pub returns-in-NoMemory-clause-keeps : goal.returns-in-NoMemory-clause-keeps
returns-in-NoMemory-clause-keeps g c =
    let h = c.requires.ready in
    record { ready = (sends_on _ c.args.self.now.handler _ _ c.args.what c.args.arg c.args.when NoMemory h (record { poster = h.of_queue; pass = h.of_pool; home = h.home }) c.send_async_at.ensures.ready c.send_async_at.ensures.same c.in-NoMemory.ensures.did).0; origin = search rules; moments = search rules }

pub returns-in-NoMemory-clause-sends : goal.returns-in-NoMemory-clause-sends
returns-in-NoMemory-clause-sends g c =
    let h = c.requires.ready in
    (sends_on _ c.args.self.now.handler _ _ c.args.what c.args.arg c.args.when NoMemory h (record { poster = h.of_queue; pass = h.of_pool; home = h.home }) c.send_async_at.ensures.ready c.send_async_at.ensures.same c.in-NoMemory.ensures.did).1
