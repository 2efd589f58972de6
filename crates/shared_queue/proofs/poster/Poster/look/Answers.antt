use Rattle.shared_queue.proofs.Waits.{look_stays}
use Rattle.shared_queue.proofs.poster.Poster.look.Goals as goal

pub returns-in-Wait-clause-done : goal.returns-in-Wait-clause-done
returns-in-Wait-clause-done g c =
    look_stays (g.C.Clock.shows c.args.clock.now) c.args.start c.args.idle_owed c.args.cap c.saturating_sub-now.result c.in-Wait.until c.args.self.now c.next.new.self c.stay.new.self c.stay.result
    (record { moment = record { reading = c.uptime_millis.result; shown = c.uptime_millis.ensures; since = c.saturating_sub-now.ensures }; look = c.in-Wait.ensures.done }) c.stay.ensures
