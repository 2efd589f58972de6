use Rattle.dash_hall.proofs.Shown.{reading_shown}
use Rattle.dash_hall.proofs.timer.TimerUptime.now_millis.Goals as goal

pub returns : goal.returns
returns g c =
    let timer = c.args.self.now in
    reading_shown (g.C.Clock.shows timer.clock.now) timer.start c.uptime_millis.result c.saturating_sub.result c.uptime_millis.type_inv c.uptime_millis.ensures c.saturating_sub.ensures
