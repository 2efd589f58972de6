use Rattle.std.proofs.Common.{rules, ◌<◌, subst}
use Rattle.run_model.specs.Moments.{Mode}
use Rattle.run_model.specs.ByClock.{in_free_mode}
use Rattle.dash_stage.specs.ByClock.{EachRuns, EachLoops}
use Rattle.dash_stage.proofs.ByClock.{runs_kept, behind_first, can_quit}
use Rattle.dash_stage.proofs.free.run_main.Goals as goal

pub hear_threads-requires : goal.hear_threads-requires
hear_threads-requires g c =
    let m : Mode = in_free_mode (g.C.Clock.shows c.args.timer.now.clock.now) c.args.timer.now.start in
    let can = c.requires.can in
    let ran : EachRuns m c.args.script.now c.args.hall.now c.args.threads.now c.threads-1.given.0 = search rules in
    record { is_hall = can.hall.0; threads = λ k d lt. (ran.each k d (subst (λ n. k < n) ran.long lt)).thread; controller = can.controller }

pub returns : goal.returns
returns g c =
    let m : Mode = in_free_mode (g.C.Clock.shows c.args.timer.now.clock.now) c.args.timer.now.start in
    let s = c.args.script.now in
    let hall = c.args.hall.now in
    let now = c.hear_threads.new.controller in
    let heard = c.hear_threads.ensures in
    let ran : EachRuns m s hall c.args.threads.now c.threads-1.given.0 = search rules in
    let loops : EachLoops m s hall c.args.main.now c.main-1.given.0 = search rules in
    let can = can_quit s hall c.args.main.now c.args.threads.now c.args.controller.now now c.requires.can heard.controller in
    record {
      ran = record { beside = record { ran = runs_kept m s hall c.args.threads.now c.threads-1.given.0 c.hear_threads.new.threads ran heard.threads; loops = loops }; looped = search rules };
      hears = record { kept = heard.controller; behind = behind_first s hall now can.controller can.none c.hear_threads.new.threads heard.heard };
    }
