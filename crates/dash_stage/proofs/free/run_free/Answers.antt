use Rattle.std.proofs.Common.{subst}
use Rattle.std.proofs.lemmas.Result.{IfOk-weaker}
use Rattle.run_model.specs.Moments.{Mode}
use Rattle.run_model.specs.ByClock.{in_free_mode}
use Rattle.dash_stage.specs.RunEnds.{HasEndedByClock}
use Rattle.dash_stage.proofs.BlockTimes.{playable}
use Rattle.dash_stage.proofs.ByClock.{begins_by_clock}
use Rattle.dash_stage.proofs.Stages.Timely.{staged_by_clock}
use Rattle.dash_stage.proofs.Sharing.{stage_in_its_mode}
use Rattle.dash_stage.proofs.free.run_free.Goals as goal

pub play_by_clock-requires-clause-begun : goal.play_by_clock-requires-clause-begun
play_by_clock-requires-clause-begun g c κs within =
    let timer = c.new-timer.result in
    let m : Mode = in_free_mode (g.C.Clock.shows timer.clock.now) timer.start in
    begins_by_clock m c.args.script c.in_ok-stage.stage (playable c.args.script c.requires).loopers c.in_ok-stage.ensures.opened

pub report-requires : goal.report-requires
report-requires g c =
    let out = c.in_ok-play_by_clock.ensures.out in
    record { stage = stage_in_its_mode c.args.script c.play_by_clock.new.self out.out.stage; ended = out.ran.ended; on = out.ran.on }

pub returns : goal.returns
returns g c =
    let timer = c.new-timer.result in
    let st = c.play_by_clock.new.self in
    let out = subst (λ k. HasEndedByClock (in_free_mode (g.C.Clock.shows k) timer.start) c.args.script st) c.new-timer.ensures.clock c.in_ok-play_by_clock.ensures.out in
    IfOk-weaker c.report.result _ _ (λ r. staged_by_clock (g.C.Clock.shows c.args.clock.now) c.args.script st timer.start c.new-timer.ensures.start out r) c.report.ensures
