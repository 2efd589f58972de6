use Rattle.std.proofs.Common.{rules, ◌≡◌, ◌++◌, List, length, sym, subst}
use Rattle.run_model.specs.Moments.{Mode}
use Rattle.run_model.specs.ByClock.{in_free_mode}
use Rattle.dash_hall.specs.Hearing.{AtEach}
use Rattle.dash_loopers.specs.declared.looper.StageLooper.{StageLooper}
use Rattle.dash_stage.specs.ByClock.{LoopsAlone, EachLoops, EachLoopsAlone, MainLoops, LoopSideBySide}
use Rattle.dash_stage.proofs.ByClock.{each_append, each_so, side_by_side}
use Rattle.dash_stage.proofs.free.run_side_by_side.Goals as goal
use Rattle.dash_loopers.specs.Looped.{HasLooped}

pub returns-clause-ran : goal.returns-clause-ran
returns-clause-ran g c =
    let m : Mode = in_free_mode (g.C.Clock.shows c.args.timer.now.clock.now) c.args.timer.now.start in
    let s = c.args.script.now in
    let hall = c.args.hall.now in
    let R = HasLooped m s hall in
    let main : List StageLooper = c.split_at_mut-main.result.0.now in
    let others : List StageLooper = c.split_at_mut-main.result.1.now in
    let alone : EachLoopsAlone m s hall others c.others-1.given.0 = search rules in
    let loops : EachLoops m s hall main c.main-1.given.0 = search rules in
    let one : length main ≡ 1 = search rules in
    record {
      beside = record {
        ran = search rules;
        loops = subst (λ (xs : List StageLooper). AtEach R xs (c.main-1.given.0 ++ c.others-1.given.0)) (sym c.split_at_mut-main.ensures.value)
            (each_append R main c.main-1.given.0 others c.others-1.given.0 loops (each_so (LoopsAlone m s hall) R (λ x y one. one.1.goes) others c.others-1.given.0 alone));
      };
      looped = λ quit.
          let first : MainLoops m s hall main c.main-1.given.0 = search rules in
          subst (λ (xs : List StageLooper). LoopSideBySide m s xs (c.main-1.given.0 ++ c.others-1.given.0)) (sym c.split_at_mut-main.ensures.value)
          (side_by_side m s hall main c.main-1.given.0 others c.others-1.given.0 one first alone);
    }
