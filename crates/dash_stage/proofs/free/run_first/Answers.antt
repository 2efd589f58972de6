use Rattle.std.proofs.Common.{◌<◌, Bool, Option, Some, None, length, subst, arith}
use Rattle.std.specs.Prelude.{slice_index_or}
use Rattle.std.proofs.lemmas.List.{get_or_default}
use Rattle.dash_loopers.specs.declared.looper.StageLooper.{StageLooper}
use Rattle.dash_loopers.specs.Looped.{LoopsUntilStopped, HasLooped}
use Rattle.run_model.specs.Moments.{Mode}
use Rattle.run_model.specs.ByClock.{in_free_mode}
use Rattle.dash_stage.specs.ByClock.{LoopsFor}
use Rattle.dash_stage.proofs.ByClock.{each_set, loops_still, one_set}
use Rattle.dash_stage.proofs.free.run_first.Goals as goal

pub returns : goal.returns
returns g c =
    let m : Mode = in_free_mode (g.C.Clock.shows c.args.timer.now.clock.now) c.args.timer.now.start in
    let s = c.args.script.now in
    let hall = c.args.hall.now in
    let ls = c.args.loopers.now in
    let it : StageLooper = slice_index_or ls 0 c.index-loopers-0.result in
    let some : 0 < length ls = omega (arith, c.requires.one) in
    let is_it = get_or_default ls 0 c.index-loopers-0.result it some in
    let ran = c.run_by_clock.ensures in
    record {
      loopers = each_set (HasLooped m s hall) ls it c.run_by_clock.new.self is_it some (loops_still m s hall ls c.requires.loopers) ran.looped;
      looped = λ none. one_set (LoopsFor m s hall (Some s.end) None) ls it c.run_by_clock.new.self is_it c.requires.one
          (record { goes = ran.looped; loops = subst (λ (o : Option Bool). LoopsUntilStopped m s (Some s.end) it c.run_by_clock.new.self o) none ran.rounds });
    }
