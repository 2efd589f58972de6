use Rattle.std.proofs.Common.{arith, []}
use Rattle.std.proofs.lemmas.Result.{IfOk-weaker}
use Rattle.run_model.specs.FrameRecords.{in_round}
use Rattle.run_model.specs.Moments.{in_lockstep}
use Rattle.dash_stage.proofs.BlockTimes.{playable}
use Rattle.dash_stage.proofs.Stages.Timely.{staged}
use Rattle.dash_stage.proofs.Moves.{moved_at_start}
use Rattle.dash_stage.proofs.Played.InTurn.{turn_later}
use Rattle.dash_stage.proofs.Sharing.{stage_in_its_mode}
use Rattle.dash_stage.proofs.run.run_script.Goals as goal

pub play-requires-clause-begun : goal.play-requires-clause-begun
play-requires-clause-begun g c κs within =
    let s = c.args.script in
    let st = c.in_ok-stage.stage in
    let opened = c.in_ok-stage.ensures.opened in
    let zero_time = opened.zero in
    record {
      way = record { some = (playable s c.requires).loopers; stage = opened.stage; moving = opened.moving; by = opened.by };
      rests = record {
        at = record {
          run = opened.run in_lockstep;
          timely = opened.timely;
          step = opened.step;
          moves = moved_at_start s st.controller opened.unseen.controller;
          asks = record { within = omega (arith, zero_time); turn = turn_later s [] 0 (in_round st.time) st (omega arith) opened.turn };
        };
        rested = opened.rested;
      };
      zero = zero_time;
      unseen = opened.unseen.controller;
      turn = opened.turn;
    }

pub report-requires : goal.report-requires
report-requires g c =
    let out = c.in-Ok.ensures.out in
    record { stage = stage_in_its_mode c.args.script c.play.new.self out.stage; ended = out.ended; on = out.on }

pub returns : goal.returns
returns g c = IfOk-weaker c.report.result _ _ (λ r. staged c.args.script c.play.new.self r c.in-Ok.ensures.out) c.report.ensures
