use Rattle.std.proofs.Common.{◌≡◌, Some}
use Rattle.run_model.specs.ByClock.{in_free_mode}
use Rattle.dash_loopers.proofs.LooperKits.{serves_now}
use Rattle.dash_loopers.proofs.LooperMoments.{playing_at_start}
use Rattle.dash_loopers.proofs.looper.StageLooper.player.Goals as goal

pub returns-clause-begins : goal.returns-clause-begins
returns-clause-begins g c =
    let l = c.args.self.now in
    let is : l.parts ≡ Some c.in-Some.parts = cc in
    let m = in_free_mode (g.C.Clock.shows c.args.pace.now.timer.now.clock.now) c.args.pace.now.timer.now.start in
    record {
      owner = λ i. record { owner = record { script = c.args.script.now; hall = c.args.hall.now; number = l.number; now = 0; began = c.requires.began i }; mode = m };
      serves = record { serves = serves_now c.args.script.now c.args.hall.now l c.in-Some.parts c.requires.may.is_hall c.requires.may.looper is; mode = c.requires.may.mode };
      begins = playing_at_start m c.args.script.now l c.args.began.now.value c.in-Some.parts c.requires.began is c.requires.may.looper.own;
    }
