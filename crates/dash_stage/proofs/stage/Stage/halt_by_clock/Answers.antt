use Rattle.std.proofs.Common.{refl}
use Rattle.run_model.specs.Moments.{Mode}
use Rattle.run_model.specs.ByClock.{in_free_mode}
use Rattle.dash_loopers.proofs.LooperMoments.{of_shown}
use Rattle.dash_stage.specs.declared.stage.Stage.{Stage}
use Rattle.dash_stage.specs.RunEnds.{HasRunByClock}
use Rattle.dash_stage.specs.Timeliness.{IsHaltEntry}
use Rattle.dash_stage.proofs.ByClock.{behind_on, same_threads, sees_turned, closing_heard, ended_heard}
use Rattle.dash_stage.proofs.stage.Stage.halt_by_clock.Goals as goal

pub halt_by_clock-halted-requires-clause-at : goal.halt_by_clock-halted-requires-clause-at
halt_by_clock-halted-requires-clause-at g c = (let was = c.requires.closing in record { is_hall = was.stage.hall; controller = was.stage.controller; known = was.some })

pub returns : goal.returns
returns g c =
    let m : Mode = in_free_mode (g.C.Clock.shows c.args.timer.now.clock.now) c.args.timer.now.start in
    let s = c.args.script.now in
    let st = c.args.self.now in
    let was = c.requires.closing in
    let ran = was.ran in
    let halted = c.halt_by_clock-halted.new.self in
    let tried = c.halt_by_clock-halted.ensures in
    let halt = tried.tries in
    let share = c.share_by_clock.ensures in
    let mid : Stage = record { hall = st.hall; threads = st.threads; loopers = st.loopers; controller = halted; pass = st.pass; time = st.time } in
    let now : HasRunByClock m s mid = record {
      clocked = record {
        threads = ran.clocked.threads;
        loopers = ran.clocked.loopers;
        controller = tried.clocked m (of_shown (g.C.Clock.shows c.args.timer.now.clock.now) c.args.timer.now.start c.in-Ok.now c.in-Ok.ensures.moment) ran.clocked.controller;
      };
      run = ran.run;
      ended = ran.ended;
      on = ran.on;
      looped = ran.looped;
      played = ran.played;
      behind = behind_on s st.threads.items st.threads.items st.controller halted (same_threads st.threads.items) (sees_turned IsHaltEntry st.controller halted halt.turns) ran.behind;
    } in
    record {
      closing = λ going. closing_heard m s mid c.share_by_clock.new.self share.stage share.shares.shared share.shares.kept was.some was.stage.hall was.stage.loopers now (halt.going going);
      out = λ done. ended_heard m s mid c.share_by_clock.new.self share.stage share.shares.shared share.shares.kept st was.stage was.same refl refl refl was.stage.hall was.stage.loopers now halt.turns (halt.closed done);
    }
