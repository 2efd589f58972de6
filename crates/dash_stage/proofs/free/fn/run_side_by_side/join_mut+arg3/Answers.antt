use Rattle.dash_stage.proofs.ByClock.{behind_on, same_threads, rung_heard, quits_heard, can_quit}
use Rattle.dash_stage.proofs.free.fn.run_side_by_side.join_mut+arg3.Goals as goal

pub quit_others-requires : goal.quit_others-requires
quit_others-requires g c = record { can = can_quit _ _ _ _ _ _ c.requires.0 c.run_main-early.ensures.hears.kept }

pub returns : goal.returns
returns g c =
    let run = c.run_main-early.ensures in
    let quit = c.quit_others.ensures in
    let threads = c.run_main-early.new.threads in
    let middle = c.run_main-early.new.controller in
    let last = c.quit_others.new.controller in
    record {
      ran = record { beside = run.ran.beside; looped = λ done. run.ran.looped (quit.heeds done) };
      ends = record {
        quit = λ done. quits_heard run.hears.kept (quit.quit done);
        behind = λ done. behind_on _ threads threads middle last (same_threads threads) (quit.quit done).more run.hears.behind;
        rung = λ given. rung_heard _ _ middle last run.hears.kept (quit.rung given);
      };
    }
