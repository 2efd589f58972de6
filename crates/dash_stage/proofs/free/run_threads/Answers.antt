use Rattle.std.specs.Prelude.{slice_index_or}
use Rattle.std.proofs.Common.{arith, subst}
use Rattle.run_model.specs.Moments.{Mode}
use Rattle.run_model.specs.ByClock.{in_free_mode}
use Rattle.dash_threads.specs.declared.thread.PostingThread.{PostingThread}
use Rattle.dash_stage.specs.ByClock.{RunsByClock}
use Rattle.dash_stage.proofs.free.run_threads.Goals as goal

pub returns : goal.returns
returns g c =
    let m : Mode = in_free_mode (g.C.Clock.shows c.args.timer.now.clock.now) c.args.timer.now.start in
    let s = c.args.script.now in
    let hall = c.args.hall.now in
    record {
      threads = record {
        long = omega (arith, c.for_each_mut.auto.s);
        each = λ k d lt.
            let one = (c.for_each_mut.ensures k d lt).1 in
            let after = slice_index_or c.for_each_mut.new.s k d in
            subst (λ (z : PostingThread). RunsByClock m s hall z after) one.argument_is (subst (RunsByClock m s hall one.argument.now) one.left one.call);
      };
    }
