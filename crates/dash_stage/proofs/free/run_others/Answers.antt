use Rattle.std.specs.Prelude.{slice_index_or}
use Rattle.std.proofs.Common.{arith}
use Rattle.run_model.specs.Moments.{Mode}
use Rattle.run_model.specs.ByClock.{in_free_mode}
use Rattle.dash_stage.specs.ByClock.{LoopsAlone}
use Rattle.dash_stage.proofs.Sharing.{of_same}
use Rattle.dash_stage.proofs.free.run_others.Goals as goal

pub returns : goal.returns
returns g c =
    let m : Mode = in_free_mode (g.C.Clock.shows c.args.timer.now.clock.now) c.args.timer.now.start in
    record {
      loopers = record {
        long = omega (arith, c.for_each_mut.auto.s);
        each = λ k d lt.
            let one = (c.for_each_mut.ensures k d lt).1 in
            of_same (LoopsAlone m c.args.script.now c.args.hall.now) one.argument.now one.after_call.now (slice_index_or c.args.others.now k d) (slice_index_or c.for_each_mut.new.s k d) one.argument_is one.left one.call;
      };
    }
