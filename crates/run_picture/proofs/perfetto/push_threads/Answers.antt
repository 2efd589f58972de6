use Rattle.std.proofs.Common.{arith}
use Rattle.run_picture.specs.Progress.{blank}
use Rattle.run_picture.proofs.Traced.{thread_more}
use Rattle.run_picture.proofs.perfetto.push_threads.Goals as goal

pub loop-looper-preserved : goal.loop-looper-preserved
loop-looper-preserved c = record {
  counted = omega (arith, c.loop-looper.invariant.counted);
  written = thread_more c.args.loopers.now c.loop-looper.looper-index c.loop-looper.lane blank c.loop-looper.out.items _ _ _ c.loop-looper-test.true c.in_ok-push.ensures.items c.loop-looper.invariant.written c.in_ok-value.ensures;
}
