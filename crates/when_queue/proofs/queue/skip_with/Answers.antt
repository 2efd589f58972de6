use Rattle.std.proofs.Common.{◌≡◌, ℕ, sym, arith, Bool, true, false, if◌then◌else◌}
use Rattle.std.specs.Prelude.{min}
use Rattle.loop_model.specs.Items.{is_asynchronous}
use Rattle.when_queue.proofs.queue.skip_with.Goals as goal

none_skipped : (s i : ℕ) (b : Bool) → s ≡ 0 → 0 ≡ (if b then min s i else s)
none_skipped s i true e = omega (arith, e)
none_skipped s i false e = sym e

pub returns-then-skip-eq0 : goal.returns-then-skip-eq0
returns-then-skip-eq0 g c = none_skipped c.args.skip c.args.place (is_asynchronous c.args.message.now.item) c.if-skip-eq0.true
