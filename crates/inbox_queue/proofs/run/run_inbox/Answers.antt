use Rattle.inbox_queue.proofs.Limits.{threads}
use Rattle.inbox_queue.proofs.run.run_inbox.Goals as goal

pub run-requires-after_bounds : goal.run-requires-after_bounds
run-requires-after_bounds g c _ _ = let t = threads c.args.script c.requires in (c.requires, t.0, t.1)
