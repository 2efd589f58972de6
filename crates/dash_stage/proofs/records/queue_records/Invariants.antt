use Rattle.std.proofs.Common.{◌≡◌, ◌++◌, length}
use Rattle.std.specs.List.{AllByRecursion}
use Rattle.std.specs.Vec.Iter.{into_iter_items, into_iter_len}
use Rattle.run_model.specs.Moments.{Mode}
use Rattle.run_model.specs.Run.{IsRecordOf}
use Rattle.run_model.specs.Parts.{all_entries}
use Rattle.dash_hall.specs.Kits.{AreQueuesOf}
use Rattle.dash_stage.specs.Ending.{AreSealed}
use Rattle.dash_stage.specs.Records.{HaveCalledByClock}
use Rattle.dash_stage.proofs.Ends.HallEnds.{AreRetired}
use Rattle.dash_stage.proofs.records.queue_records.Given as goal

abbrev pub invariant-loop-queue : goal.invariant-loop-queue
invariant-loop-queue l = record {
  parts : l.yielded ++ into_iter_items l.queue-iterator ≡ into_iter_items l.initial.queue-iterator;
  long : into_iter_len l.queue-iterator ≡ length (into_iter_items l.queue-iterator);
  pass : l.pass.home ≡ l.pool;
  count : length l.records.items ≡ length l.yielded;
  sealed : AreSealed l.kits.items l.sealed.items;
  retired : AreRetired l.initial.kits.items l.records.items l.kits.items;
  histories : (m : Mode) → AreQueuesOf m.lockstep l.script l.pool (into_iter_items l.initial.queue-iterator) → HaveCalledByClock m l.script l.initial.kits.items → AllByRecursion (IsRecordOf m all_entries l.script) l.records.items;
}
