use Rattle.std.proofs.Common.{◌≡◌, ◌++◌, length}
use Rattle.std.specs.Vec.Iter.{into_iter_items, into_iter_len}
use Rattle.dash_hall.proofs.HallSteps.{PassesDealt}
use Rattle.dash_hall.proofs.hall.deal_passes.Given as goal

abbrev pub invariant-loop-pass : goal.invariant-loop-pass
invariant-loop-pass l = record {
  parts : l.yielded ++ into_iter_items l.pass-iterator ≡ into_iter_items l.initial.pass-iterator;
  long : into_iter_len l.pass-iterator ≡ length (into_iter_items l.pass-iterator);
  number : l.number ≡ length l.yielded;
  kits : length l.kits.items ≡ length l.initial.kits.items;
  dealt : PassesDealt l.script l.looper l.number (into_iter_items l.initial.pass-iterator) l.initial.kits.items l.kits.items;
}
