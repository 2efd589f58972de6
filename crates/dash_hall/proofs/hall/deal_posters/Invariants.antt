use Rattle.std.proofs.Common.{◌≡◌, ◌++◌, length}
use Rattle.std.specs.Vec.Iter.{into_iter_items, into_iter_len}
use Rattle.dash_hall.proofs.HallSteps.{PostersDealt}
use Rattle.dash_hall.proofs.hall.deal_posters.Given as goal

abbrev pub invariant-loop-poster : goal.invariant-loop-poster
invariant-loop-poster l = record {
  parts : l.yielded ++ into_iter_items l.poster-iterator ≡ into_iter_items l.initial.poster-iterator;
  long : into_iter_len l.poster-iterator ≡ length (into_iter_items l.poster-iterator);
  place : l.place ≡ length l.yielded;
  kits : length l.kits.items ≡ length l.initial.kits.items;
  dealt : PostersDealt l.place (into_iter_items l.initial.poster-iterator) l.initial.kits.items l.kits.items;
}
