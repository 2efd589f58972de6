use Rattle.std.proofs.Common.{◌≡◌, length}
use Rattle.dash_stage.proofs.Ends.HallEnds.{SomeGave}
use Rattle.dash_stage.proofs.records.posters.Given as goal

abbrev pub invariant-loop-place : goal.invariant-loop-place
invariant-loop-place l = record {
  count : length l.posters.items ≡ l.place;
  gave : SomeGave l.place l.initial.kits.items l.posters.items l.kits.items;
}
