use Rattle.std.proofs.Common.{◌≡◌, map, length}
use Rattle.std.specs.List.{range_with_len}
use Rattle.dash_hall.specs.Kits.{frame_key, frame_constants}
use Rattle.dash_hall.specs.Dealing.{EachGets, nothing}
use Rattle.dash_hall.proofs.HallPasses.{given_all}
use Rattle.dash_hall.proofs.hall.choreographers.Given as goal

abbrev pub invariant-loop-looper : goal.invariant-loop-looper
invariant-loop-looper l = record {
  count : length l.choreographers.items ≡ l.looper;
  choreographers : map frame_key l.choreographers.items ≡ map (frame_constants l.script) (range_with_len 0 l.looper);
  dealt : EachGets nothing (given_all l.script 0 l.choreographers.items) l.initial.kits.items l.kits.items;
}
