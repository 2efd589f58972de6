use Rattle.std.proofs.Common.{◌≡◌, ◌++◌, map, take}
use Rattle.dash_loopers.specs.Played.{paint_of}
use Rattle.dash_loopers.proofs.frame_messages.tell_painted.Given as goal
use Rattle.dash_loopers.specs.Steps.{TellsMore}

abbrev pub invariant-loop-paint : goal.invariant-loop-paint
invariant-loop-paint l = record {
  more : TellsMore l.initial.journal l.journal;
  told : l.journal.acts ≡ l.initial.journal.acts ++ map paint_of (take l.paint-index l.painted);
}
