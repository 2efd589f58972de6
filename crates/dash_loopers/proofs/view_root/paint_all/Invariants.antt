use Rattle.std.proofs.Common.{◌≡◌, ◌≤◌, ◌++◌, map, min, length}
use Rattle.std.specs.Prelude.{take}
use Rattle.std.specs.List.{flat_map, enumerate_from}
use Rattle.dash_loopers.specs.Played.{paint_of, paint_of_gauge}
use Rattle.dash_loopers.proofs.view_root.paint_all.Given as goal

abbrev pub invariant-loop-state : goal.invariant-loop-state
invariant-loop-state l =
    (l.gauge ≡ min l.state-index 4294967295)
    × (length l.gauges ≤ 16 → map paint_of l.painted.items ≡ map paint_of l.fn.painted.items ++ flat_map paint_of_gauge (enumerate_from 0 (take l.state-index l.gauges)))
