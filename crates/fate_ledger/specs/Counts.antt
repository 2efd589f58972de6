-- Fates that are counted.
use Rattle.std.specs.Prelude.{Bool}
use Rattle.loop_model.specs.declared.fate.Fate.{Fate}
use Rattle.loop_model.specs.declared.fate.Fate.TheVariants.{Queued, Dispatched, Removed, Dropped, Stranded}
use Rattle.loop_model.specs.Fates.{is_queued, is_dispatched, is_removed, is_dropped, is_stranded}

-- the second fate is the first
abbrev pub is_fate : Fate → Fate → Bool
is_fate Queued = is_queued
is_fate Dispatched = is_dispatched
is_fate Removed = is_removed
is_fate Dropped = is_dropped
is_fate Stranded = is_stranded
