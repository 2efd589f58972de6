-- The dispatches behind a place of a history, by number.
use Rattle.std.specs.Prelude.{ℕ, nat_lt, length, slice_index, if◌then◌else◌}
use Rattle.std.specs.Option.{unwrap_or}
use Rattle.std.specs.Ordering.{nat_cmp}
use Rattle.std.specs.BTreeMap.{get}
use Rattle.fate_ledger.specs.declared.dispatches.Dispatches.{Dispatches}

-- the place of the first dispatch of the number, or the end
abbrev pub dispatch_at : Dispatches → ℕ → ℕ
dispatch_at d n = if nat_lt n (length d.list.items) then slice_index d.list.items n else unwrap_or (get nat_cmp d.others n) d.end
