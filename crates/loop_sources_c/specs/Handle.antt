-- What a handle owns.
use Rattle.std.specs.Prelude.{Bool, true, false}
use base.Fml.{Fml, ftrue}
use denote.RattleType.{RattleType}
use denote.RawPtr.{Ptr}
use Rattle.loop_sources_c.specs.contracts.kept.Kept as kept
use Rattle.heap_value.specs.Held.{held}

-- what stands behind a handle, as it lies in memory
abbrev pub kept_row : RattleType
kept_row = kept.the_row

-- what lies at this place, where the handle is live
abbrev pub owned_by : Bool → Ptr → kept_row.Denot → Fml
owned_by true p x = held kept_row p x
owned_by false p x = ftrue
