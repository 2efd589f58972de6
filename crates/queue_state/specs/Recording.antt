-- What a queue records.
use Rattle.std.specs.Prelude.{ℕ, List}
use Rattle.loop_model.specs.declared.entry.Entry.{Entry}

-- the entries since the start, and for how many there is room
pub record Recording : Type 0 where
  pub items : List Entry
  pub capacity : ℕ
