-- A value on the heap, after a write.
use Rattle.heap_value.specs.declared.lone.Lone.{Lone}

-- with w as the value
abbrev pub with_value : {X : Type 0} → Lone X → X → Lone X
with_value l w = record { at = l.at; value = w }
