-- What a value on the heap owns.
use base.Fraction.{full_share}
use base.Fml.{Fml, fsep}
use mir.Raw.{raw}
use mir.Syntax.{Ty}
use denote.RattleType.{RattleType}
use denote.Memory.{lone}
use denote.RawPtr.{Ptr, lies_at}
use Rattle.std_heap.specs.declared.Global.{Global}
use Rattle.std_heap.specs.contracts.GlobalAllocator.TheImpl.{ghosts}

-- a handle to the heap, which has no bytes
abbrev pub heap : Global
heap = record { memory = record { seal = tt } }

-- the right to give a block back to the heap
abbrev pub chunk : Ty → Ptr → Fml
chunk τ p = ghosts.dealloc_token heap τ p

-- a value at p, and the right to free its block
abbrev pub held : (R : RattleType) → Ptr → R.Denot → Fml
held R p x = fsep (lies_at R full_share p x) (chunk (raw (lone R.mir)) p)
