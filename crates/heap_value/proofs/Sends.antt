-- A value on the heap may go to another thread.
use mir.Raw.{raw}
use base.Shift.{Keyless}
use denote.RattleType.{RattleType}
use denote.Memory.{lone}
use denote.RawPtr.{Ptr, RawPtr}
use denote.Struct.Struct.{exits_of}
use denote.Struct.Owning.{shape, fields, to}
use denote.Param.Send.{IsSend, owning_send, struct_send, sendable}
use Rattle.std.proofs.Crossing.{frees}
use Rattle.std_alloc.proofs.SendSync.{lies, quiet}
use Rattle.heap_value.specs.Held.{heap, held}
use Rattle.heap_value.specs.contracts.lone.Lone as lonely

ptr_send : IsSend RawPtr
ptr_send = search sendable

pub held_keyless : (R : RattleType) → IsSend R → (p : Ptr) (x : R.Denot) → Keyless (held R p x)
held_keyless R s p x = (lies R s p x, frees.frees heap (raw (lone R.mir)) p)

pub lone_send : (T : RattleType) → IsSend T → IsSend (lonely.the_row T)
lone_send T s = let O = lonely.the_type T in owning_send O (ptr_send, tt) (λ d. held_keyless T s d.at d.value)
    (λ k. quiet (to O) (exits_of k (fields O)) ((struct_send (shape O) (ptr_send, tt)).leaving k))
