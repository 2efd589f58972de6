-- A handle may go to another thread.
use mathlib.Core.Bool.{Bool, true, false}
use base.Shift.{Keyless}
use denote.Builtin.{bool}
use denote.RawPtr.{Ptr, RawPtr}
use denote.Struct.Struct.{exits_of}
use denote.Struct.Owning.{shape, fields, to}
use denote.Param.Send.{IsSend, owning_send, struct_send, sendable}
use Rattle.std_alloc.proofs.SendSync.{quiet}
use Rattle.frame_phases_c.proofs.kept.Kept.TheSendSync.{the_send}
use Rattle.heap_value.proofs.Sends.{held_keyless}
use Rattle.frame_phases_c.specs.Handle.{kept_row, owned_by}
use Rattle.frame_phases_c.specs.contracts.handle.FrameLoop as handle

ptr_send : IsSend RawPtr
ptr_send = search sendable

bool_send : IsSend bool
bool_send = search sendable

kept_send : IsSend kept_row
kept_send = the_send

owned_keyless : (live : Bool) (p : Ptr) (x : kept_row.Denot) → Keyless (owned_by live p x)
owned_keyless true p x = held_keyless kept_row kept_send p x
owned_keyless false p x = tt

pub handle_send : IsSend handle.the_row
handle_send = let O = handle.the_type in owning_send O (ptr_send, (bool_send, tt)) (λ d. owned_keyless d.live d.at d.state)
    (λ k. quiet (to O) (exits_of k (fields O)) ((struct_send (shape O) (ptr_send, (bool_send, tt))).leaving k))
