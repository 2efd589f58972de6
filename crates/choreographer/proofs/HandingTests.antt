-- What a removal leaves of what was handed out, and two passes in order.
use Rattle.std.proofs.Common.{◌≡◌, ℕ, zero, suc, List, [], ◌∷◌, length, Option, sym, ap, subst, arith}
use Rattle.std.specs.Prelude.{Result, Ok, Err}
use Rattle.loop_model.specs.declared.memory.NoMemory.{NoMemory}
use Rattle.frame_phases.specs.declared.entry.FrameEntry.{FrameEntry}
use Rattle.choreographer.specs.declared.state.StampedFrames.{StampedFrames}
use Rattle.choreographer.specs.Known.{SharedFrames, Pass, IsPassOf}
use Rattle.choreographer.specs.Calls.{RemovedBy}
use Rattle.choreographer.specs.Ends.{HasHandedOut, AreInOrder}
use Rattle.choreographer.proofs.Handing.{hands_same}

pub removes_same : (before after : Pass) (phase id : ℕ) (token : Option ℕ) (result : Result ℕ NoMemory) → RemovedBy before after phase id token result → (entries : List FrameEntry)
    → HasHandedOut before entries → HasHandedOut after entries
removes_same before after phase id token (Ok n) h entries out =
    let same = ap (λ (k : StampedFrames). length k.frames.sealed) h.4 in hands_same before after h.0 h.1 h.2 (omega (arith, same)) entries out
removes_same before after phase id token (Err e) h entries out =
    let same = ap (λ (k : StampedFrames). length k.frames.sealed) h.5 in hands_same before after h.0 h.1 h.2 (omega (arith, same)) entries out

pub two_in_order : (q : SharedFrames) (ps : List Pass) (p r : Pass) → ps ≡ p ∷ r ∷ [] → IsPassOf p q → p.number ≡ 0 → IsPassOf r q → r.number ≡ 1 → AreInOrder q ps
two_in_order q ps p r are of_p at_p of_r at_r = subst (AreInOrder q) (sym are) by_place
  where
    by_place : AreInOrder q (p ∷ r ∷ [])
    by_place zero d lt = (of_p, at_p)
    by_place (suc zero) d lt = (of_r, at_r)
    by_place (suc (suc k)) d lt = absurd (omega (arith, lt))
