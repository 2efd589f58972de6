use Rattle.std.proofs.Common.{codes, refl, subst, sym}
use Rattle.run_picture.specs.Flat.{IsFlat}
use Rattle.run_picture.proofs.Bare.{flat_append}
use Rattle.run_picture.proofs.canvas.Canvas.push.Goals as goal

pub invariant_of-self : goal.invariant_of-self
invariant_of-self c = subst IsFlat (sym c.in_ok-extend_from_slice.ensures.items) (flat_append c.self.inside.bytes.items (codes "&#40;") c.self.invariant refl)

pub invariant_of-self-in_err-extend_from_slice : goal.invariant_of-self-in_err-extend_from_slice
invariant_of-self-in_err-extend_from_slice c = subst IsFlat (sym c.in_err-extend_from_slice.ensures.items) c.self.invariant

pub invariant_of-self-in_err-push : goal.invariant_of-self-in_err-push
invariant_of-self-in_err-push c = subst IsFlat (sym c.in_err-push.ensures.items) c.self.invariant
