use Rattle.std.specs.Prelude.{string_bytes}
use Rattle.value_animator.proofs.Going.{Goes}
use Rattle.value_animator.proofs.run.run_frames.Given as goal

-- so many frames ran, and things are left
abbrev pub invariant-loop-number : goal.invariant-loop-number
invariant-loop-number l = Goes l.values l._number (string_bytes l.fn.out) (string_bytes l.out) l.frames l.things.items
