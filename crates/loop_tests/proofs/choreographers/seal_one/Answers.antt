use Rattle.std.proofs.Common.{List, ◌++◌, None, sym, ap, ◌∙◌, subst}
use Rattle.std.specs.Prelude.{Result, IfOk}
use Rattle.loop_model.specs.declared.memory.NoMemory.{NoMemory}
use Rattle.frame_phases.specs.declared.entry.FrameEntry.{FrameEntry}
use Rattle.choreographer.specs.Ends.{HasHandedOut, entries_in}
use Rattle.choreographer.proofs.Handing.{hands_part}
use Rattle.choreographer.proofs.HandingTests.{removes_same}
use Rattle.choreographer.proofs.Joining.{entries_behind}
use Rattle.loop_tests.proofs.choreographers.seal_one.Goals as goal

pub returns-clause-parts : goal.returns-clause-parts
returns-clause-parts g c =
    let had = c.args.parts.now.items in
    let out = removes_same c.args.last.now c.remove_callbacks.new.pass 1 8 None c.remove_callbacks.result c.remove_callbacks.ensures.turn (entries_in had) c.requires.parts in
    let more = (hands_part c.remove_callbacks.new.pass c.seal.new.pass c.seal.result c.seal.ensures (entries_in had) out).0 in
    subst (HasHandedOut c.seal.new.pass) (sym (ap entries_in c.in_ok-push.ensures.items ∙ entries_behind had c.in_ok-part.part))
    (subst (λ (r : Result (List FrameEntry) NoMemory). IfOk r (λ part. HasHandedOut c.seal.new.pass (entries_in had ++ part))) c.in_ok-part.was more)
