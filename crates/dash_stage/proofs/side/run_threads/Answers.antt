use Rattle.std.specs.Prelude.{◌≡◌, ◌<◌, slice_index_or, length, false}
use Rattle.std.proofs.Common.{ap, ◌∙◌, subst, arith}
use Rattle.run_model.specs.Moments.{in_lockstep}
use Rattle.dash_threads.specs.declared.thread.PostingThread.{PostingThread}
use Rattle.dash_threads.specs.Threads.{Continues}
use Rattle.dash_stage.proofs.side.run_threads.Goals as goal

pub returns-clause-run : goal.returns-clause-run
returns-clause-run g c k d lt =
    let one = (c.for_each_mut.ensures k d lt).1 in
    let before = slice_index_or c.args.threads.now k d in
    let after = slice_index_or c.for_each_mut.new.s k d in
    let near : k < length c.for_each_mut.new.s = omega (arith, lt, c.for_each_mut.auto.s) in
    let going : one.after_call.now.gave_up ≡ false = ap (λ (t : PostingThread). t.gave_up) one.left ∙ c.has_given_up.ensures c.if-has_given_up.false k d near in
    subst (λ (z : PostingThread). Continues in_lockstep c.args.script.now c.args.block.now z after) one.argument_is (subst (Continues in_lockstep c.args.script.now c.args.block.now one.argument.now) one.left (one.call.2 going))
