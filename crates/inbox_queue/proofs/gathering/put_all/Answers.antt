use Rattle.std.proofs.Common.{subst}
use Rattle.std.specs.Prelude.{slice_index_or}
use Rattle.inbox_queue.specs.Handed.{PutPosts}
use Rattle.inbox_queue.specs.Gathered.{PutsOf, planned_for}
use Rattle.inbox_queue.proofs.gathering.put_all.Goals as goal

pub returns-clause-put : goal.returns-clause-put
returns-clause-put g c = λ k d lt.
    let planned = planned_for c.args.script.now c.args.block.now k in
    let made = (c.for_each_mut.ensures k d lt).1 in
    subst (λ (x : PutPosts). PutsOf x (slice_index_or c.for_each_mut.new.s k d) planned) made.argument_is (subst (λ (y : PutPosts). PutsOf made.argument.now y planned) made.left made.call)
