use Rattle.std.proofs.Common.{ap, sym, subst, ◌∙◌}
use Rattle.message_pool.specs.Passes.{Node}
use Rattle.handler_post.specs.Supply.{letter_of, Obtains}
use Rattle.handler_post.proofs.Supplies.{none_was_free, of_pooled, of_fresh}
use Rattle.handler_post.proofs.supply.message_of.Goals as goal
use Rattle.handler_post.proofs.supply.message_of.Goals.{in-Pooled, in-Fresh}

pub returns-in-NoMemory-clause-node : goal.returns-in-NoMemory-clause-node
returns-in-NoMemory-clause-node g c = let free = c.in-NoMemory.ensures.answer in none_was_free c.args.pass.now c.obtain.new.pass free.0 free.1 free.2

pub returns-clause-node : goal.returns-clause-node
returns-clause-node g c = let p = c.args.post.now in let n : Node = c.match-obtain.node in
    let Has : Node → Type 0 = λ x. Obtains c.args.pool.now x.claim c.args.pass.now c.obtain.new.pass in
    let has : Has n = elim c.match-obtain.branch [
      | in-Pooled w ↦ subst Has (sym w.node-is) (of_pooled _ _ c.args.pass.now c.obtain.new.pass w.in-Pooled.ensures.answer)
      | in-Fresh w ↦ subst Has (sym w.node-is) (of_fresh _ _ c.args.pass.now c.obtain.new.pass _ _ w.in-Fresh.ensures.answer)
    ] in (n.claim, c.set_post.ensures ∙ ap (λ (m : Node). letter_of p m.claim) c.item_mut.ensures.value, has)
