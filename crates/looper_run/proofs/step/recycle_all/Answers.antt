use Rattle.std.proofs.Common.{List, All, subst, sym, ◌∙◌}
use Rattle.message_pool.specs.Passes.{Node}
use Rattle.message_pool.specs.Obtain.{IsNodeOf}
use Rattle.looper_run.specs.Told.{AreRecycled}
use Rattle.looper_run.proofs.Working.{first_all}
use Rattle.looper_run.proofs.step.recycle_all.Goals as goal

pub loop-node-preserved : goal.loop-node-preserved
loop-node-preserved g c =
    let rest = c.pop_front.new.self in
    let before = c.loop-node.pass in
    let after = c.recycle.new.pass in
    record {
      home = c.recycle.ensures.home;
      nodes = (first_all (IsNodeOf c.args.pool.now) c.in-Some.node rest (subst (λ (l : List Node). All (IsNodeOf c.args.pool.now) l) c.in-Some.ensures c.loop-node.invariant.nodes)).1;
      rest = λ end h. c.loop-node.invariant.rest end (subst (λ (l : List Node). AreRecycled l before end) (sym c.in-Some.ensures)
          (after, c.recycle.ensures.home ∙ sym c.loop-node.invariant.home, c.recycle.ensures.back, h));
    }
