use Rattle.std.proofs.Common.{arith, ap, sym, drop, ◌+◌, ◌++◌, ◌∙◌}
use Rattle.std.proofs.lemmas.List.{drop_more}
use Rattle.run_picture.specs.Marks.{paint_marks}
use Rattle.run_picture.proofs.mark.push_paints.Goals as goal

pub loop-act-preserved : goal.loop-act-preserved
loop-act-preserved c = record {
  near = let new = c.in_ok-push_act.ensures.near in let old = c.loop-act.invariant.near in omega (arith, new, old);
  painted =
      sym (c.in_ok-push_act.ensures.painted (drop (c.loop-act.act-index + 1) c.args.acts.now))
      ∙ ap (λ l. c.loop-act.out.items ++ paint_marks c.args.lane c.args.times.now c.loop-act.group l) (sym (drop_more c.args.acts.now c.loop-act.act-index _ c.loop-act-test.true))
      ∙ c.loop-act.invariant.painted;
}
