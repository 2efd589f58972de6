use Rattle.std.proofs.Common.{◌≡◌, suc, ◌+◌, ◌-◌, ◌<◌, length, take, get_or, ap, ◌∙◌, subst, arith}
use Rattle.message_list.specs.declared.group.Group.{Group}
use Rattle.message_list.specs.Marks.{counts}
use Rattle.message_list.proofs.Marked.{counts_more}
use Rattle.message_list.proofs.marks.Marks.pass.Goals as goal

pub loop-near-preserved : goal.loop-near-preserved
loop-near-preserved c =
    let ms = c.args.self.now in
    let gs = ms.groups.items in
    let r = c.index.result.now in
    let k = c.loop-near.near in
    let is : r ≡ get_or gs k r = c.index.ensures in
    let count = c.count-count.ensures ∙ ap (λ (g : Group). g.count) is in
    let less = c.loop-near-test.true in let long = c.len.ensures in
    let lt : k < length gs = omega arith in
    let more = counts_more gs k r lt in
    let was = c.loop-near.invariant.1 in let past = c.if-left-count.false in
    let step : suc k ≡ k + 1 = omega arith in
    (omega (arith, lt), subst (λ n. ms.base + c.args.far ≡ ms.start + counts (take n gs) + (c.loop-near.left - c.count-count.result)) step (omega (arith, count, more, was, past)))
