use Rattle.std.proofs.Common.{◌≡◌, suc, ◌+◌, ◌-◌, ◌<◌, length, take, get_or, ap, subst, arith}
use Rattle.message_list.specs.declared.group.Mark.{Mark}
use Rattle.message_list.specs.Marks.{gaps}
use Rattle.message_list.proofs.Marked.{gaps_more}
use Rattle.message_list.proofs.group.Group.find.Goals as goal

pub loop-mark-preserved : goal.loop-mark-preserved
loop-mark-preserved c =
    let ms = c.args.self.now.list.items in
    let r = c.index.result.now in
    let is : r ≡ get_or ms c.loop-mark.mark r = c.index.ensures in
    let gap = ap (λ (m : Mark). m.gap) is in
    let less = c.loop-mark-test.true in let long = c.len.ensures in
    let lt : c.loop-mark.mark < length ms = omega arith in
    let more = gaps_more ms c.loop-mark.mark r lt in
    let was = c.loop-mark.invariant.1 in let past = c.if-left-gap.false in
    let step : suc c.loop-mark.mark ≡ c.loop-mark.mark + 1 = omega arith in
    (omega (arith, lt), subst (λ n. c.args.far ≡ gaps (take n ms) + (c.loop-mark.left - r.gap)) step (omega (arith, gap, more, was, past)))
