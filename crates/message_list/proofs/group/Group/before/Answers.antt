use Rattle.std.proofs.Common.{◌≡◌, suc, ◌+◌, ◌<◌, length, take, get_or, ap, subst, arith}
use Rattle.message_list.specs.declared.group.Mark.{Mark}
use Rattle.message_list.specs.Marks.{gaps}
use Rattle.message_list.proofs.Marked.{gaps_more}
use Rattle.message_list.proofs.group.Group.before.Goals as goal

pub loop-k-preserved : goal.loop-k-preserved
loop-k-preserved c =
    let ms = c.args.self.now.list.items in
    let r = c.index.result.now in
    let is : r ≡ get_or ms c.loop-k.k r = c.index.ensures in
    let gap = ap (λ (m : Mark). m.gap) is in
    let less = c.loop-k-test.true in let long = c.requires in
    let lt : c.loop-k.k < length ms = omega arith in
    let more = gaps_more ms c.loop-k.k r lt in
    let was = c.loop-k.invariant in let sum = c.in-Some.ensures.1 in
    let step : suc c.loop-k.k ≡ c.loop-k.k + 1 = omega arith in
    subst (λ n. c.in-Some.sum ≡ gaps (take n ms)) step (omega (arith, gap, more, was, sum))
