use Rattle.std.proofs.Common.{◌≡◌, suc, ◌+◌, ◌-◌, length, get_or, ap, ◌∙◌, arith}
use Rattle.message_list.specs.declared.group.Mark.{Mark}
use Rattle.message_list.proofs.Marked.{reached_from}
use Rattle.message_list.proofs.group.Group.reach.Goals as goal

pub returns : goal.returns
returns c _ f n places h =
    let ms = c.args.self.now.list.items in
    let r = c.index-mark.result.now in
    let is : r ≡ get_or ms (c.len-len.result - 1) r = c.index-mark.ensures in
    let some = c.if-len-eq0.false in let long = c.len-len.ensures in
    let last : suc (c.len-len.result - 1) ≡ length ms = omega arith in
    let all = reached_from f places n ms (c.len-len.result - 1) c.args.more (record { at = r.at; gap = c.in-Some.gap; key = r.key }) r last (ap (λ (m : Mark). m.at) is) (c.in-Some.ensures.1 ∙ ap (λ (m : Mark). m.gap + c.args.more) is) h.0 in
    let sum = all.1 in let was = h.1 in let now = c.in-Some-checked_add.ensures.1 in
    (all.0, omega (arith, sum, was, now))
