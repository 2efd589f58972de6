use Rattle.std.proofs.Common.{◌≡◌, ◌+◌, ◌<◌, length, take, get_or, ap, ◌∙◌, arith}
use Rattle.message_list.specs.declared.group.Mark.{Mark}
use Rattle.message_list.specs.Marks.{gaps}
use Rattle.message_list.proofs.Marked.{raised_from}
use Rattle.message_list.proofs.group.Group.widen.Goals as goal

pub returns : goal.returns
returns c _ f n i few p is le h =
    let ms = c.args.self.now.list.items in
    let k = c.find-at.result.0 in
    let left = c.find-at.result.1 in
    let r = c.index-mark.result.now in
    let there : r ≡ get_or ms k r = c.index-mark.ensures in
    let no = c.if-at-len.false in let long = c.len.ensures in
    let lt : k < length ms = omega arith in
    let sum = c.find-at.ensures.1 in
    let at : n + (gaps (take k ms) + left) + 1 ≡ f + i = omega (arith, is, sum) in
    let all = raised_from f i few p le n ms k left (record { at = r.at; gap = c.in-Some.gap; key = r.key }) r at lt (c.find-at.ensures.2 lt r) (ap (λ (m : Mark). m.at) there) (c.in-Some.ensures.1 ∙ ap (λ (m : Mark). m.gap + 1) there) h.0 in
    let more = all.1 in let was = h.1 in let now = c.in-Some-checked_add.ensures.1 in
    ((all.0, omega (arith, more, was, now)), now)
