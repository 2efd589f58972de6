use Rattle.std.proofs.Common.{◌≡◌, ◌+◌, ◌-◌, ◌<◌, length, take, get_or, sym, ap, ◌∙◌, subst, arith}
use mathlib.Core.Option.{some}
use lib.ListN.{get_elem?}
use Rattle.message_list.specs.declared.group.Mark.{Mark}
use Rattle.message_list.specs.declared.place.Place.{Place}
use Rattle.message_list.specs.Marks.{gaps}
use Rattle.message_list.proofs.Marked.{narrowed_from}
use Rattle.message_list.proofs.group.Group.narrow.Goals as goal

pub returns : goal.returns
returns c _ f n i few p is le next h =
    let ms = c.args.self.now.list.items in
    let k = c.find-k.result.0 in
    let left = c.find-k.result.1 in
    let r = c.index-mark.result.now in
    let there : r ≡ get_or ms k r = c.index-mark.ensures in
    let no = c.if-k-len.false in let long = c.len.ensures in
    let lt : k < length ms = omega arith in
    let sum = c.find-k.ensures.1 in
    let wide = c.if-mark-le1.false in
    let gap = ap (λ (m : Mark). m.gap) there in
    let at : n + (gaps (take k ms) + left) ≡ f + i = omega (arith, is, sum) in
    let all = narrowed_from f i few p le n ms k left (record { at = c.at_left.result; gap = r.gap - 1; key = r.key }) r at lt (c.find-k.ensures.2 lt r) (omega (arith, wide)) (omega (arith, wide, gap))
    (λ none. subst (λ (q : Place). get_elem? few i ≡ some q.ptr) (sym (c.at_left.ensures.gone none)) next)
    (λ more. c.at_left.ensures.kept more ∙ ap (λ (m : Mark). m.at) there) h.0 in
    let fewer = all.1 in let was = h.1 in let now = c.in-Some.ensures.1 in
    ((all.0, omega (arith, fewer, was, now)), omega (arith, fewer, was, now))
