use Rattle.std.proofs.Common.{◌≡◌, suc, ◌-◌, length, get_or, sym, subst, arith}
use Rattle.message_list.specs.declared.group.Group.{Group}
use Rattle.message_list.specs.Marks.{IsGroupAt}
use Rattle.message_list.proofs.Marked.{reached_groups}
use Rattle.message_list.proofs.marks.Marks.reach.Goals as goal

pub returns-else-not-reached-clause-leads : goal.returns-else-not-reached-clause-leads
returns-else-not-reached-clause-leads c places lead =
    let ms = c.args.self.now in
    let k = c.len-len.result - 1 in
    let r = c.index_mut.result.now in
    let there : r ≡ get_or ms.groups.items k r = c.index_mut.ensures.value in
    let some = c.if-len-eq0.false in let long = c.len-len.ensures in
    let last : suc k ≡ length ms.groups.items = omega arith in
    ((lead.0.0, omega arith, omega arith), reached_groups ms.first places ms.start ms.groups.items k c.reach-reached.new.self r last (λ b h. c.reach-reached.ensures c.if-not-reached.false ms.first b places (subst (λ (g : Group). IsGroupAt ms.first places b g) (sym there) h)) lead.1)
