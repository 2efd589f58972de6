use Rattle.std.proofs.Common.{◌≡◌, ℕ, ◌+◌, ◌-◌, ◌<◌, length, take, get_or, sym, ap, ◌∙◌, subst, arith}
use Rattle.message_list.specs.declared.group.Group.{Group}
use Rattle.message_list.specs.Marks.{counts, IsGroupAt}
use Rattle.message_list.proofs.Marked.{same_lead, group_at}
use Rattle.message_list.proofs.marks.Marks.read.Goals as goal

pub returns-clause-leads : goal.returns-clause-leads
returns-clause-leads c places lead =
    let ms = c.go_to_group.new.self in
    let gs = ms.groups.items in
    let k = c.groups_until-groups.result - 1 in
    let now = same_lead c.args.self.now ms places c.go_to_group.ensures.same c.go_to_group.ensures.sound lead in
    let near : ms.near ≡ k = c.go_to_group.ensures.there c.if-not-go_to_group.false in
    let same = ap length c.go_to_group.ensures.same.2 in let until = c.groups_until-groups.ensures in let some = c.if-groups-eq0.false in
    let lt : k < length gs = omega arith in
    let r = c.index.result.now in
    let there : r ≡ get_or gs k r = c.index.ensures in
    let group = group_at ms.first places ms.start gs k r lt now.1 in
    let base = now.0.2 ∙ ap (λ (n : ℕ). ms.start + counts (take n gs)) near in
    let sum = c.in-Some-checked_add.ensures.1 in let behind = c.if-number-self.false in
    c.in-Some.ensures ms.first (ms.start + counts (take k gs)) places (subst (λ (x : Group). IsGroupAt ms.first places (ms.start + counts (take k gs)) x) (sym there) group) (c.in-Some-checked_add.number - ms.first) (omega (arith, base, sum, behind))
