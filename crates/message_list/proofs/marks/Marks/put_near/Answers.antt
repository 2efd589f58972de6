use Rattle.std.proofs.Common.{◌≡◌, ◌+◌, ◌-◌, ◌<◌, length, take, get_or, sym, ap, ◌∙◌, subst, arith}
use Rattle.message_list.specs.declared.group.Group.{Group}
use Rattle.message_list.specs.Marks.{counts, IsGroupAt}
use Rattle.message_list.proofs.Marked.{same_lead, sound_set, same_groups}
use Rattle.message_list.proofs.marks.Marks.put_near.Goals as goal

pub returns : goal.returns
returns c places here is to lead =
    let ms = c.go_to.new.self in
    let gs = ms.groups.items in
    let now = same_lead c.args.self.now ms places c.go_to.ensures.same c.go_to.ensures.sound lead in
    let first = c.go_to.ensures.same.0 in
    let some = c.if-self-len.false in let long = c.len.ensures in
    let lt : ms.near < length gs = omega arith in
    let low = c.go_to.ensures.near.0 in
    let r = c.index_mut.result.now in
    let there : r ≡ get_or gs ms.near r = c.index_mut.ensures.value in
    let g = c.put.new.self in
    let base = now.0.2 in
    let far : ms.start + counts (take ms.near gs) + (c.args.number - ms.base) ≡ ms.first + here = omega (arith, is, low, base, first) in
    let set = sound_set ms.start ms.near ms.base gs g now.0.1 base in (
      (now.0.0, set.0, set.1),
      same_groups ms.first places ms.start gs ms.near g r lt (c.put.ensures.count ∙ ap (λ (x : Group). x.count) there)
          (λ h. c.put.ensures.leads ms.first (ms.start + counts (take ms.near gs)) here places far to (subst (λ (x : Group). IsGroupAt ms.first places (ms.start + counts (take ms.near gs)) x) (sym there) h))
          now.1,
    )
