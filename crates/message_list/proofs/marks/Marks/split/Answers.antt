use Rattle.std.proofs.Common.{◌≡◌, ℕ, ◌+◌, take, get_or, sym, ap, ◌∙◌, subst}
use Rattle.message_list.specs.declared.group.Group.{Group}
use Rattle.message_list.specs.Marks.{counts, IsGroupAt, AreGroupsAt}
use Rattle.message_list.proofs.Marked.{sound_set, same_groups, cut_or_none}
use Rattle.message_list.proofs.marks.Marks.split.Goals as goal

pub returns-in-Some-clause-leads : goal.returns-in-Some-clause-leads
returns-in-Some-clause-leads c places lead =
    let ms = c.args.self.now in
    let gs = ms.groups.items in
    let r = c.index_mut.result.now in
    let there : r ≡ get_or gs ms.near r = c.index_mut.ensures.value in
    let g = c.split.new.self in
    let set = sound_set ms.start ms.near ms.base gs g lead.0.1 lead.0.2 in
    let b = ms.start + counts (take ms.near gs) in
    let all = cut_or_none ms.first places ms.start gs c.add.new.self.groups.items ms.near g c.in-Some.group r c.requires.there c.add.ensures.groups
    (λ h. let both = c.in-Some.ensures.cut ms.first b places (subst (λ (x : Group). IsGroupAt ms.first places b x) (sym there) h) in (both.0, both.1, ap (λ (x : Group). x.count) (sym there) ∙ both.2)) lead.1 in (
      c.add.ensures.sound (lead.0.0, set.0, set.1),
      subst (λ (f : ℕ). AreGroupsAt f places c.add.new.self.start c.add.new.self.groups.items) (sym c.add.ensures.same.0) (subst (λ (s : ℕ). AreGroupsAt ms.first places s c.add.new.self.groups.items) (sym c.add.ensures.same.1) all),
    )

pub returns-in-None-clause-leads : goal.returns-in-None-clause-leads
returns-in-None-clause-leads c places lead =
    let ms = c.args.self.now in
    let gs = ms.groups.items in
    let r = c.index_mut.result.now in
    let there : r ≡ get_or gs ms.near r = c.index_mut.ensures.value in
    let g = c.split.new.self in
    let set = sound_set ms.start ms.near ms.base gs g lead.0.1 lead.0.2 in
    let b = ms.start + counts (take ms.near gs) in
    let step = λ (h : IsGroupAt ms.first places b (get_or gs ms.near r)). c.in-None.ensures.cut ms.first b places (subst (λ (x : Group). IsGroupAt ms.first places b x) (sym there) h) in (
      (lead.0.0, set.0, set.1),
      same_groups ms.first places ms.start gs ms.near g r c.requires.there (c.in-None.ensures.kept ∙ ap (λ (x : Group). x.count) there) step lead.1,
    )
