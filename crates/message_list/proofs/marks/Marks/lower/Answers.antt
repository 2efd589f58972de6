use Rattle.std.proofs.Common.{◌≡◌, ◌+◌, ◌-◌, ◌<◌, length, get_or, sym, ap, ◌∙◌, subst, arith}
use Rattle.message_list.specs.declared.group.Group.{Group}
use Rattle.message_list.specs.Marks.{counts, IsGroupAt, with_node}
use Rattle.message_list.proofs.Marked.{same_lead, sound_set, take_all, groups_gone_before, narrowed_groups}
use Rattle.message_list.proofs.marks.Marks.lower.Goals as goal

pub returns-in_default : goal.returns-in_default
returns-in_default c few p behind lead = c.clear.ensures _

pub returns-then-self-len : goal.returns-then-self-len
returns-then-self-len c few p (count, le, next) lead =
    let ms = c.go_to.new.self in
    let gs = ms.groups.items in
    let now = same_lead c.args.self.now ms (with_node c.args.i p few) c.go_to.ensures.same c.go_to.ensures.sound lead in
    let sum = c.in-Some.ensures.1 in let first = c.go_to.ensures.same.0 in
    let is : c.in-Some.number ≡ ms.first + c.args.i = omega (arith, sum, first) in
    let end = c.if-self-len.true in let long = c.len.ensures in
    let all = ap counts (take_all gs ms.near (omega arith)) in
    let base = c.go_to.ensures.sound.2 in let low = c.go_to.ensures.near.0 in
    (now.0, groups_gone_before ms.first c.args.i few p le ms.start c.in-Some.number gs is (omega (arith, all, base, low)) now.1)

pub returns-then-i-len : goal.returns-then-i-len
returns-then-i-len c few p behind lead = c.clear-then-i-len.ensures _

pub returns-then-not-lowered : goal.returns-then-not-lowered
returns-then-not-lowered c few p behind lead = c.clear-then-not-lowered.ensures _

pub returns-else-not-lowered : goal.returns-else-not-lowered
returns-else-not-lowered c few p (count, le, next) lead =
    let ms = c.go_to.new.self in
    let gs = ms.groups.items in
    let now = same_lead c.args.self.now ms (with_node c.args.i p few) c.go_to.ensures.same c.go_to.ensures.sound lead in
    let sum = c.in-Some.ensures.1 in let first = c.go_to.ensures.same.0 in
    let is : c.in-Some.number ≡ ms.first + c.args.i = omega (arith, sum, first) in
    let some = c.if-self-len.false in let long = c.len.ensures in
    let lt : ms.near < length gs = omega arith in
    let low = c.go_to.ensures.near.0 in
    let less = c.if-i-len.false in
    let r = c.index_mut.result.now in
    let there : r ≡ get_or gs ms.near r = c.index_mut.ensures.value in
    let g = c.narrow-lowered.new.self in
    let far : ms.base + (c.in-Some.number - ms.base) ≡ ms.first + c.args.i = omega (arith, is, low) in
    let set = sound_set ms.start ms.near ms.base gs g now.0.1 now.0.2 in (
      (now.0.0, set.0, set.1),
      narrowed_groups ms.first c.args.i few p le ms.start c.in-Some.number gs ms.near ms.base g r is lt now.0.2 low (c.go_to.ensures.near.1 lt r)
          (λ h.
          let all = c.narrow-lowered.ensures c.if-not-lowered.false ms.first ms.base c.args.i few p far le (next (omega (arith, less, count))) (subst (λ (x : Group). IsGroupAt ms.first (with_node c.args.i p few) ms.base x) (sym there) h) in
          (all.0, ap (λ (x : Group). x.count) (sym there) ∙ all.1))
          now.1,
    )
