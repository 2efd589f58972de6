use Rattle.std.proofs.Common.{ℕ, subst, sym, arith}
use Rattle.message_list.specs.Marks.{AreGroupsAt}
use Rattle.message_list.proofs.Marked.{passed_groups}
use Rattle.message_list.proofs.marks.Marks.pass_first.Goals as goal

pub returns-in-Some : goal.returns-in-Some
returns-in-Some c few p lead =
    let ms = c.args.self.now in
    let first = c.in-Some.ensures.1 in let less = lead.0.0 in
    ((omega (arith, first, less), lead.0.1, lead.0.2), subst (λ (f : ℕ). AreGroupsAt f few ms.start ms.groups.items) (sym first) (passed_groups ms.first ms.start few p ms.groups.items lead.1))

pub returns-in-None : goal.returns-in-None
returns-in-None c few p lead = c.clear.ensures few
