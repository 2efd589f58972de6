use Rattle.run_picture.proofs.Elements.{Leads}
use Rattle.run_picture.proofs.svg.push_elements.Given as goal

abbrev pub invariant-loop-index : goal.invariant-loop-index
invariant-loop-index l = Leads l.most l.groups l.fn.out.items l.index l.last l.out.items
