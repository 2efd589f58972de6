use Rattle.std.proofs.Common.{IfOk, subst, sym}
use Rattle.std.specs.List.Sorted.{IsSortedByKey}
use Rattle.run_picture.specs.Groups.{AreCut, order, place}
use Rattle.run_picture.proofs.Grouped.{cut_none}
use Rattle.run_picture.proofs.group.cut.Goals as goal

pub cut_behind-requires : goal.cut_behind-requires
cut_behind-requires c = subst (λ ms. IsSortedByKey (place c.args.scale) order ms) c.in-Some.ensures.cases.0 c.requires

pub returns-in-Some : goal.returns-in-Some
returns-in-Some c = subst (λ ms. IfOk c.cut_behind.result (λ found. AreCut c.args.scale ms found.items)) (sym c.in-Some.ensures.cases.0) c.cut_behind.ensures

pub returns-in-None : goal.returns-in-None
returns-in-None c = cut_none c.args.scale c.args.marks.now c.new.result.items c.in-None.ensures.cases c.new.ensures.items
