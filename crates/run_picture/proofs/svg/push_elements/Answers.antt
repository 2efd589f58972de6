use Rattle.std.proofs.Common.{subst, sym}
use Rattle.run_picture.specs.Drawn.{HasNoElement}
use Rattle.run_picture.proofs.Elements.{element_more, elements_all}
use Rattle.run_picture.proofs.svg.push_elements.Goals as goal

pub loop-index-init : goal.loop-index-init
loop-index-init c after rest = rest

pub loop-index-preserved : goal.loop-index-preserved
loop-index-preserved c =
    element_more c.args.most c.args.groups.now c.args.out.now.items c.loop-index.index _ c.loop-index.last c.shelf_of-shelf.result _ c.level_of-level.result c.deref.result.now
    c.loop-index.out.items c.push_element.new.out.items c.loop-index-test.true c.loop-index.invariant c.index-groups-index.is c.shelf_of-shelf.ensures.row c.shelf_of-shelf.ensures.behind
    (subst HasNoElement (sym c.deref.ensures.value) c.into_bytes.ensures) c.level_of-level.ensures c.in_ok-push_element.ensures

pub returns : goal.returns
returns c =
    elements_all c.args.most c.args.groups.now c.args.out.now.items c.loop-index.index c.loop-index.last c.loop-index.out.items c.loop-index-test.false c.loop-index.invariant
