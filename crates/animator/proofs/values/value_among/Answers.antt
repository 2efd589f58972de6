use Rattle.std.proofs.Common.{sym, ◌∙◌}
use Rattle.animator.proofs.Between.{key_behind, among_next}
use Rattle.animator.proofs.values.value_among.Goals as goal

pub is_around-requires-clause-to : goal.is_around-requires-clause-to
is_around-requires-clause-to c =
    key_behind c.args.keys.now c.in-Some.rest.now c.in-Some.first.now c.loop-to.to-index _ c.requires.keys c.in-Some.ensures.cases.0 c.loop-to-test.true

pub moved-requires-clause-to : goal.moved-requires-clause-to
moved-requires-clause-to c =
    key_behind c.args.keys.now c.in-Some.rest.now c.in-Some.first.now c.loop-to.to-index _ c.requires.keys c.in-Some.ensures.cases.0 c.loop-to-test.true

pub loop-to-preserved : goal.loop-to-preserved
loop-to-preserved c = record {
  from = key_behind c.args.keys.now c.in-Some.rest.now c.in-Some.first.now c.loop-to.to-index _ c.requires.keys c.in-Some.ensures.cases.0 c.loop-to-test.true;
  left = among_next c.args.duration c.args.position c.loop-to.from.now c.in-Some.rest.now c.loop-to.to-index _ _ c.loop-to-test.true (sym c.is_around.ensures ∙ c.if-is_around.false) c.loop-to.invariant.left;
}
