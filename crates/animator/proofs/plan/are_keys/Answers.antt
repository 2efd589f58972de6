use Rattle.std.proofs.Common.{All, ◌≤◌, length, subst, arith}
use Rattle.std.proofs.lemmas.List.{take_all}
use Rattle.std.proofs.lemmas.List.Elements.{All-more}
use Rattle.animator.specs.Plans.{IsKey}
use Rattle.animator.proofs.plan.are_keys.Goals as goal

pub loop-key-preserved : goal.loop-key-preserved
loop-key-preserved c =
    All-more IsKey c.args.keys.now c.loop-key.key-index _ c.loop-key-test.true c.loop-key.invariant (c.is_key.ensures.0 cc)

pub returns : goal.returns
returns c =
    let le : length c.args.keys.now ≤ c.loop-key.key-index = omega arith in
    (λ t. subst (λ l. All IsKey l) (take_all c.loop-key.key-index c.args.keys.now le) c.loop-key.invariant, λ h. cc)
