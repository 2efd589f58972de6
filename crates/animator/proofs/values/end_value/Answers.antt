use Rattle.animator.proofs.Between.{last_of, stays_without, stays_forwards}
use Rattle.std.proofs.Common.{◌≡◌, length, ◌-◌, slice_index_or, ◌∙◌}
use Rattle.animator.specs.declared.keys.Key.{Key}
use Rattle.animator.specs.Valuing.{end_value, last_value}
use Rattle.animator.proofs.values.end_value.Goals as goal
use Rattle.animator.proofs.values.end_value.Goals.{else-plan-via-then-plan+else-plan-eq1, else-plan-via-else-plan}

pub returns-else-plan : goal.returns-else-plan
returns-else-plan c =
    let d : Key = record { at = 0; value = 0 } in
    let last : (slice_index_or c.as_slice-keys.result.now (length c.as_slice-keys.result.now - 1) d).value ≡ last_value c.args.plan.now.keys =
    last_of c.args.plan.now.keys c.as_slice-keys.result.now d c.requires.rising c.as_slice-keys.ensures in
    let is : last_value c.args.plan.now.keys ≡ end_value c.args.plan.now =
    elim c.else-plan.branch [ else-plan-via-then-plan+else-plan-eq1 w ↦ stays_forwards c.args.plan.now w.if-plan.true w.if-plan-eq1.false | else-plan-via-else-plan w ↦ stays_without c.args.plan.now w.if-plan.false ] in
    last ∙ is
