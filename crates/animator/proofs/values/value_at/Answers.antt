use Rattle.animator.proofs.Between.{last_of, by_last}
use Rattle.std.proofs.Common.{◌≡◌, length, ◌-◌, slice_index_or}
use Rattle.animator.specs.declared.keys.Key.{Key}
use Rattle.animator.specs.Valuing.{last_value}
use Rattle.animator.proofs.values.value_at.Goals as goal

pub returns-then-position-plan : goal.returns-then-position-plan
returns-then-position-plan c =
    let d : Key = record { at = 0; value = 0 } in
    let last : (slice_index_or c.as_slice-keys.result.now (length c.as_slice-keys.result.now - 1) d).value ≡ last_value c.args.plan.now.keys =
    last_of c.args.plan.now.keys c.as_slice-keys.result.now d c.requires.plan.rising c.as_slice-keys.ensures in
    by_last c.args.plan.now c.args.position _ c.if-position-plan.true last
