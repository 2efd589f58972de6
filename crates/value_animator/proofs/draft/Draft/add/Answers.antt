use Rattle.value_animator.proofs.Limits.{repeats_narrow, repeats_narrow_back, place_narrow, value_narrow}
use Rattle.value_animator.proofs.draft.Draft.add.Goals as goal

pub plan_of-requires : goal.plan_of-requires
plan_of-requires c = repeats_narrow c.args.row.now.kind c.args.row.now.numbers c.in-Restart.is c.requires

pub plan_of-requires-in-Reverse : goal.plan_of-requires-in-Reverse
plan_of-requires-in-Reverse c = repeats_narrow_back c.args.row.now.kind c.args.row.now.numbers c.in-Reverse.is c.requires

pub narrow_at-requires : goal.narrow_at-requires
narrow_at-requires c = place_narrow c.args.row.now.kind c.args.row.now.numbers c.in-Key.is c.requires

pub narrow_at-requires-in-Key : goal.narrow_at-requires-in-Key
narrow_at-requires-in-Key c = value_narrow c.args.row.now.kind c.args.row.now.numbers c.in-Key.is c.requires
