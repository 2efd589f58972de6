use Rattle.value_animator.proofs.Placing.{placed_behind}
use Rattle.value_animator.proofs.draft.may_be_placed.Goals as goal

pub returns-in-Some : goal.returns-in-Some
returns-in-Some c = placed_behind c.args.keys.now c.in-Some.key.now c.from.result c.args.place c.in-Some.ensures.value c.from.ensures
