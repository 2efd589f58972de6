use Rattle.std.proofs.Common.{◌-◌, ◌*◌, ◌/◌, ◌≤◌, arith}
use Rattle.animator.proofs.Between.{some_whole, step_within}
use Rattle.animator.proofs.values.moved.Goals as goal

pub nonzero_div-result : goal.nonzero_div-result
nonzero_div-result c = rw c.from-2.ensures (some_whole c.args.from.now.at c.args.to.now.at c.args.duration (1000 * c.args.position) c.requires.after c.requires.before)

pub overflow_add-result : goal.overflow_add-result
overflow_add-result c =
    let within : (c.args.to.now.value - c.args.from.now.value) * (1000 * c.args.position - c.args.from.now.at * c.args.duration)
    / ((c.args.to.now.at - c.args.from.now.at) * c.args.duration) ≤ c.args.to.now.value - c.args.from.now.value =
    step_within c.args.from.now.at c.args.to.now.at c.args.duration (1000 * c.args.position) (c.args.to.now.value - c.args.from.now.value) c.requires.after c.requires.before in
    let high : c.args.to.now.value ≤ 1000000 = c.requires.to.value in
    let up : c.args.from.now.value ≤ c.args.to.now.value = c.if-from-to.true in
    rw (c.from-distance.ensures, c.from.ensures, c.from-2.ensures) (omega arith)

pub nonzero_div-result-else-from-to : goal.nonzero_div-result-else-from-to
nonzero_div-result-else-from-to c = rw c.from-2.ensures (some_whole c.args.from.now.at c.args.to.now.at c.args.duration (1000 * c.args.position) c.requires.after c.requires.before)

pub overflow_sub-result : goal.overflow_sub-result
overflow_sub-result c =
    let within : (c.args.from.now.value - c.args.to.now.value) * (1000 * c.args.position - c.args.from.now.at * c.args.duration)
    / ((c.args.to.now.at - c.args.from.now.at) * c.args.duration) ≤ c.args.from.now.value - c.args.to.now.value =
    step_within c.args.from.now.at c.args.to.now.at c.args.duration (1000 * c.args.position) (c.args.from.now.value - c.args.to.now.value) c.requires.after c.requires.before in
    rw (c.from-distance-else-from-to.ensures, c.from.ensures, c.from-2.ensures) (omega arith)
