use Rattle.std.proofs.Common.{arith}
use Rattle.std.specs.Prelude.{slice_index_or}
use Rattle.dash_stage.specs.Turns.{RunsInTurn}
use Rattle.dash_stage.proofs.Sharing.{of_same, round_of}
use Rattle.dash_stage.proofs.side.run_loopers.Goals as goal

pub returns-then-some_gave_up-clause-round : goal.returns-then-some_gave_up-clause-round
returns-then-some_gave_up-clause-round g c = round_of c.args.turn c.args.script.now c.args.hall.now c.args.now c.args.loopers.now c.for_each_mut.new.s c.requires.can.loopers (omega (arith, c.for_each_mut.auto.s)) (λ k d lt.
    let one = (c.for_each_mut.ensures k d lt).1 in
    of_same (RunsInTurn c.args.turn c.args.script.now c.args.hall.now c.args.now) one.argument.now one.after_call.now (slice_index_or c.args.loopers.now k d) (slice_index_or c.for_each_mut.new.s k d) one.argument_is one.left one.call)

pub returns-clause-round : goal.returns-clause-round
returns-clause-round g c = round_of c.args.turn c.args.script.now c.args.hall.now c.args.now c.args.loopers.now c.for_each_mut.new.s c.requires.can.loopers (omega (arith, c.for_each_mut.auto.s)) (λ k d lt.
    let one = (c.for_each_mut.ensures k d lt).1 in
    of_same (RunsInTurn c.args.turn c.args.script.now c.args.hall.now c.args.now) one.argument.now one.after_call.now (slice_index_or c.args.loopers.now k d) (slice_index_or c.for_each_mut.new.s k d) one.argument_is one.left one.call)
