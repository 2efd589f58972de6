use Rattle.std.proofs.Common.{refl, arith}
use Rattle.text_help.proofs.HistoriesJudged.{all_of_them, first_illegal, one_more}
use Rattle.text_help.proofs.histories.explain_queues.Goals as goal

pub returns-in-First : goal.returns-in-First
returns-in-First c =
    first_illegal c.args.queues.now c.loop-number.number c.index-queues-number.result c.in-First.place c.in-First.fault c.loop-number-test.true
    c.index-queues-number.is c.loop-number.invariant (c.in-First.ensures.first c.in-First.place refl) c.in-First.ensures.fault

pub loop-number-preserved : goal.loop-number-preserved
loop-number-preserved c =
    one_more c.args.queues.now c.loop-number.number c.index-queues-number.result c.loop-number-test.true c.index-queues-number.is c.loop-number.invariant
    (c.in-Legal.ensures.legal refl)

pub returns : goal.returns
returns c = all_of_them c.args.queues.now c.loop-number.number (omega (arith, c.loop-number-test.false)) c.loop-number.invariant
