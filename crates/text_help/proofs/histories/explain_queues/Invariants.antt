use Rattle.std.proofs.Common.{take}
use Rattle.std.specs.Prelude.{All}
use Rattle.text_help.specs.Histories.{IsLegalQueue}
use Rattle.text_help.proofs.histories.explain_queues.Given as goal

-- the queues before it are legal
abbrev pub invariant-loop-number : goal.invariant-loop-number
invariant-loop-number l = All IsLegalQueue (take l.number l.queues)
