use Rattle.std.proofs.Common.{take}
use Rattle.std.specs.Prelude.{All}
use Rattle.dashboard_cli.specs.Verdicts.{IsLegalQueue}
use Rattle.dashboard_cli.proofs.verdict.judge.Given as goal

abbrev pub invariant-loop-queue : goal.invariant-loop-queue
invariant-loop-queue l = All IsLegalQueue (take l.queue-index l.queues)
