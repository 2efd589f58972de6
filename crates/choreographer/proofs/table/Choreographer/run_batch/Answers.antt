use Rattle.std.proofs.Common.{rules, take}
use Rattle.choreographer.specs.Done.{runs}
use Rattle.choreographer.proofs.Phases.{runs_part}
use Rattle.choreographer.proofs.table.Choreographer.run_batch.Goals as goal

pub returns-in-NoMemory-clause-part : goal.returns-in-NoMemory-clause-part
returns-in-NoMemory-clause-part g c =
    let i = c.loop-callback.callback-index in (runs c.args.time (take i c.args.callbacks.now), search rules, runs_part c.args.time i c.args.callbacks.now)
