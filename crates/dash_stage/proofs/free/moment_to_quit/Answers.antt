use Rattle.dash_threads.proofs.ThreadShares.{ok_so}
use Rattle.dash_stage.proofs.free.moment_to_quit.Goals as goal

pub returns-in-None-clause-heeds : goal.returns-in-None-clause-heeds
returns-in-None-clause-heeds g c = ok_so _ _ c.in-None.is
