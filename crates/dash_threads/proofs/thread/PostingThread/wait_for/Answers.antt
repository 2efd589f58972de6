use Rattle.dash_threads.proofs.ThreadShares.{ok_so}
use Rattle.dash_threads.proofs.thread.PostingThread.wait_for.Goals as goal

pub returns-clause-passed : goal.returns-clause-passed
returns-clause-passed g c = ok_so _ _ c.saturating_add-self.ensures
