use Rattle.shared_queue.proofs.ClaimLaws.{taken_is_posted}
use Rattle.shared_queue.proofs.laws.taken_is_posted.Goals as goal

pub returns : goal.returns
returns g c = taken_is_posted
