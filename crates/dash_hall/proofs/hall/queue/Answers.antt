use Rattle.dash_hall.proofs.hall.queue.Goals as goal

pub returns-clause-dealt : goal.returns-clause-dealt
returns-clause-dealt c = c.in_ok-deal_posters.ensures c.in_ok-queue.queue c.in_ok-queue.ensures.posters.1
