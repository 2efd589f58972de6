use Rattle.std.proofs.Common.{rules}
use Rattle.dash_hall.proofs.HallSteps.{all_new, used_nowhere}
use Rattle.dash_hall.proofs.hall.open.Goals as goal

pub returns : goal.returns
returns c =
    let unused = all_new c.in_ok-pool.pool _ _ _ _ c.in_ok-kits.kits.items c.queues.new.kits.items _ c.in_ok-kits.ensures.kits.1 c.in_ok-queues.ensures.dealt c.in_ok-choreographers.ensures.dealt in
    record {
      hall = search rules;
      mode = search rules;
      kits = search rules;
      new = used_nowhere _ unused;
      unused = unused;
      pass = search rules;
      counts = search rules;
    }
