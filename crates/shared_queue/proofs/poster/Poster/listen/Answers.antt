use Rattle.std.proofs.Common.{rules}
use Rattle.shared_queue.proofs.Turns.{listens}
use Rattle.shared_queue.proofs.poster.Poster.listen.Goals as goal

pub load-bell-requires : goal.load-bell-requires
load-bell-requires g c = (search rules, search rules, listens c.queue.inside.table.shared.key _ _ _)
