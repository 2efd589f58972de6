use Rattle.std.proofs.Common.{arith}
use Rattle.message_pool.proofs.Keeps.{halving}
use Rattle.message_pool.proofs.steps.halve.Goals as goal

pub split_seat-requires : goal.split_seat-requires
split_seat-requires g c = (c.requires.0, omega (arith, c.requires.1.0), halving _ _)
