use Rattle.std.proofs.Common.{◌<◌, ◌≤◌, length, arith}
use Rattle.message_list.proofs.chain.Chain.find_from.Goals as goal

pub find_forward-requires : goal.find_forward-requires
find_forward-requires g c = let low : c.args.here ≤ c.args.i = omega arith in let within = c.args.i < length c.args.self.now in (low, omega arith, c.requires (omega arith))

pub find_back-requires : goal.find_back-requires
find_back-requires g c = (omega arith, c.requires (omega arith))
