use Rattle.std.proofs.Common.{rules}
use Rattle.choreographer.specs.Plays.{Sat}
use Rattle.choreographer.proofs.Turns.{joins_in, learns}
use Rattle.choreographer.proofs.Gathers.{takes_in}
use Rattle.choreographer.proofs.table.Choreographer.take_in.Goals as goal

pub join_seat-requires : goal.join_seat-requires
join_seat-requires c = (search rules, search rules, search rules, search rules, joins_in c.self.inside.table.shared.key _ _ _ _ c.requires.seat.1.1 c.into_seat.ensures.1.0)

pub load-requires : goal.load-requires
load-requires c = let m : Sat = c.join_seat.new.seat.me in (search rules, search rules, learns c.self.inside.table.shared.key _ 0 _ m)

pub returns : goal.returns
returns c =
    let l = c.load.ensures.2 in
    let t = takes_in c.args.self.now.constants c.args.seat.now.me c.into_seat.result.me c.join_seat.new.seat.me c.load.new.seat.me c.args.pass c.requires.seat.1 c.into_seat.ensures.1 c.into_seat.ensures.2 c.join_seat.ensures.2 l.0 l.1 in
    (search rules, t.0, t.1)
