use Rattle.std.proofs.Common.{rules, ◌≡◌, ap, ◌∙◌}
use Rattle.queue_state.specs.Queue.{Queue}
use Rattle.shared_queue.specs.declared.view.View.{View}
use Rattle.shared_queue.specs.Known.{Rests}
use Rattle.shared_queue.proofs.Turns.{joins_in, learns}
use Rattle.shared_queue.proofs.Gathers.{takes_in}
use Rattle.shared_queue.proofs.queue.SharedQueue.take_in.Goals as goal

pub join_seat-requires : goal.join_seat-requires
join_seat-requires g c = (search rules, search rules, search rules, search rules, joins_in c.self.inside.table.shared.key _ _ _ _ c.requires.seat.1.1 c.into_seat.ensures.rests.0)

pub load-requires : goal.load-requires
load-requires g c = (search rules, search rules, learns c.self.inside.table.shared.key _ 0 _ _)

pub returns : goal.returns
returns g c =
    let l = c.load.ensures.2 in
    let q = c.args.self.now in
    let u = c.into_seat.result.me in
    let is : u.0 ≡ c.args.poster.view = c.into_seat.ensures.view.0 in
    let theirs : Rests q.constants u = (ap (λ (v : View (Queue g.row.K-Home.Denot g.row.K.Denot) g.row.K-Home.Denot g.row.K.Denot). v.constants) is ∙ c.requires.poster.1, c.into_seat.ensures.rests.0, c.into_seat.ensures.rests.1) in
    let t = takes_in q.constants c.args.seat.now.me u c.join_seat.new.seat.me c.load.new.seat.me c.args.poster c.requires.seat.1 theirs is c.into_seat.ensures.senders c.into_seat.ensures.view.1 c.join_seat.ensures.2 l.0 l.1 l.3 in
    (search rules, t.0, t.1)
