use Rattle.std.proofs.Common.{rules, ℕ, ◌<◌, List, length, sym, subst, arith}
use Rattle.shared_queue.specs.Plays.{Sat}
use Rattle.shared_queue.proofs.Turns.{rings_it}
use Rattle.shared_queue.proofs.poster.Poster.raise.Goals as goal

pub fetch_add-requires : goal.fetch_add-requires
fetch_add-requires g c =
    let m : Sat g.row.K-Home.Denot g.row.K.Denot = c.self.inside.desk.seat.me in
    let some_sender : 0 < length m.0.senders = subst (λ (l : List (ℕ × ℕ)). 0 < length l) (sym c.self.invariant.2.senders) (omega arith) in
    (search rules, search rules, rings_it c.queue.inside.table.shared.key _ _ m some_sender)
