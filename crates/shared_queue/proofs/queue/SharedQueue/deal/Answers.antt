use Rattle.std.proofs.Common.{rules, ℕ, List, [], drop, ap, ◌∙◌}
use Rattle.shared_queue.specs.Constants.{Constants}
use Rattle.shared_queue.specs.Turn.{opening_view, keeping}
use Rattle.shared_queue.specs.Plays.{Sat}
use Rattle.shared_queue.proofs.Turns.{deals}
use Rattle.shared_queue.proofs.Gathers.{numbers_rest}
use Rattle.shared_queue.proofs.queue.SharedQueue.deal.Goals as goal

pub split_seat-requires : goal.split_seat-requires
split_seat-requires g c =
    let M : Type 0 = Sat g.row.K-Home.Denot g.row.K.Denot in
    let was = c.requires.seat in
    (search rules, search rules, deals c.self.inside.table.shared.key _ _ (ap (λ (z : M). z.0.has_turn) was) (ap (λ (z : M). z.0.rung) was) (ap (λ (z : M). z.0.sealed) was))

pub returns-clause-seat : goal.returns-clause-seat
returns-clause-seat g c =
    let M : Type 0 = Sat g.row.K-Home.Denot g.row.K.Denot in
    let key : Constants g.row.K-Home.Denot = c.args.self.now.constants in
    let was = c.requires.seat in (
      c.split_seat.ensures.0,
      c.split_seat.ensures.2 ∙ (ap (λ (z : M). (keeping z.0 (drop 1 z.0.senders), z.1)) was ∙ ap (λ (l : List (ℕ × ℕ)). (keeping (opening_view key) l, [])) (numbers_rest c.args.sender key.setting.senders c.requires.sender)),
    )
