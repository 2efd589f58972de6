use Rattle.std.proofs.Common.{rules, ◌≡◌, ◌<◌, length, [], ◌∷◌, Some, ap, sym, ◌∙◌, subst}
use Rattle.atomic_table.specs.Table.{rest}
use Rattle.shared_queue.specs.Plays.{Sat}
use Rattle.std.specs.Prelude.{MatchOption}
use Rattle.shared_queue.specs.Seats.{HasTakenTurn}
use Rattle.shared_queue.proofs.Turns.{takes_turn}
use Rattle.shared_queue.proofs.Taken.{takes_out}
use Rattle.shared_queue.proofs.queue.SharedQueue.try_take.Goals as goal

pub compare_exchange-requires : goal.compare_exchange-requires
compare_exchange-requires g c =
    let M : Type 0 = Sat g.row.K-Home.Denot g.row.K.Denot in
    let m : M = c.loop.seat.me in
    let same = c.loop.invariant.2 in (
      search rules,
      search rules,
      takes_turn c.self.inside.table.shared.key _ _ m (subst (λ (z : M). 0 < length z.0.senders) (sym same) c.requires.rests.1),
    )

pub exchange-requires : goal.exchange-requires
exchange-requires g c =
    let M : Type 0 = Sat g.row.K-Home.Denot g.row.K.Denot in
    let won = c.compare_exchange.ensures.2.0 c.if-compare_exchange-eq0.true in
    let carries = ap (λ (z : M). z.1) won.3 in
    (search rules, (Some won.0, carries ∙ ap (λ l. (0, Some won.0) ∷ rest l) (sym carries)))

pub returns-then-compare_exchange-eq0-clause-taken : goal.returns-then-compare_exchange-eq0-clause-taken
returns-then-compare_exchange-eq0-clause-taken g c =
    let M : Type 0 = Sat g.row.K-Home.Denot g.row.K.Denot in
    let key = c.args.self.now.constants in
    let m : M = c.loop.seat.me in
    let same : m ≡ c.args.seat.now.me = c.loop.invariant.2 in
    let won = c.compare_exchange.ensures.2.0 c.if-compare_exchange-eq0.true in
    let e = c.exchange.ensures in
    let live : m.0.constants ≡ Some key = ap (λ (z : M). z.0.constants) same ∙ c.requires.rests.0.0 in
    let empty : m.1 ≡ [] = ap (λ (z : M). z.1) same ∙ c.requires.rests.0.2 in
    let t = takes_out key m c.compare_exchange.new.seat.me c.exchange.new.seat.me c.exchange.result (c.exchange.new.seat.me ≡ c.args.seat.now.me) live empty won e.2 e.3 in
    subst (λ (z : M). MatchOption c.exchange.result (c.exchange.new.seat.me ≡ c.args.seat.now.me) (λ x. HasTakenTurn key z c.exchange.new.seat.me x)) same t
