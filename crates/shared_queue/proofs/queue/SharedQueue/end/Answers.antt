use Rattle.std.specs.Slots.{slots_len}
use Rattle.std.proofs.Common.{rules, arith, ◌<◌, ◌≡◌, ap, sym, ◌∙◌, subst}
use mathlib.Core.Option.{some-injective}
use Rattle.shared_queue.specs.Constants.{Constants}
use Rattle.shared_queue.specs.Known.{Shared}
use Rattle.shared_queue.specs.Ends.{IsLast}
use Rattle.shared_queue.proofs.Closing.{closes, closes_with}
use Rattle.shared_queue.proofs.queue.SharedQueue.end.Goals as goal

pub unreachable-requires : goal.unreachable-requires
unreachable-requires g c =
    let key = c.self.inside.table.shared.key in
    let q : Shared g.row.K-Home.Denot = c.args.self in
    let is : q.constants ≡ key = ap (λ (z : Shared g.row.K-Home.Denot). z.constants) (sym c.self.view_is) in
    let some : 0 < key.setting.senders = search rules in
    let t = closes key q c.args.posters.items c.gather-seat.result.me is some (c.requires.posters.0 ∙ ap (λ (z : Constants g.row.K-Home.Denot). z.setting.senders) is) c.requires.posters.1 c.gather-seat.ensures.1 c.gather-seat.result.id _ _ c.close_with-closed.ensures.values.2 in
    c.in_default.not-Some t.0 (some-injective _ _ (sym c.take.ensures.value ∙ t.1))

pub take-requires : goal.take-requires
take-requires g c =
    let counts = c.close_with-closed.ensures.counts in
    let slots = c.self.invariant.1 in
    let one : 0 < slots_len c.close_with-closed.result.slots = omega (arith, counts.1, slots) in
    (one, c.close_with-closed.ensures.values.1 0 (omega arith) one)

pub returns : goal.returns
returns g c =
    let key = c.self.inside.table.shared.key in
    let q : Shared g.row.K-Home.Denot = c.args.self in
    let is : q.constants ≡ key = ap (λ (z : Shared g.row.K-Home.Denot). z.constants) (sym c.self.view_is) in
    let some : 0 < key.setting.senders = search rules in
    let t = closes_with key q c.args.posters.items c.gather-seat.result.me is some (c.requires.posters.0 ∙ ap (λ (z : Constants g.row.K-Home.Denot). z.setting.senders) is) c.requires.posters.1 c.gather-seat.ensures.1 c.gather-seat.result.id _ _ c.in-Some.state c.close_with-closed.ensures.values.2 c.in-Some.ensures.value in
    subst (λ (k : Constants g.row.K-Home.Denot). IsLast k c.args.posters.items c.into_value.result) (sym is) (subst (IsLast key c.args.posters.items) (sym c.into_value.ensures) t)
