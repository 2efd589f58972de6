use Rattle.std.proofs.Common.{◌≡◌, ◌+◌, List, true, length, take, drop, sym, ap, subst, ◌∙◌, arith}
use Rattle.std.specs.List.{AllByRecursion}
use Rattle.message_slot.specs.Letter.{Letter}
use Rattle.when_queue.specs.Wanted.{is_wanted}
use Rattle.when_queue.specs.Tally.{IsTallied}
use Rattle.when_queue.proofs.Lists.{one_first, first_from}
use Rattle.when_queue.proofs.Tallied.{tallied_fewer}
use Rattle.when_queue.proofs.queue.count_first.Goals as goal

pub loop-count-preserved : goal.loop-count-preserved
loop-count-preserved g c =
    let L : Type 0 = List (Letter g.row.K.Denot) in
    let list : L = c.loop-count.list in
    let m : Letter g.row.K.Denot = c.get-message.result.now in
    let less = c.loop-count-test.true in
    let first = one_first (λ m. is_wanted c.args.wanted.now m.item ≡ true) list c.loop-count.count m c.get-message.ensures (sym c.is_met_by.ensures ∙ c.if-not-is_met_by.false) c.loop-count.invariant.3 in
    let counted = tallied_fewer c.loop-count.tally.whats.items c.loop-count.tally.callbacks.items c.take_off.new.self.whats.items c.take_off.new.self.callbacks.items (drop (c.loop-count.count + 1) list) (drop c.loop-count.count list) 0 m
    c.take_off.ensures.whats c.take_off.ensures.callbacks (first_from list c.loop-count.count m c.get-message.ensures) c.loop-count.invariant.4 in (
      c.step.ensures ∙ c.loop-count.invariant.0,
      c.loop-count.invariant.1 ∙ sym (ap length c.step.ensures),
      omega arith,
      subst (λ (l : L). AllByRecursion (λ m. is_wanted c.args.wanted.now m.item ≡ true) (take (c.loop-count.count + 1) l)) (sym c.step.ensures) first,
      subst (λ (l : L). IsTallied c.take_off.new.self.whats.items c.take_off.new.self.callbacks.items (drop (c.loop-count.count + 1) l)) (sym c.step.ensures) counted,
    )
