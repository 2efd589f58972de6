use Rattle.std.proofs.Common.{ℕ, ◌+◌, List, length, take, refl, sym, ap, subst, ◌∙◌, arith}
use Rattle.std.proofs.lemmas.List.{take_all}
use Rattle.message_slot.specs.Letter.{Letter}
use Rattle.when_queue.specs.Tally.{IsTallied}
use Rattle.when_queue.proofs.Lists.{front_grows}
use Rattle.when_queue.proofs.Tallied.{tallied_none, tallied_more}
use Rattle.when_queue.proofs.queue.count_all.Goals as goal

pub loop-count-init : goal.loop-count-init
loop-count-init g c =
    (refl, c.len-len.ensures ∙ sym (ap length c.rewind.ensures), omega arith, tallied_none c.args.tally.whats.items c.args.tally.callbacks.items (take 0 c.rewind.new.self) refl)

pub loop-count-preserved : goal.loop-count-preserved
loop-count-preserved g c =
    let L : Type 0 = List (Letter g.row.K.Denot) in
    let list : L = c.loop-count.list in
    let k : ℕ = c.loop-count.count in
    let less = c.loop-count-test.true in let long = c.loop-count.invariant.1 in let fits = c.len-len.auto in
    let grows = front_grows list k c.get.result.now (omega arith) c.get.ensures in let many = grows.1 in
    let counted = tallied_more c.loop-count.tally.whats.items c.loop-count.tally.callbacks.items c.add.new.self.whats.items c.add.new.self.callbacks.items (take k list) (take (k + 1) list) k c.get.result.now
    (omega arith) c.add.ensures.whats c.add.ensures.callbacks grows.0 c.loop-count.invariant.3 in (
      c.step.ensures ∙ c.loop-count.invariant.0,
      long ∙ sym (ap length c.step.ensures),
      omega arith,
      subst (λ (l : L). IsTallied c.add.new.self.whats.items c.add.new.self.callbacks.items (take (k + 1) l)) (sym c.step.ensures) counted,
    )

pub returns-clause-tallied : goal.returns-clause-tallied
returns-clause-tallied g c =
    let end = c.loop-count-test.false in let long = c.loop-count.invariant.1 in let most = c.loop-count.invariant.2 in
    subst (IsTallied c.loop-count.tally.whats.items c.loop-count.tally.callbacks.items) (take_all c.loop-count.count c.loop-count.list (omega arith)) c.loop-count.invariant.3
