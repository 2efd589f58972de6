use Rattle.std.proofs.Common.{◌≡◌, ℕ, ◌+◌, ◌<◌, List, Bool, length, take, drop, refl, sym, ap, subst, ◌∙◌, arith}
use Rattle.message_slot.specs.Letter.{Letter}
use Rattle.when_queue.specs.declared.tally.Tally.{Tally}
use Rattle.when_queue.specs.Wanted.{is_wanted}
use Rattle.when_queue.specs.Tally.{IsTallied, what_place, callback_place, with_fewer}
use Rattle.when_queue.proofs.Lists.{HasGone, long_cut, goes_taking, goes_past, put_last, all_cut_out}
use Rattle.when_queue.proofs.Tallied.{tallied_fewer}
use Rattle.when_queue.proofs.queue.take_wanted.Goals as goal
use Rattle.when_queue.proofs.queue.take_wanted.Goals.{then-is_met_by, else-is_met_by}

pub loop-init : goal.loop-init
loop-init g c =
    let L : Type 0 = List (Letter g.row.K.Denot) in
    let n : ℕ = c.count_first-first.result in
    let same : c.count_first-first.new.list ≡ c.args.list.now = c.count_first-first.ensures.same in
    let front : c.split_front-taken.result ≡ take n c.args.list.now = c.split_front-taken.ensures.front ∙ ap (λ (l : L). take n l) same in
    let rest : c.rewind.new.self ≡ drop n c.args.list.now = c.rewind.ensures ∙ c.split_front-taken.ensures.rest ∙ ap (λ (l : L). drop n l) same in
    let long = long_cut c.args.list.now c.split_front-taken.result c.rewind.new.self n c.count_first-first.ensures.within.0 front rest in
    let fits = c.count_first-first.ensures.within.1 in let many = c.len-count.ensures in let there = ap length c.rewind.ensures in
    ((record { gone = refl; kept = refl }, omega arith, omega arith, omega arith), subst (IsTallied c.count_first-first.new.tally.whats.items c.count_first-first.new.tally.callbacks.items) (sym rest) c.count_first-first.ensures.tallied, omega arith)

pub insert_at-requires : goal.insert_at-requires
insert_at-requires g c =
    let most = c.loop.invariant.0.1 in let long = c.loop.invariant.0.2 in let sum = c.loop.invariant.0.3 in
    let fits = c.loop.invariant.2 in let more = c.loop-test.true in let end = c.len-end.ensures in
    (omega arith, omega arith)

pub overflow_add-index : goal.overflow_add-index
overflow_add-index g c =
    let most = c.loop.invariant.0.1 in let long = c.loop.invariant.0.2 in let sum = c.loop.invariant.0.3 in
    let fits = c.loop.invariant.2 in let more = c.loop-test.true in omega arith

pub loop-preserved : goal.loop-preserved
loop-preserved g c =
    let L : Type 0 = List (Letter g.row.K.Denot) in
    let p : Letter g.row.K.Denot → Bool = λ m. is_wanted c.args.wanted.now m.item in
    let Gone : L → L → ℕ → Type 0 = HasGone p c.split_front-taken.result c.rewind.new.self c.len-count.result (c.loop.counter + 1) in
    let more : c.loop.counter < c.len-count.result = c.loop-test.true in
    elim c.if-is_met_by.branch [
      | then-is_met_by w ↦
          let last = w.insert_at.ensures ∙ put_last c.loop.taken w.len-end.result w.remove_at-node.result w.len-end.ensures in (
            subst (λ (r : L × L × ℕ). Gone r.0 r.1 r.2) (λ j. (sym w.list-is j, sym w.taken-is j, sym w.index-is j))
                (goes_taking p c.split_front-taken.result c.rewind.new.self c.loop.list w.remove_at-node.new.self c.loop.taken w.insert_at.new.self c.len-count.result c.loop.counter c.loop.index w.remove_at-node.result c.get.result.now more c.loop.invariant.0 c.get.ensures (sym c.is_met_by.ensures ∙ w.if-is_met_by.true) (sym w.forget_marks.ensures ∙ w.remove_at-node.ensures) last),
            subst (λ (r : L × Tally). IsTallied r.1.whats.items r.1.callbacks.items r.0) (λ j. (sym w.list-is j, sym w.tally-is j))
                (tallied_fewer c.loop.tally.whats.items c.loop.tally.callbacks.items w.take_off.new.self.whats.items w.take_off.new.self.callbacks.items w.remove_at-node.new.self c.loop.list c.loop.index w.remove_at-node.result
                (w.take_off.ensures.whats ∙ ap (λ (m : Letter g.row.K.Denot). with_fewer (what_place m.item) c.loop.tally.whats.items) w.item.ensures)
                (w.take_off.ensures.callbacks ∙ ap (λ (m : Letter g.row.K.Denot). with_fewer (callback_place m.item) c.loop.tally.callbacks.items) w.item.ensures)
                (sym w.forget_marks.ensures ∙ w.remove_at-node.ensures) c.loop.invariant.1),
            c.loop.invariant.2,
          )
      | else-is_met_by w ↦ (
        subst (λ (r : L × L × ℕ). Gone r.0 r.1 r.2) (λ j. (sym w.list-is j, sym w.taken-is j, sym w.index-is j))
            (subst (λ (l : L). Gone l c.loop.taken (c.loop.index + 1)) (sym w.step.ensures) (goes_past p c.split_front-taken.result c.rewind.new.self c.loop.list c.loop.taken c.len-count.result c.loop.counter c.loop.index c.get.result.now more c.loop.invariant.0 c.get.ensures (sym c.is_met_by.ensures ∙ w.if-is_met_by.false))),
        subst (λ (r : L × Tally). IsTallied r.1.whats.items r.1.callbacks.items r.0) (λ j. (sym w.list-is j, sym w.tally-is j))
            (subst (λ (l : L). IsTallied c.loop.tally.whats.items c.loop.tally.callbacks.items l) (sym w.step.ensures) c.loop.invariant.1),
        c.loop.invariant.2,
      )
    ]

pub returns-clause-taken : goal.returns-clause-taken
returns-clause-taken g c =
    let most = c.loop.invariant.0.1 in let long = c.loop.invariant.0.2 in let end = c.loop-test.false in
    (all_cut_out (λ m. is_wanted c.args.wanted.now m.item) c.args.list.now c.count_first-first.new.list c.split_front-taken.result c.rewind.new.self c.loop.list c.loop.taken c.count_first-first.result c.loop.index c.count_first-first.ensures.same c.count_first-first.ensures.wanted c.split_front-taken.ensures.front (c.rewind.ensures ∙ c.split_front-taken.ensures.rest) (omega arith) c.loop.invariant.0.0).0

pub returns-clause-kept : goal.returns-clause-kept
returns-clause-kept g c =
    let most = c.loop.invariant.0.1 in let long = c.loop.invariant.0.2 in let end = c.loop-test.false in
    (all_cut_out (λ m. is_wanted c.args.wanted.now m.item) c.args.list.now c.count_first-first.new.list c.split_front-taken.result c.rewind.new.self c.loop.list c.loop.taken c.count_first-first.result c.loop.index c.count_first-first.ensures.same c.count_first-first.ensures.wanted c.split_front-taken.ensures.front (c.rewind.ensures ∙ c.split_front-taken.ensures.rest) (omega arith) c.loop.invariant.0.0).1
