use Rattle.std.proofs.Common.{◌≡◌, ◌+◌, ◌≤◌, List, Bool, length, sym, ap, subst, ◌∙◌, arith}
use Rattle.std.specs.Prelude.{not}
use Rattle.std.specs.List.{position_or_len}
use Rattle.std.proofs.lemmas.List.Sums.{prefix_len-le-length}
use Rattle.message_slot.specs.Letter.{Letter}
use Rattle.when_queue.specs.Wanted.{is_wanted}
use Rattle.when_queue.proofs.Lists.{at_first, past_first}
use Rattle.when_queue.proofs.queue.seek_from.Goals as goal

pub returns-then-is_met_by-clause-index : goal.returns-then-is_met_by-clause-index
returns-then-is_met_by-clause-index g c =
    let p : Letter g.row.K.Denot → Bool = λ m. is_wanted c.args.wanted.now m.item in
    subst (λ (l : List (Letter g.row.K.Denot)). c.loop-index.index ≡ position_or_len p l) c.loop-index.invariant.0
    (at_first p c.loop-index.list c.loop-index.index c.get.result.now c.loop-index.invariant.3 c.get.ensures (sym c.is_met_by.ensures ∙ c.if-is_met_by.true))

pub loop-index-preserved : goal.loop-index-preserved
loop-index-preserved g c =
    let p : Letter g.row.K.Denot → Bool = λ m. is_wanted c.args.wanted.now m.item in
    let less = c.loop-index-test.true in
    let past = past_first p c.loop-index.list c.loop-index.index c.get.result.now c.loop-index.invariant.3 c.get.ensures (sym c.is_met_by.ensures ∙ c.if-is_met_by.false) in
    (c.step.ensures ∙ c.loop-index.invariant.0, c.loop-index.invariant.1 ∙ sym (ap length c.step.ensures), omega arith, subst (λ (l : List (Letter g.row.K.Denot)). c.loop-index.index + 1 ≤ position_or_len p l) (sym c.step.ensures) (omega arith))

pub returns-clause-index : goal.returns-clause-index
returns-clause-index g c =
    let p : Letter g.row.K.Denot → Bool = λ m. is_wanted c.args.wanted.now m.item in
    let le = prefix_len-le-length (λ m. not (p m)) c.loop-index.list in
    let end = c.loop-index-test.false in let all = c.loop-index.invariant.1 in let low = c.loop-index.invariant.3 in
    let is : c.len-len.result ≡ position_or_len p c.loop-index.list = omega arith in
    subst (λ (l : List (Letter g.row.K.Denot)). c.len-len.result ≡ position_or_len p l) c.loop-index.invariant.0 is
