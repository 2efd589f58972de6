use Rattle.std.proofs.Common.{◌≡◌, ◌≤◌, ◌+◌, ◌-◌, ap, sym, ◌∙◌, arith, length, false, if◌then◌else◌}
use Rattle.std.specs.Prelude.{◌==◌}
use Rattle.std.specs.List.{position_or_len}
use Rattle.loop_model.specs.Items.{when_of}
use Rattle.when_queue.specs.Queue.{is_later}
use Rattle.when_queue.proofs.Lists.{behind_all, not_zero}
use Rattle.when_queue.proofs.queue.seek_slot.Goals as goal

pub returns-then-when-clause-place : goal.returns-then-when-clause-place
returns-then-when-clause-place g c =
    let xs = c.args.list.now in
    let low = c.if-when.true in
    let last : when_of c.get.result.now.item ≤ c.args.when = omega arith in
    let end : c.len-len.result - 1 + 1 ≡ length c.args.list.now = omega arith in
    let test : (c.args.when == 0) ≡ false = not_zero c.args.when c.if-when-eq0.false in
    let all = behind_all c.args.when c.args.list.now (c.len-len.result - 1) c.get.result.now c.requires end c.get.ensures last in
    c.len-len.ensures ∙ (sym all ∙ sym (ap (λ b. if b then 0 else position_or_len (is_later c.args.when) c.args.list.now) test))

pub returns-clause-place : goal.returns-clause-place
returns-clause-place g c =
    let test : (c.args.when == 0) ≡ false = not_zero c.args.when c.if-when-eq0.false in
    c.seek_between.ensures.place ∙ sym (ap (λ b. if b then 0 else position_or_len (is_later c.args.when) c.args.list.now) test)
