use Rattle.std.proofs.Common.{◌≡◌, ◌∙◌, arith}
use Rattle.fate_ledger.proofs.Passed.{all_passed}
use Rattle.fate_ledger.proofs.history.fate_list.Goals as goal

pub returns : goal.returns
returns c =
    let start : c.loop-place.place ≡ 0 = omega (arith, c.loop-place-test.false) in
    let follows = c.loop-place.invariant.0 in
    c.from_last.ensures ∙ all_passed c.args.entries.now c.loop-place.place c.loop-place.ledger.number c.loop-place.ledger.fates.items start follows.number follows.fates
