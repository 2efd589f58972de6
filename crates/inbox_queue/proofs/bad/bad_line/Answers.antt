use Rattle.std.proofs.Common.{ℕ, ◌≤◌, ◌≡◌, ◌+◌, ◌<◌, ◌∙◌, true, false, List, ap, refl, sym, length, arith}
use Rattle.std.specs.List.{flat_map, position_from}
use Rattle.dash_script.specs.declared.script.Block.{Block}
use Rattle.dash_script.specs.Text.{block_lines}
use Rattle.inbox_queue.specs.Bad.{is_bad}
use Rattle.inbox_queue.proofs.Bads.{bad_loopers, bad_gauge, bad_rule, bad_command, few_lines}
use Rattle.inbox_queue.proofs.bad.bad_line.Goals as goal

few : (n : ℕ) → n ≤ 1 → 1 < n → ⊥
few n le lt = absurd (omega arith)

pub returns-then-script-gt1 : goal.returns-then-script-gt1
returns-then-script-gt1 c = sym (bad_loopers c.args.script.now c.if-script-gt1.true)

pub returns-then-not-is_empty : goal.returns-then-not-is_empty
returns-then-not-is_empty c =
    sym (bad_gauge c.args.script.now (3 + c.len.result + 1) (few c.args.script.now.loopers c.if-script-gt1.false) (λ z. let wrong : false ≡ true = c.if-not-is_empty.ensures.1 z in cc) (let l = c.len.ensures in omega (arith, l)))

pub returns-then-not-is_empty-2 : goal.returns-then-not-is_empty-2
returns-then-not-is_empty-2 c =
    sym (bad_rule c.args.script.now (3 + c.len.result + 2) (few c.args.script.now.loopers c.if-script-gt1.false) (c.if-not-is_empty.ensures.0 refl) (λ z. let wrong : false ≡ true = c.if-not-is_empty-2.ensures.1 z in cc) (let l = c.len.ensures in omega (arith, l)))

pub bad_in_blocks-requires : goal.bad_in_blocks-requires
bad_in_blocks-requires c =
    let own = ap (λ (bs : List Block). length (flat_map block_lines bs)) c.as_slice.ensures in
    let most = few_lines c.args.script.now c.requires in
    let handlers = c.requires.handlers in
    let l = c.len.ensures in
    omega (arith, own, most, handlers, l)

pub returns : goal.returns
returns c =
    bad_command c.args.script.now (3 + c.len.result + 1) c.bad_in_blocks.result (few c.args.script.now.loopers c.if-script-gt1.false) (c.if-not-is_empty.ensures.0 refl) (c.if-not-is_empty-2.ensures.0 refl) (let l = c.len.ensures in omega (arith, l))
    (c.bad_in_blocks.ensures ∙ ap (λ (bs : List Block). position_from is_bad (3 + c.len.result + 1 + 1) (flat_map block_lines bs)) c.as_slice.ensures)
