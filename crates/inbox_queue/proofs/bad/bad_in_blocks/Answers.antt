use Rattle.std.proofs.Common.{◌+◌, ◌∙◌, List, ap, sym, length, map, arith}
use Rattle.std.specs.List.{position_from}
use Rattle.dash_script.specs.declared.script.Block.{Block}
use Rattle.dash_script.specs.declared.script.Line.{Line}
use Rattle.dash_script.specs.Text.{line_statement}
use Rattle.inbox_queue.specs.Bad.{is_bad}
use Rattle.inbox_queue.proofs.Bads.{block_more, block_count, block_fits, blocks_found, is_none_of}
use Rattle.inbox_queue.proofs.bad.bad_in_blocks.Goals as goal

pub overflow_add-before : goal.overflow_add-before
overflow_add-before c =
    let fits = block_fits c.loop-block.block-index c.args.blocks.now c.block-item.result c.loop-block-test.true in
    let was = c.loop-block.invariant.0 in
    let most = c.requires in
    omega (arith, fits, was, most)

pub bad_in_lines-found-requires : goal.bad_in_lines-found-requires
bad_in_lines-found-requires c =
    let fits = block_fits c.loop-block.block-index c.args.blocks.now c.block-item.result c.loop-block-test.true in
    let own = ap (λ (ls : List Line). length ls) (c.as_slice.ensures ∙ ap (λ (b : Block). b.lines) c.block-item.is) in
    let was = c.loop-block.invariant.0 in
    let most = c.requires in
    omega (arith, fits, own, was, most)

pub returns-then-is_some : goal.returns-then-is_some
returns-then-is_some c =
    blocks_found (c.args.before + 1) (c.loop-block.block-index + 1) c.args.blocks.now c.bad_in_lines-found.result
    (block_more c.args.before (c.loop-block.before + 1) c.loop-block.block-index c.args.blocks.now c.block-item.result c.bad_in_lines-found.result c.loop-block-test.true c.loop-block.invariant.1 (ap (λ n. n + 1) c.loop-block.invariant.0)
    (c.bad_in_lines-found.ensures ∙ ap (λ (ls : List Line). position_from is_bad (c.loop-block.before + 1 + 1) (map line_statement ls)) (c.as_slice.ensures ∙ ap (λ (b : Block). b.lines) c.block-item.is)))
    (sym c.if-is_some.ensures)

pub overflow_add-before-in-loop-block : goal.overflow_add-before-in-loop-block
overflow_add-before-in-loop-block c =
    let fits = block_fits c.loop-block.block-index c.args.blocks.now c.block-item.result c.loop-block-test.true in
    let own = c.len.ensures ∙ ap (λ (b : Block). length b.lines) c.block-item.is in
    let was = c.loop-block.invariant.0 in
    let most = c.requires in
    omega (arith, fits, own, was, most)

pub loop-block-preserved : goal.loop-block-preserved
loop-block-preserved c = (
  (let count = block_count c.loop-block.block-index c.args.blocks.now c.block-item.result c.loop-block-test.true in
      let own = c.len.ensures ∙ ap (λ (b : Block). length b.lines) c.block-item.is in
      let was = c.loop-block.invariant.0 in
      omega (arith, count, own, was)),
  sym (block_more c.args.before (c.loop-block.before + 1) c.loop-block.block-index c.args.blocks.now c.block-item.result c.bad_in_lines-found.result c.loop-block-test.true c.loop-block.invariant.1 (ap (λ n. n + 1) c.loop-block.invariant.0)
      (c.bad_in_lines-found.ensures ∙ ap (λ (ls : List Line). position_from is_bad (c.loop-block.before + 1 + 1) (map line_statement ls)) (c.as_slice.ensures ∙ ap (λ (b : Block). b.lines) c.block-item.is)))
      ∙ is_none_of c.bad_in_lines-found.result (sym c.if-is_some.ensures),
  (let lt = c.loop-block-test.true in omega (arith, lt)),
)
