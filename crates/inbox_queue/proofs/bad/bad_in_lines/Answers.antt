use Rattle.std.proofs.Common.{◌+◌, arith}
use Rattle.inbox_queue.proofs.Bads.{line_found, line_more}
use Rattle.inbox_queue.proofs.bad.bad_in_lines.Goals as goal

pub returns-then-not-is_post : goal.returns-then-not-is_post
returns-then-not-is_post c =
    line_found (c.args.before + 1) (c.loop-line.number + 1) c.loop-line.line-index c.args.lines.now _ c.loop-line-test.true c.loop-line.invariant.1 (c.if-not-is_post.ensures _) (let e = c.loop-line.invariant.0 in omega (arith, e))

pub loop-line-preserved : goal.loop-line-preserved
loop-line-preserved c = (
  (let e = c.loop-line.invariant.0 in omega (arith, e)),
  line_more (c.args.before + 1) c.loop-line.line-index c.args.lines.now _ c.loop-line-test.true c.loop-line.invariant.1 (c.if-not-is_post.ensures _),
  (let lt = c.loop-line-test.true in omega (arith, lt)),
)
