use Rattle.std.proofs.Common.{arith}
use Rattle.line_words.proofs.RefusedLines.{held_line, passed_on, refused_line}
use Rattle.line_words.proofs.reader.read_lines.Goals as goal

pub returns-in_err-take : goal.returns-in_err-take
returns-in_err-take g c =
    let parts = rw c.in-Some.is at c.split_first.ensures.parts in
    passed_on _ c.in_err-take.field-0.0 _ c.from_residual-in_err-take.ensures.1
    (refused_line g.D.ByLines.language c.lines.line (g.D.ByLines.so_far c.lines.draft) c.in_err-take.field-0.0 c.lines.rest.now c.split_first.result.0.now c.in-Some.after.now _ parts
    c.in_err-take.ensures.refused c.lines.invariant.read)

pub lines-preserved : goal.lines-preserved
lines-preserved g c =
    let parts = rw c.in-Some.is at c.split_first.ensures.parts in
    let shorter = rw c.in-Some.is at c.split_first.ensures.shorter in record {
      sound = c.in_ok-take.ensures.sound;
      counted = omega (arith, shorter, c.lines.invariant.counted);
      read = held_line g.D.ByLines.language c.lines.line (g.D.ByLines.so_far c.lines.draft) (g.D.ByLines.so_far c.take.new.self) c.lines.rest.now c.split_first.result.0.now c.in-Some.after.now _ parts
          c.in_ok-take.ensures.held c.lines.invariant.read;
    }
