use Rattle.line_words.proofs.Splitting.{parts_found, parts_none, not_among_more}
use Rattle.line_words.proofs.words.split_first.Goals as goal

pub loop-place-preserved : goal.loop-place-preserved
loop-place-preserved c = not_among_more c.args.byte c.args.bytes.now c.loop-place.place c.loop-place-test.true c.loop-place.invariant c.if-found-byte.false

pub returns-then-found-byte-clause-parts : goal.returns-then-found-byte-clause-parts
returns-then-found-byte-clause-parts c = parts_found c.args.byte c.args.bytes.now c.loop-place.place c.loop-place-test.true c.loop-place.invariant c.if-found-byte.true

pub returns-clause-parts : goal.returns-clause-parts
returns-clause-parts c = parts_none c.args.byte c.args.bytes.now c.loop-place.place c.loop-place-test.false c.loop-place.invariant
