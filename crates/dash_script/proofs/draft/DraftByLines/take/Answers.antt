use Rattle.std.proofs.Common.{sym}
use Rattle.dash_script.proofs.Lines.{statement_counted}
use Rattle.dash_script.proofs.draft.DraftByLines.take.Goals as goal

pub add-requires-clause-whole : goal.add-requires-clause-whole
add-requires-clause-whole c = statement_counted c.args.bytes.now c.in-Some.statement (sym c.in-Some.ensures)
