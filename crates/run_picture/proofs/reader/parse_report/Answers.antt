use Rattle.run_picture.proofs.Whole.{found_in, found_only, found_never, refused_as}
use Rattle.run_picture.proofs.reader.parse_report.Goals as goal

pub returns-in-Ok-clause-found : goal.returns-in-Ok-clause-found
returns-in-Ok-clause-found c = found_in c.args.bytes.now c.in-Ok.report (rw c.in-Ok.is at c.read_lines.ensures)

pub returns-in-Ok-clause-only : goal.returns-in-Ok-clause-only
returns-in-Ok-clause-only c = found_only c.args.bytes.now c.in-Ok.report (rw c.in-Ok.is at c.read_lines.ensures)

pub returns-in-Err-Bad-clause-only : goal.returns-in-Err-Bad-clause-only
returns-in-Err-Bad-clause-only c = found_never c.args.bytes.now c.in-Err-Bad.line (rw (c.in-Err-Bad.is, c.in-Err-Bad.field-0-is) at c.read_lines.ensures)

pub returns-in-Err-Bad-clause-refused : goal.returns-in-Err-Bad-clause-refused
returns-in-Err-Bad-clause-refused c = refused_as c.args.bytes.now c.in-Err-Bad.line (rw (c.in-Err-Bad.is, c.in-Err-Bad.field-0-is) at c.read_lines.ensures)
