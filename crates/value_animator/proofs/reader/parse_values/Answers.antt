use Rattle.line_words.proofs.Answers.{found_in, found_only, found_never, refused_as, refused_never, refused_so}
use Rattle.value_animator.specs.declared.refusal.ParsedValues.TheVariants as parsed
use Rattle.value_animator.specs.Reading.{plans}
use Rattle.value_animator.proofs.Found.{written_so}
use Rattle.value_animator.proofs.Stopping.{apart, names_least}
use Rattle.value_animator.proofs.reader.parse_values.Goals as goal

pub returns-in-Ok-clause-found : goal.returns-in-Ok-clause-found
returns-in-Ok-clause-found c = found_in parsed.NoMemory plans apart c.args.bytes.now c.in-Ok.values (rw c.in-Ok.is at c.read_lines.ensures)

pub returns-in-Ok-clause-written : goal.returns-in-Ok-clause-written
returns-in-Ok-clause-written c = λ v e. written_so c.args.bytes.now v (found_in parsed.NoMemory plans apart c.args.bytes.now c.in-Ok.values (rw c.in-Ok.is at c.read_lines.ensures) v e)

pub returns-in-Ok-clause-only : goal.returns-in-Ok-clause-only
returns-in-Ok-clause-only c = found_only parsed.NoMemory plans apart c.args.bytes.now c.in-Ok.values (rw c.in-Ok.is at c.read_lines.ensures)

pub returns-in-Ok-clause-refused_so : goal.returns-in-Ok-clause-refused_so
returns-in-Ok-clause-refused_so c = refused_never parsed.NoMemory plans apart c.args.bytes.now c.in-Ok.values (rw c.in-Ok.is at c.read_lines.ensures)

pub returns-in-Err-Bad-clause-only : goal.returns-in-Err-Bad-clause-only
returns-in-Err-Bad-clause-only c = found_never parsed.NoMemory plans apart c.args.bytes.now c.in-Err-Bad.line c.in-Err-Bad.cause (rw (c.in-Err-Bad.is, c.in-Err-Bad.field-0-is) at c.read_lines.ensures)

pub returns-in-Err-Bad-clause-refused : goal.returns-in-Err-Bad-clause-refused
returns-in-Err-Bad-clause-refused c = refused_as parsed.NoMemory plans apart c.args.bytes.now c.in-Err-Bad.line c.in-Err-Bad.cause (rw (c.in-Err-Bad.is, c.in-Err-Bad.field-0-is) at c.read_lines.ensures)

pub returns-in-Err-Bad-clause-refused_so : goal.returns-in-Err-Bad-clause-refused_so
returns-in-Err-Bad-clause-refused_so c = refused_so parsed.NoMemory plans apart c.args.bytes.now c.in-Err-Bad.line c.in-Err-Bad.cause (rw (c.in-Err-Bad.is, c.in-Err-Bad.field-0-is) at c.read_lines.ensures)

pub returns-in-Err-Bad-clause-least : goal.returns-in-Err-Bad-clause-least
returns-in-Err-Bad-clause-least c = names_least c.args.bytes.now c.in-Err-Bad.line c.in-Err-Bad.cause (rw (c.in-Err-Bad.is, c.in-Err-Bad.field-0-is) at c.read_lines.ensures)
