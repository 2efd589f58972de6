use Rattle.std.proofs.Common.{◌≡◌, take, map}
use Rattle.dash_script.specs.FromEdition.{line_from}
use Rattle.dash_script.proofs.edition.lines_from.Given as goal

abbrev pub invariant-loop-line : goal.invariant-loop-line
invariant-loop-line l = l.out.items ≡ map (line_from l.edition) (take l.line-index l.lines)
