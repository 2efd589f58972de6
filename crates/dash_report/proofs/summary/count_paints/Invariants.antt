use Rattle.std.proofs.Common.{◌≡◌, take}
use Rattle.run_model.specs.Summary.{paints_in}
use Rattle.dash_report.proofs.summary.count_paints.Given as goal

abbrev pub invariant-loop-journal : goal.invariant-loop-journal
invariant-loop-journal l = l.total ≡ paints_in (take l.journal-index l.journals)
