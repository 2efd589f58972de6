use Rattle.std.proofs.Common.{sym, ap, ◌∙◌}
use Rattle.std.specs.List.{list_all}
use Rattle.report_law.specs.Laws.{is_countable}
use Rattle.report_law.proofs.Runs.{run_read}
use Rattle.report_law.proofs.a_run_is_read.Goals as goal

pub returns-clause-read : goal.returns-clause-read
returns-clause-read c = λ yes. run_read c.args.report.now c.walk_report.ensures (sym (c.are_countable.ensures ∙ ap (list_all is_countable) c.as_slice.ensures) ∙ yes)
