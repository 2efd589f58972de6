-- The report is of a run of the script that was read.
use Rattle.std.proofs.Common.{List, ℕ, subst}
use Rattle.dash_script.specs.Accepting.{IsScriptText}
use Rattle.dashboard_cli.proofs.making.run_input_free.Goals as goal

pub returns-clause-made : goal.returns-clause-made
returns-clause-made g c = record {
  input = c.in_ok-input.input.items;
  read = c.in_ok-input.ensures.whole;
  made = record {
    read_as = c.in_ok-script.script;
    came = c.in_ok-report.report;
    read = subst (λ (b : List ℕ). IsScriptText b c.in_ok-script.script) c.as_slice.ensures.value c.in_ok-script.ensures.read;
    comes = c.in_ok-report.ensures;
    text_is = c.in_ok-text.ensures;
    given_is = c.report-returned.ensures;
  };
}
