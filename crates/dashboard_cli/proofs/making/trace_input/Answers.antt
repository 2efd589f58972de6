-- The histories are of a run of the script that was read.
use Rattle.std.proofs.Common.{List, ℕ, ap, ◌∙◌, subst}
use Rattle.loop_model.specs.declared.record.QueueRecord.{QueueRecord}
use Rattle.dash_script.specs.Accepting.{IsScriptText}
use Rattle.trace_check.specs.Text.{trace_text, trace_of}
use Rattle.dashboard_cli.proofs.making.trace_input.Goals as goal

pub returns-clause-made : goal.returns-clause-made
returns-clause-made g c = record {
  input = c.in_ok-input.input.items;
  read = c.in_ok-input.ensures.whole;
  made = record {
    read_as = c.in_ok-script.script;
    came = c.in_ok-ran.ran;
    read = subst (λ (b : List ℕ). IsScriptText b c.in_ok-script.script) c.as_slice.ensures.value c.in_ok-script.ensures.read;
    comes = c.in_ok-ran.ensures;
    text_is = c.in_ok-text.ensures ∙ ap (λ (qs : List QueueRecord). trace_text (trace_of qs)) c.as_slice-2.ensures;
    given_is = c.report-returned.ensures;
  };
}
