-- A text with a line that a run through an inbox doesn't know is the text of no script that is taken.
use Rattle.std.proofs.Common.{subst, sym, ap, ◌∙◌}
use Rattle.dash_script.specs.Accepting.{IsScriptText}
use Rattle.inbox_queue.specs.Bad.{bad_line}
use Rattle.inbox_queue.specs.InboxRun.{IsInboxRun}
use Rattle.dashboard_cli.proofs.Inboxes.{refused_by_line}
use Rattle.dashboard_cli.proofs.making.run_with_inbox.Goals as goal

pub returns-in-Bad-clause-refused : goal.returns-in-Bad-clause-refused
returns-in-Bad-clause-refused g c =
    refused_by_line c.args.input.now c.in_ok-script.script c.in-Bad.line c.in_ok-script.ensures.read c.in-Bad.ensures.runs

-- what is run is the script of the text, and none of its lines was refused
pub returns-in-Ok-clause-ran : goal.returns-in-Ok-clause-ran
returns-in-Ok-clause-ran g c =
    let is = c.in-Ok.ensures.runs in (
      (subst (IsScriptText c.args.input.now) (sym is.script) c.in_ok-script.ensures.read, ap bad_line is.script ∙ c.in-Ok.ensures.bad),
      subst (λ s. IsInboxRun s c.in-Ok.report) (sym is.script) is,
    )
