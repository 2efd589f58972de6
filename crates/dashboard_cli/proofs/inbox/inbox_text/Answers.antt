-- The parts in a row are the lines of the report.
use Rattle.std.proofs.Common.{◌∙◌, ap, refl}
use Rattle.loop_model.specs.Chain.{entries_of}
use Rattle.dashboard_cli.proofs.Inboxes.{inbox_written}
use Rattle.dashboard_cli.proofs.inbox.inbox_text.Goals as goal

pub returns : goal.returns
returns c =
    ap (λ v. v.items) c.into_bytes.ensures.value
    ∙ inbox_written c.args.report.now _ _ _ _ _ _ _ _ _ _ (ap entries_of c.as_slice-segments.ensures) c.as_slice.ensures refl
    c.new-out.ensures.bytes c.in_ok-writeln.ensures.bytes c.in_ok-writeln-2.ensures.bytes c.in_ok-write_history.ensures c.in_ok-write_fates.ensures
    c.in_ok-write_admitted.ensures c.in_ok-writeln-3.ensures.bytes
