use Rattle.std.proofs.Common.{◌++◌, ap, length, ◌∙◌}
use Rattle.std.specs.Prelude.{string_bytes}
use Rattle.dash_report.proofs.Written.{fates_written}
use Rattle.dash_report.proofs.fates.write_fates.Goals as goal

pub returns : goal.returns
returns c =
    let f = c.in_ok-fates in
    c.in_ok-writeln.ensures.bytes
    ∙ ap (λ l. string_bytes c.args.out.now ++ l) (fates_written _ c.len.result f.fates.dispatched f.fates.removed f.fates.dropped f.fates.stranded f.fates.queued (c.len.ensures ∙ ap length f.ensures.list) f.ensures.dispatched f.ensures.removed f.ensures.dropped f.ensures.stranded f.ensures.queued)
