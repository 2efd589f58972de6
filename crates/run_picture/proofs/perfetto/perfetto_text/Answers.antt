use Rattle.std.proofs.Common.{ap, codes, ◌/◌, ◌++◌, ◌∙◌, string_bytes}
use Rattle.run_picture.specs.Events.{trace}
use Rattle.run_picture.specs.Period.{period}
use Rattle.run_picture.proofs.Traced.{traced}
use Rattle.run_picture.proofs.perfetto.perfetto_text.Goals as goal

pub returns : goal.returns
returns c =
    c.in_ok-extend_from_slice-2.ensures.items
    ∙ ap (λ l. l ++ codes "\n")
    (c.in_ok-extend_from_slice.ensures.items ∙ ap (λ l. l ++ c.as_bytes.result.now) c.new-out.ensures.items ∙ c.as_bytes.ensures.value
    ∙ traced (period c.args.report.now / 1000) c.args.report.now c.in_ok-events.events (string_bytes c.in_ok-text.text)
    (c.in_ok-events.ensures ∙ ap (λ p. trace (p / 1000) c.args.report.now) c.period_of.ensures) c.in_ok-text.ensures.text)
