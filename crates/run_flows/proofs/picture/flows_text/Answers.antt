use Rattle.std.proofs.Common.{ap, codes, ◌++◌, ◌∙◌, string_bytes}
use Rattle.run_flows.proofs.Written.{written}
use Rattle.run_flows.proofs.picture.flows_text.Goals as goal

pub returns : goal.returns
returns c =
    c.in_ok-extend_from_slice-2.ensures.items
    ∙ ap (λ l. l ++ codes "\n")
    (c.in_ok-extend_from_slice.ensures.items ∙ ap (λ l. l ++ c.as_bytes.result.now) c.new-out.ensures.items ∙ c.as_bytes.ensures.value
    ∙ written c.args.trace.now c.in_ok-events.events (string_bytes c.in_ok-text.text) c.in_ok-events.ensures c.in_ok-text.ensures.text)
