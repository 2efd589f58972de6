use Rattle.run_flows.proofs.picture.flows_of.Goals as goal

pub returns-in-Ok-flows_text : goal.returns-in-Ok-flows_text
returns-in-Ok-flows_text c = (c.in-Ok.trace, c.parse_trace.ensures.found c.in-Ok.trace c.in-Ok.is, c.in-Ok-flows_text.ensures)
