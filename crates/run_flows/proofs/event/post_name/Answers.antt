use Rattle.std.proofs.Common.{ap, codes, decimal, sym, ◌++◌, ◌∙◌, append_assoc}
use Rattle.run_flows.specs.Events.{flow_name}
use Rattle.run_flows.proofs.event.post_name.Goals as goal

pub returns : goal.returns
returns c =
    c.in_ok-name.ensures.ok ∙ ap (λ m. codes "post to looper " ++ (decimal c.args.flow.now.looper ++ (codes " " ++ m))) c.in_ok-message.ensures
    ∙ ap (λ l. codes "post to looper " ++ l) (sym (append_assoc (decimal c.args.flow.now.looper) (codes " ") (flow_name c.args.flow.now)))
