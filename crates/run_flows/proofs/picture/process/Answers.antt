use Rattle.std.proofs.Common.{ap, codes, ◌∙◌}
use Rattle.serde_json.specs.Data.{object}
use Rattle.serde_json.proofs.Views.{view-Object}
use Rattle.run_picture.specs.Events.{naming}
use Rattle.run_flows.specs.Events.{process}
use Rattle.run_flows.proofs.picture.process.Goals as goal

pub returns : goal.returns
unfolding process
returns c =
    view-Object c.in_ok-members.members ∙ ap object (c.in_ok-members.ensures ∙ ap (λ s. naming (codes "process_name") s) c.in_ok-from_str.ensures.ok)
