use Rattle.std.proofs.Common.{ap, ◌∙◌}
use Rattle.serde_json.specs.View.{members_view}
use Rattle.serde_json.proofs.Views.{members_view-insert_entry}
use Rattle.run_flows.proofs.event.put_true.Goals as goal

pub returns : goal.returns
returns c =
    ap members_view c.in_ok-insert.ensures.entries ∙ members_view-insert_entry _ c.in_ok-from_str.field-0 c.from.result ∙ rw (c.in_ok-from_str.ensures.ok, c.from.ensures)
