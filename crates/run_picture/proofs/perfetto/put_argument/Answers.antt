use Rattle.std.proofs.Common.{ap, ◌∙◌}
use Rattle.serde_json.specs.View.{members_view}
use Rattle.serde_json.proofs.Views.{members_view-insert_entry, view-Object}
use Rattle.run_picture.proofs.perfetto.put_argument.Goals as goal

pub returns : goal.returns
returns c =
    ap members_view c.in_ok-insert.ensures.entries ∙ members_view-insert_entry _ c.in_ok-from_str.field-0 _ ∙ rw (c.in_ok-from_str.ensures.ok, view-Object c.args.args)
