use Rattle.std.proofs.Common.{ap, codes, true, ◌∙◌}
use Rattle.serde_json.specs.Data.{boolean, object, put}
use Rattle.serde_json.proofs.Views.{view-Object}
use Rattle.run_picture.specs.Events.{count}
use Rattle.run_flows.specs.Events.{arrow_end}
use Rattle.run_flows.proofs.event.end_of.Goals as goal

pub returns : goal.returns
unfolding arrow_end
returns c =
    view-Object _
    ∙ ap object (c.in_ok-put_true.ensures ∙ ap (put c.args.way.now (boolean true))
    (c.in_ok-put_number.ensures ∙ ap (put (codes "bind_id") (count c.args.arrow)) c.in_ok-put_counted.ensures))
