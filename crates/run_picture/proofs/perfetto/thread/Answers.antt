use Rattle.std.proofs.Common.{ap, codes, ◌∙◌}
use Rattle.serde_json.specs.Data.{object, put}
use Rattle.serde_json.proofs.Views.{view-Object}
use Rattle.run_picture.specs.Events.{count, naming, thread}
use Rattle.run_picture.proofs.perfetto.thread.Goals as goal

pub returns : goal.returns
unfolding thread
returns c =
    view-Object _ ∙ ap object (c.in_ok-put_number.ensures ∙ ap (put (codes "tid") (count c.args.lane)) (c.in_ok-members.ensures ∙ ap (naming (codes "thread_name")) c.in_ok-name.ensures.ok))
