use Rattle.std.proofs.Common.{ap, codes, ◌∙◌}
use Rattle.std.proofs.lemmas.Result.{on_ok_weaker}
use Rattle.serde_json.specs.Data.{object, put}
use Rattle.serde_json.specs.View.{members_view}
use Rattle.run_picture.specs.Events.{count}
use Rattle.run_picture.proofs.perfetto.put_counted.Goals as goal

pub returns : goal.returns
returns c =
    on_ok_weaker c.put_argument.result
    (λ e. e ∙ ap (λ ms. put (codes "args") (object ms) (members_view c.args.members.now.entries))
    (c.in_ok-put_number.ensures ∙ ap (λ es. put c.args.name.now (count c.args.number) (members_view es)) c.new-args.ensures.empty))
    c.put_argument.ensures
