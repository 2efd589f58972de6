use Rattle.std.proofs.Common.{ap, codes, ◌∙◌}
use Rattle.std.proofs.lemmas.Result.{on_ok_weaker}
use Rattle.serde_json.specs.Data.{put, string}
use Rattle.serde_json.specs.View.{members_view}
use Rattle.run_picture.proofs.perfetto.put_phase.Goals as goal

pub returns : goal.returns
returns c =
    on_ok_weaker c.put_text.result (λ e. e ∙ ap (λ b. put (codes "ph") (string b) (members_view c.args.members.now.entries)) c.in_ok-from_str.ensures.ok) c.put_text.ensures
