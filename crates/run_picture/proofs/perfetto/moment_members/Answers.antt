use Rattle.std.proofs.Common.{ap, codes, ◌∙◌}
use Rattle.serde_json.specs.Data.{put, string}
use Rattle.serde_json.specs.View.{members_view}
use Rattle.run_picture.specs.Events.{count, kind_name, micros, moment_members}
use Rattle.run_picture.proofs.perfetto.moment_members.Goals as goal

pub returns : goal.returns
unfolding moment_members
returns c =
    c.in_ok-put_number-3.ensures ∙ ap (λ n. put (codes "ts") (count n) (members_view c.put_number-2.new.members.entries)) c.micros.ensures
    ∙ ap (put (codes "ts") (count (micros c.args.mark.now.time)))
    (c.in_ok-put_number-2.ensures ∙ ap (put (codes "tid") (count c.args.mark.now.lane))
    (c.in_ok-put_number.ensures ∙ ap (put (codes "pid") (count 1))
    (c.in_ok-put_text.ensures ∙ ap (λ b. put (codes "name") (string b) (members_view c.new-members.result.entries)) c.in_ok-name_of.ensures
    ∙ ap (λ es. put (codes "name") (string (kind_name c.args.mark.now.lane c.args.mark.now.kind)) (members_view es)) c.new-members.ensures.empty)))
