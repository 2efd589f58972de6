use Rattle.std.proofs.Common.{ap, codes, ◌*◌, ◌∙◌, string_bytes}
use Rattle.serde_json.specs.Data.{put, string}
use Rattle.serde_json.specs.View.{members_view}
use Rattle.run_picture.specs.Events.{count, slice}
use Rattle.run_picture.specs.Rows.{saturated}
use Rattle.run_flows.specs.Events.{placed_slice}
use Rattle.run_flows.proofs.event.placed.Goals as goal

pub returns : goal.returns
unfolding placed_slice
returns c =
    c.in_ok-put_slice.ensures ∙ ap (slice 1000)
    (c.in_ok-put_number-3.ensures ∙ ap (λ n. put (codes "ts") (count n) (members_view c.put_number-2.new.members.entries)) c.micros.ensures
    ∙ ap (put (codes "ts") (count (saturated (c.args.time * 1000))))
    (c.in_ok-put_number-2.ensures ∙ ap (λ n. put (codes "tid") (count n) (members_view c.put_number.new.members.entries)) c.from.ensures
    ∙ ap (put (codes "tid") (count c.args.thread))
    (c.in_ok-put_number.ensures ∙ ap (put (codes "pid") (count 1))
    (c.in_ok-put_text.ensures ∙ ap (λ es. put (codes "name") (string (string_bytes c.args.name)) (members_view es)) c.new-members.ensures.empty))))
