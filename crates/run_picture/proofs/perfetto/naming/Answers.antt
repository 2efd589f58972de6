use Rattle.std.proofs.Common.{ap, codes, ◌∙◌, string_bytes}
use Rattle.serde_json.specs.Data.{no_members, object, put, string}
use Rattle.serde_json.specs.View.{members_view}
use Rattle.run_picture.specs.Events.{count, naming, phased}
use Rattle.run_picture.proofs.perfetto.naming.Goals as goal

pub returns : goal.returns
unfolding naming
returns c =
    c.in_ok-put_argument.ensures
    ∙ ap (λ ms. put (codes "args") (object ms) (members_view c.put_phase.new.members.entries))
    (c.in_ok-put_text-2.ensures ∙ ap (λ es. put (codes "name") (string (string_bytes c.args.name)) (members_view es)) c.new-args.ensures.empty)
    ∙ ap (λ ms. put (codes "args") (object (put (codes "name") (string (string_bytes c.args.name)) no_members)) ms)
    (c.in_ok-put_phase.ensures ∙ ap (phased (codes "M"))
    (c.in_ok-put_number.ensures ∙ ap (put (codes "pid") (count 1))
    (c.in_ok-put_text.ensures ∙ ap (λ b. put (codes "name") (string b) (members_view c.new-members.result.entries)) c.in_ok-from_str.ensures.ok
    ∙ ap (λ es. put (codes "name") (string c.args.what.now) (members_view es)) c.new-members.ensures.empty)))
