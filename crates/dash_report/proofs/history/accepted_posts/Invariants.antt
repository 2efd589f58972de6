use Rattle.std.proofs.Common.{◌≡◌, take}
use Rattle.loop_model.specs.Chain.{entries_of}
use Rattle.loop_model.specs.Posts.{accepted_posts}
use Rattle.dash_report.proofs.history.accepted_posts.Given as goal

abbrev pub invariant-loop-segment : goal.invariant-loop-segment
invariant-loop-segment l = l.posts.items ≡ accepted_posts (entries_of (take l.segment-index l.segments))
