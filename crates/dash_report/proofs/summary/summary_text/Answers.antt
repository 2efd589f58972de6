use Rattle.std.proofs.Common.{◌∙◌, ap}
use Rattle.run_model.specs.Summary.{accepted_in, dispatched_in, frames_in, paints_in}
use Rattle.dash_report.proofs.Written.{summary_written}
use Rattle.dash_report.proofs.summary.summary_text.Goals as goal

pub returns : goal.returns
returns c =
    let posts = c.in_ok-posts in
    ap (λ v. v.items) c.into_bytes.ensures.value
    ∙ summary_written c.args.report.now c.args.number posts.posts.accepted posts.posts.dispatched c.in_ok-frames.frames c.in_ok-paints.paints _ _ _ _ _ _
    (posts.ensures.accepted ∙ ap accepted_in c.as_slice.ensures) (posts.ensures.dispatched ∙ ap dispatched_in c.as_slice.ensures)
    (c.in_ok-frames.ensures ∙ ap frames_in c.as_slice-2.ensures) (c.in_ok-paints.ensures ∙ ap paints_in c.as_slice-3.ensures)
    c.new-out.ensures.bytes c.in_ok-writeln.ensures.bytes c.in_ok-writeln-2.ensures.bytes c.in_ok-writeln-3.ensures.bytes c.in_ok-writeln-4.ensures.bytes c.in_ok-writeln-5.ensures.bytes
