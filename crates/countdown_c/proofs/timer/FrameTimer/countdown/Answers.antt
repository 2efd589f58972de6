use Rattle.std.proofs.Common.{◌≡◌, ◌∙◌, ℕ, [], ◌∷◌, Option, Some}
use Rattle.countdown.specs.Given.{span_of}
use Rattle.countdown.proofs.Spans.{span_of_ends}
use Rattle.countdown_c.proofs.timer.FrameTimer.countdown.Goals as goal

pub returns-then-self-clause-given : goal.returns-then-self-clause-given
returns-then-self-clause-given c = λ times is.
    let kept = c.args.self.now in
    let spans : ◌≡◌ {A = Option (ℕ × ℕ)} (Some (kept.first, kept.latest)) (span_of times) = rw c.if-self.true at is in
    let one = c.on_frame.ensures.given [] c.new-countdown.ensures.given in
    let two = c.on_frame-then-self.ensures.given (kept.first ∷ []) one in
    two ∙ span_of_ends times kept.first kept.latest spans
