use Rattle.std.proofs.Common.{◌≡◌, ℕ, Option, refl, Some, max}
use Rattle.countdown.specs.Given.{span_of}
use Rattle.countdown.proofs.Spans.{span_later}
use Rattle.animator_c.proofs.course.FrameAnimator.give.Goals as goal

pub returns-then-self-clause-given : goal.returns-then-self-clause-given
returns-then-self-clause-given c = λ times is.
    let kept = c.args.self.now in
    let spans : ◌≡◌ {A = Option (ℕ × ℕ)} (Some (kept.first, kept.latest)) (span_of times) = rw c.if-self.true at is in
    let later = span_later times c.args.time kept.first kept.latest (Some (kept.first, kept.latest)) refl spans in
    let e : c.max-self.result ≡ max kept.latest c.args.time = c.max-self.ensures in
    rw (c.if-self.true, e) later
