use Rattle.std.proofs.Common.{◌≡◌, ◌++◌, ◌∷◌, [], ℕ, Some, None, max}
use Rattle.countdown.specs.Given.{span_of}
use Rattle.countdown.proofs.Spans.{span_first, span_later}
use Rattle.countdown.proofs.span.Span.give.Goals as goal
use Rattle.countdown.proofs.span.Span.give.Goals.{in-None, in-Some}

pub returns-clause-given : goal.returns-clause-given
returns-clause-given c = λ times is. elim c.match-self.branch [
  | in-None w ↦ let none : c.args.self.now ≡ None = cc in
      let e : ◌≡◌ {A = ℕ × ℕ} c.match-self.first (c.args.time, c.args.time) = w.first-is in
      let h : Some (c.args.time, c.args.time) ≡ span_of (times ++ c.args.time ∷ []) = span_first times c.args.time c.args.self.now none is in
      cc
  | in-Some w ↦ let some : c.args.self.now ≡ Some (w.in-Some.first, w.in-Some.latest) = cc in
      let h : Some (w.in-Some.first, max w.in-Some.latest c.args.time) ≡ span_of (times ++ c.args.time ∷ []) =
      span_later times c.args.time w.in-Some.first w.in-Some.latest c.args.self.now some is in
      let e : ◌≡◌ {A = ℕ × ℕ} c.match-self.first (w.in-Some.first, w.max.result) = w.first-is in
      let m : w.max.result ≡ max w.in-Some.latest c.args.time = w.max.ensures in
      cc
]
