use Rattle.std.proofs.Common.{rules, arith, ◌≡◌, ◌<◌, ap, sym, ◌∙◌, subst}
use mathlib.Core.Option.{some-injective}
use Rattle.choreographer.specs.declared.view.Constants.{Constants}
use Rattle.choreographer.specs.Turn.{HasConstants}
use Rattle.choreographer.specs.Known.{SharedFrames}
use Rattle.choreographer.proofs.Closing.{closes, closes_with, only_last_hands}
use Rattle.choreographer.proofs.table.Choreographer.close.Goals as goal

pub unreachable-requires : goal.unreachable-requires
unreachable-requires c =
    let key = c.self.inside.table.shared.key in
    let q : SharedFrames = c.args.self in
    let is : q.constants ≡ key = ap (λ (z : SharedFrames). z.constants) (sym c.self.view_is) in
    let above : 0 < key.passes = search rules in
    let t = closes key above q c.args.passes.items c.gather-seat.result.me (c.requires.0 ∙ ap (λ (z : Constants). z.passes) is) c.requires.1 c.gather-seat.ensures.1 c.gather-seat.result.id _ _ c.close_with-closed.ensures.values.2 in
    c.in_default.not-Some t.0 (some-injective _ _ (sym c.take.ensures.value ∙ t.1))

pub returns : goal.returns
returns c =
    let key = c.self.inside.table.shared.key in
    let q : SharedFrames = c.args.self in
    let is : q.constants ≡ key = ap (λ (z : SharedFrames). z.constants) (sym c.self.view_is) in
    let above : 0 < key.passes = search rules in
    let t = closes_with key above q c.args.passes.items c.gather-seat.result.me (c.requires.0 ∙ ap (λ (z : Constants). z.passes) is) c.requires.1 c.gather-seat.ensures.1 c.gather-seat.result.id _ _ c.in-Some.state c.close_with-closed.ensures.values.2 c.in-Some.ensures.value in
    let all = c.requires.0 ∙ ap (λ (z : Constants). z.passes) is in
    record { some_pass = omega (arith, above, all); constants = subst (λ (k : Constants). HasConstants k c.in-Some.state) (sym is) t.0; begins = t.1; last = t.2; stamps = t.4.frames; theirs = t.3; heard = t.6; handed = t.5; only_last = λ k d e. t.5 ∙ only_last_hands q c.args.passes.items c.gather-seat.result.me c.requires.0 c.requires.1 c.gather-seat.ensures.1 k d e }
