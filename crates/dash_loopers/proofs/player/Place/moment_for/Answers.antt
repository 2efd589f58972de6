use Rattle.std.proofs.Common.{◌≡◌, true, false, sym, ap, ◌∙◌}
use Rattle.handler_post.specs.declared.handler.Handler.{Handler}
use Rattle.run_model.specs.Planned.{frame_handler}
use Rattle.dash_loopers.proofs.LooperClock.{rules_not_frame, rules_some, rules_none}
use Rattle.dash_loopers.proofs.player.Place.moment_for.Goals as goal

pub returns-then-p-frame_handler-clause-rules : goal.returns-then-p-frame_handler-clause-rules
returns-then-p-frame_handler-clause-rules g c =
    let q = c.args.self.now.looper in
    let m = c.args.p.now in
    let mine : c.frame_handler.result.id ≡ frame_handler q = ap (λ (h : Handler). h.id) c.frame_handler.ensures in
    λ is. absurd (let wrong : false ≡ true = sym (rules_not_frame q m (c.if-p-frame_handler.true ∙ mine)) ∙ is in cc)

pub returns-then-is_some-clause-rules : goal.returns-then-is_some-clause-rules
returns-then-is_some-clause-rules g c = λ is. absurd (let wrong : false ≡ true = sym (rules_some c.args.self.now.looper c.args.p.now (sym c.is_some.ensures ∙ c.if-is_some.true)) ∙ is in cc)

pub returns-clause-read : goal.returns-clause-read
returns-clause-read g c =
    let q = c.args.self.now.looper in
    let m = c.args.p.now in
    let mine : c.frame_handler.result.id ≡ frame_handler q = ap (λ (h : Handler). h.id) c.frame_handler.ensures in
    λ isnt. absurd (let wrong : false ≡ true = sym isnt ∙ rules_none q m (λ e. c.if-p-frame_handler.false (e ∙ sym mine)) (sym c.is_some.ensures ∙ c.if-is_some.false) in cc)
