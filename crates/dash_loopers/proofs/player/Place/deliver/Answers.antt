use Rattle.std.proofs.Common.{◌≡◌, ◌≢◌, ℕ, ap, ◌∙◌, refl, sym, subst}
use Rattle.choreographer.proofs.Phases.{on_ok}
use Rattle.handler_post.specs.declared.handler.Handler.{Handler}
use Rattle.run_model.specs.Planned.{frame_handler}
use Rattle.run_model.specs.Loopers.{object_set, reacted}
use Rattle.dash_loopers.specs.Played.{calls_of, IsPlayed}
use Rattle.dash_loopers.proofs.PlaySteps.{delivered_object, delivered_plain, object_painted, step_delivered, still_delivered, waits_still, starts_none}
use Rattle.dash_loopers.proofs.LooperClock.{rules_not_frame, rules_not_object, rules_plain, delivers_nothing_at, delivers_timed, delivers_untimed}
use Rattle.dash_loopers.proofs.player.Place.deliver.Goals as goal
use Rattle.dash_loopers.proofs.LooperLeaves.{all_left}

pub returns-then-is_stopped-clause-leaves : goal.returns-then-is_stopped-clause-leaves
returns-then-is_stopped-clause-leaves g c = all_left c.args.parts.now c.args.own.now

pub returns-in-Some-clause-delivers : goal.returns-in-Some-clause-delivers
returns-in-Some-clause-delivers g c =
    let s = c.args.self.now.script.now in
    let q = c.args.self.now.looper in
    let m = c.args.p.now in
    let old = c.args.own.now in
    let own = c.set_target.new.own in
    let posts = c.set_target.ensures.posts in
    let object = c.in-Some.object in
    let mine : c.frame_handler.result.id ≡ frame_handler q = ap (λ (h : Handler). h.id) c.frame_handler.ensures in
    let other : m.handler ≢ frame_handler q = λ e. c.if-p-frame_handler.false (e ∙ sym mine) in
    on_ok c.set_target.result _ _ c.set_target.ensures.plays (λ plays.
    step_delivered s q c.args.now (g.U.Uptime.is_moment c.args.uptime.now) m (calls_of old.poster.now) (calls_of own.poster.now) c.args.parts.now c.set_target.new.parts old.journal.now.acts own.journal.now.acts (λ at. object_set s q at object m.arg)
    posts.0.seen (waits_still q m c.args.parts.now c.set_target.new.parts (starts_none q m c.args.parts.now.awaits other) posts.0.latest posts.1) posts.0.latest posts.0.quiet
    (λ at a. delivered_object s q at m object a c.requires.callback other c.in-Some.is) (λ at a. object_painted s q at object m.arg a) (λ text lockstep at may. plays text lockstep at may.time) c.set_target.ensures.acts)

pub returns-in-None-clause-delivers : goal.returns-in-None-clause-delivers
returns-in-None-clause-delivers g c =
    let s = c.args.self.now.script.now in
    let q = c.args.self.now.looper in
    let now = c.args.now in
    let m = c.args.p.now in
    let old = c.args.own.now in
    let own = c.react.new.own in
    let mine : c.frame_handler.result.id ≡ frame_handler q = ap (λ (h : Handler). h.id) c.frame_handler.ensures in
    let other : m.handler ≢ frame_handler q = λ e. c.if-p-frame_handler.false (e ∙ sym mine) in
    on_ok c.react.result _ _ c.react.ensures.plays (λ plays.
    still_delivered s q now (g.U.Uptime.is_moment c.args.uptime.now) m (calls_of old.poster.now) (calls_of own.poster.now) c.args.parts.now c.react.new.parts old.journal.now.acts own.journal.now.acts (λ at. reacted s at m)
    c.react.ensures.calls.frames c.react.ensures.calls.awaits (starts_none q m c.args.parts.now.awaits other)
    (λ at a. delivered_plain s q at m a c.requires.callback other c.in-None.is) (λ at a. refl)
    (λ text lockstep at may a is. subst (λ (n : ℕ). IsPlayed lockstep s q (calls_of own.poster.now) c.react.new.parts (reacted s n m a)) (sym (may.rules (rules_plain q m other c.in-None.is))) (plays lockstep text a is))
    c.react.ensures.calls.acts)

pub returns-then-is_stopped-clause-clocked : goal.returns-then-is_stopped-clause-clocked
returns-then-is_stopped-clause-clocked g c = delivers_nothing_at c.args.self.now.looper c.args.now c.args.p.now c.args.own.now.poster.now c.args.parts.now

pub returns-then-p-frame_handler-clause-clocked : goal.returns-then-p-frame_handler-clause-clocked
returns-then-p-frame_handler-clause-clocked g c =
    let q = c.args.self.now.looper in
    let m = c.args.p.now in
    let mine : c.frame_handler.result.id ≡ frame_handler q = ap (λ (h : Handler). h.id) c.frame_handler.ensures in
    delivers_timed q c.args.now m c.args.own.now.poster.now c.on_frame.new.own.poster.now c.args.parts.now c.on_frame.new.parts (rules_not_frame q m (c.if-p-frame_handler.true ∙ mine)) c.on_frame.ensures.leaves.clocked c.on_frame.ensures.leaves.others

pub returns-in-Some-clause-clocked : goal.returns-in-Some-clause-clocked
returns-in-Some-clause-clocked g c =
    let q = c.args.self.now.looper in
    let m = c.args.p.now in
    delivers_timed q c.args.now m c.args.own.now.poster.now c.set_target.new.own.poster.now c.args.parts.now c.set_target.new.parts (rules_not_object q m c.in-Some.object c.in-Some.is) c.set_target.ensures.leaves.clocked c.set_target.ensures.leaves.others

pub returns-in-None-clause-clocked : goal.returns-in-None-clause-clocked
returns-in-None-clause-clocked g c =
    let q = c.args.self.now.looper in
    let m = c.args.p.now in
    let mine : c.frame_handler.result.id ≡ frame_handler q = ap (λ (h : Handler). h.id) c.frame_handler.ensures in
    delivers_untimed q c.args.now m c.args.own.now.poster.now c.react.new.own.poster.now c.args.parts.now c.react.new.parts (rules_plain q m (λ e. c.if-p-frame_handler.false (e ∙ sym mine)) c.in-None.is) c.react.ensures.calls.untimed
