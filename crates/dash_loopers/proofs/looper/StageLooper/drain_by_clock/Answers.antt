use Rattle.std.proofs.Common.{◌≡◌, ◌||◌, true, sym, ap, ap₂, ◌∙◌}
use Rattle.run_model.specs.ByClock.{in_free_mode}
use Rattle.looper_run.specs.Round.{is_ended}
use Rattle.dash_loopers.specs.Loopers.{is_given_up}
use Rattle.dash_loopers.proofs.LooperNext.{looped_self, stopped_not}
use Rattle.dash_loopers.proofs.LooperRounds.{drained_none}
use Rattle.dash_loopers.proofs.looper.StageLooper.drain_by_clock.Goals as goal

pub returns-then-has_ended-clause-looped : goal.returns-then-has_ended-clause-looped
returns-then-has_ended-clause-looped g c = looped_self (in_free_mode (g.C.Clock.shows c.args.timer.now.clock.now) c.args.timer.now.start) c.args.script.now c.args.hall.now c.args.self.now c.requires.may.looper

pub returns-then-gave_up-clause-looped : goal.returns-then-gave_up-clause-looped
returns-then-gave_up-clause-looped g c = looped_self (in_free_mode (g.C.Clock.shows c.args.timer.now.clock.now) c.args.timer.now.start) c.args.script.now c.args.hall.now c.args.self.now c.requires.may.looper

pub drain-requires-clause-going : goal.drain-requires-clause-going
drain-requires-clause-going g c = (sym c.has_ended.ensures ∙ c.if-has_ended.false, sym c.gave_up.ensures ∙ c.if-gave_up.false)

pub returns-clause-stays : goal.returns-clause-stays
returns-clause-stays g c = λ stopped. absurd (stopped_not _ _ (sym c.has_ended.ensures ∙ c.if-has_ended.false) (sym c.gave_up.ensures ∙ c.if-gave_up.false) stopped)

pub returns-then-has_ended-clause-drains : goal.returns-then-has_ended-clause-drains
returns-then-has_ended-clause-drains g c =
    let l = c.args.self.now in
    let stopped : (is_ended l.last || is_given_up l.last) ≡ true = ap (λ b. b || is_given_up l.last) (sym c.has_ended.ensures ∙ c.if-has_ended.true) in
    drained_none c.args.script.now c.args.now l stopped

pub returns-then-gave_up-clause-drains : goal.returns-then-gave_up-clause-drains
returns-then-gave_up-clause-drains g c =
    let l = c.args.self.now in
    let stopped : (is_ended l.last || is_given_up l.last) ≡ true = ap₂ (λ a b. a || b) (sym c.has_ended.ensures ∙ c.if-has_ended.false) (sym c.gave_up.ensures ∙ c.if-gave_up.true) in
    drained_none c.args.script.now c.args.now l stopped
