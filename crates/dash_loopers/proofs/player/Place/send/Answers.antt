use Rattle.std.proofs.Common.{sym, subst, ◌<◌, ◌∙◌}
use Rattle.run_model.specs.Control.{At}
use Rattle.choreographer.proofs.Phases.{on_ok}
use Rattle.dash_loopers.proofs.RuleSteps.{plays_sent}
use Rattle.dash_loopers.proofs.RuleText.{sends_within}
use Rattle.std.proofs.Common.{refl}
use Rattle.dash_loopers.proofs.LooperClock.{untimed_same}
use Rattle.dash_loopers.proofs.player.Place.send.Goals as goal
use Rattle.dash_loopers.proofs.LooperPlaces.{parts_self}

pub returns-then-looper-self-clause-plays : goal.returns-then-looper-self-clause-plays
returns-then-looper-self-clause-plays g c =
    on_ok c.send_own.result _ _ (c.send_own.ensures.plays c.args.parts.now (At c.args.now)) (λ plays. plays_sent c.args.self.now.script.now c.args.self.now.looper c.args.now c.args.rule.now c.args.self.now.looper c.saturating_add-when.result c.message_of-post.result _ _ _ _ (sym c.if-looper-self.true ∙ c.looper_of-looper.ensures) c.message_of-post.ensures c.saturating_add-when.ensures plays)

pub send_other-requires-clause-within : goal.send_other-requires-clause-within
send_other-requires-clause-within g c = λ text.
    subst (λ n. n < c.args.self.now.script.now.loopers) (sym c.looper_of-looper.ensures) (sends_within c.args.self.now.script.now c.requires.one.0 c.args.rule.now text c.requires.one.1)

pub returns-clause-plays : goal.returns-clause-plays
returns-clause-plays g c =
    on_ok c.send_other.result _ _ (c.send_other.ensures.plays (At c.args.now)) (λ plays. plays_sent c.args.self.now.script.now c.args.self.now.looper c.args.now c.args.rule.now c.looper_of-looper.result c.saturating_add-when.result c.message_of-post.result _ _ _ _ c.looper_of-looper.ensures c.message_of-post.ensures c.saturating_add-when.ensures plays)

pub returns-then-looper-self-clause-calls : goal.returns-then-looper-self-clause-calls
returns-then-looper-self-clause-calls g c =
    let parts = c.args.parts.now in
    record {
      leaves = record { parts = parts_self parts; own = c.send_own.ensures.leaves };
      untimed = record { own = c.send_own.ensures.untimed; others = untimed_same parts.others.items parts.others.items refl };
      acts = c.send_own.ensures.acts;
      frames = refl;
      root = refl;
      awaits = refl;
    }
