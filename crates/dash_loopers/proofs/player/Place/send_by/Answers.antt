use Rattle.std.proofs.Common.{rules, subst, refl}
use Rattle.looper_run.specs.Holding.{Sender}
use Rattle.dash_loopers.specs.Clocked.{AddsUntimed}
use Rattle.dash_loopers.proofs.LooperLent.{lent_pass}
use Rattle.loop_model.specs.declared.call.Call.TheVariants.{Post}
use Rattle.run_model.specs.Planned.{bare_call}
use Rattle.dash_loopers.proofs.LooperClock.{made_untimed}
use Rattle.dash_loopers.proofs.player.Place.send_by.Goals as goal

pub returns-clause-leaves : goal.returns-clause-leaves
returns-clause-leaves g c = record {
  own = record { poster = refl; pass = refl; journal = refl };
  rung = refl;
  lent = lent_pass c.args.own.now.poster.now c.args.own.now.pass.now c.send.new.way.pass.now c.args.own.now.journal.now c.send.ensures.called.by.on.home c.send.ensures.called.by.on.back;
}

pub returns-clause-untimed : goal.returns-clause-untimed
returns-clause-untimed g c =
    subst (λ (p : Sender). AddsUntimed c.args.poster.now p) (search rules)
    (made_untimed c.args.poster.now c.send.new.way.poster.now c.args.own.now.pass.now c.send.new.way.pass.now (bare_call (Post c.args.post.now)) c.send.result c.send.ensures.called.by.on refl c.send.ensures.called.by.made c.send.ensures.called.by.none)
