use Rattle.dash_loopers.proofs.LooperPlaces.{queue_home}
use Rattle.choreographer.proofs.Phases.{on_ok}
use Rattle.dash_loopers.proofs.RuleSteps.{called_here}
use Rattle.loop_model.specs.declared.call.Call.TheVariants.{Post}
use Rattle.run_model.specs.Planned.{bare_call}
use Rattle.dash_loopers.proofs.LooperClock.{made_untimed}
use Rattle.dash_loopers.proofs.player.Place.send_own.Goals as goal
use Rattle.std.proofs.Common.{refl}
use Rattle.dash_loopers.proofs.LooperLent.{lent_on}

pub send-requires : goal.send-requires
send-requires g c = record {
  poster = c.requires.at.place.queue c.queue.result.now c.queue.ensures;
  pass = c.requires.at.place.pool;
  home = queue_home c.args.self.now.script.now c.args.self.now.hall.now c.args.self.now.looper c.requires.at.looper c.args.self.now.looper c.queue.result.now c.queue.ensures;
}

pub returns-clause-plays : goal.returns-clause-plays
returns-clause-plays g c = λ parts timing.
    on_ok c.send.result _ _ c.send.ensures.called.by.made (λ m. called_here c.args.self.now.script.now c.args.self.now.looper c.args.post.now timing c.args.own.now.poster.now c.send.new.way.poster.now parts m)

pub returns-clause-untimed : goal.returns-clause-untimed
returns-clause-untimed g c =
    made_untimed c.args.own.now.poster.now c.send.new.way.poster.now c.args.own.now.pass.now c.send.new.way.pass.now (bare_call (Post c.args.post.now)) c.send.result c.send.ensures.called.by.on refl c.send.ensures.called.by.made c.send.ensures.called.by.none

pub returns-clause-leaves : goal.returns-clause-leaves
returns-clause-leaves g c =
    let on = c.send.ensures.called.by.on in
    record { own = record { poster = refl; pass = refl; journal = refl }; lent = lent_on c.args.own.now.poster.now c.send.new.way.poster.now c.args.own.now.pass.now c.send.new.way.pass.now c.args.own.now.journal.now on; rung = on.rung }
