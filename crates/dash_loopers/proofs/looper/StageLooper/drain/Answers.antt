use Rattle.std.proofs.Common.{ap, ◌∙◌}
use Rattle.looper_run.proofs.Rounds.{round_any}
use Rattle.looper_run.specs.Holding.{workplace}
use Rattle.run_model.specs.ByClock.{in_free_mode}
use Rattle.dash_loopers.specs.declared.looper.StageLooper.{StageLooper}
use Rattle.dash_loopers.proofs.LooperQueue.{within_queues, at_queue_here}
use Rattle.dash_loopers.proofs.LooperLooped.{looped_by_round, looped_here}
use Rattle.dash_loopers.proofs.LooperPlayed.{unless}
use Rattle.dash_loopers.proofs.LooperRounds.{drains_here}
use Rattle.dash_loopers.proofs.looper.StageLooper.drain.Goals as goal

pub of_looper-queue-requires : goal.of_looper-queue-requires
of_looper-queue-requires g c = within_queues c.args.script.now c.args.hall.now c.args.self.now c.requires.may.is_hall c.requires.may.looper

pub run_round-last-requires-clause-looper : goal.run_round-last-requires-clause-looper
run_round-last-requires-clause-looper g c κs lives = record {
  going = ap (λ (x : StageLooper). x.looper.ended) c.player-player.ensures.same ∙ (c.requires.may.looper.ended ∙ c.requires.going.0);
  at = at_queue_here c.args.script.now c.args.hall.now c.args.self.now c.requires.may.is_hall c.requires.may.looper c.of_looper-queue.result.now c.of_looper-queue.ensures c.player-player.new.self c.player-player.ensures.same;
}

pub take_back-requires-clause-hall : goal.take_back-requires-clause-hall
take_back-requires-clause-hall g c = (c.run_round-last.ensures.keeps.serves (workplace c.player-player.new.self.looper.held) c.player-player.ensures.begins.serves).serves.looper.is_hall

pub take_back-requires-clause-looped : goal.take_back-requires-clause-looped
take_back-requires-clause-looped g c =
    let ran = c.run_round-last.ensures in
    let begun = c.player-player.ensures in
    looped_by_round (g.C.Clock.shows c.args.pace.now.timer.now.clock.now) c.args.pace.now.timer.now.start c.args.script.now c.args.hall.now c.args.self.now c.requires.may.is_hall c.requires.may.looper c.requires.may.mode c.requires.going
    c.of_looper-queue.result.now c.of_looper-queue.ensures c.run_round-last.new.d.parts c.run_round-last.new.self c.run_round-last.result c.player-player.new.self _ _ begun.same (ran.keeps.origin ∙ begun.begins.owner) (ran.keeps.serves _ begun.begins.serves) c.args.now c.requires.moment
    (record { same = ran.keeps.same; ended = ran.ended; round = ran.round; looks = round_any _ c.args.now c.player-player.new.self.looper c.run_round-last.new.self c.run_round-last.result ran.looks }) (λ on. (unless c.run_round-last.result _ on ran.rests).meets)

pub returns-clause-looped : goal.returns-clause-looped
returns-clause-looped g c =
    let m = in_free_mode (g.C.Clock.shows c.args.pace.now.timer.now.clock.now) c.args.pace.now.timer.now.start in
    looped_here m c.args.script.now c.args.hall.now c.args.self.now c.take_back.new.self _ (c.run_round-last.ensures.keeps.origin ∙ c.player-player.ensures.begins.owner) c.take_back.ensures.looped

pub returns-clause-drains : goal.returns-clause-drains
returns-clause-drains g c =
    let ran = c.run_round-last.ensures in
    drains_here c.args.script.now c.args.hall.now c.args.now c.args.self.now c.player-player.new.self c.take_back.new.self c.of_looper-queue.result.now c.run_round-last.new.self c.run_round-last.result
    c.requires.may.mode c.requires.may.is_hall c.requires.may.looper c.requires.going c.of_looper-queue.ensures c.player-player.ensures.same c.take_back.ensures.held c.take_back.ensures.last
    (record { same = ran.keeps.same; ended = ran.ended; round = ran.round; looks = round_any _ c.args.now c.player-player.new.self.looper c.run_round-last.new.self c.run_round-last.result ran.looks })
