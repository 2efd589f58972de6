use Rattle.std.proofs.Common.{◌≡◌, ℕ, ◌++◌, List, map, Option, None, ap, ◌∙◌}
use Rattle.looper_run.specs.Asked.{Asked, Listening, Listen, with_asked, asked_by_round}
use Rattle.looper_run.specs.Holding.{workplace}
use Rattle.run_model.specs.ByClock.{in_free_mode}
use Rattle.dash_loopers.specs.declared.looper.StageLooper.{StageLooper}
use Rattle.dash_loopers.proofs.LooperKits.{looper_of}
use Rattle.dash_loopers.proofs.LooperMoments.{setting_free}
use Rattle.dash_loopers.proofs.LooperQueue.{within_queues, at_queue_here}
use Rattle.dash_loopers.proofs.LooperLooped.{looped_by_loop, looped_here}
use Rattle.dash_loopers.proofs.LooperLoops.{unless_lost}
use Rattle.dash_loopers.proofs.LooperRounds.{loop_here}
use Rattle.dash_loopers.proofs.looper.StageLooper.run_loop.Goals as goal

pub of_looper-queue-requires : goal.of_looper-queue-requires
of_looper-queue-requires g c = within_queues c.args.script.now c.args.hall.now c.args.self.now c.requires.may.is_hall c.requires.may.looper

pub run_loop-how-requires-clause-looper : goal.run_loop-how-requires-clause-looper
run_loop-how-requires-clause-looper g c κs lives = record {
  going = ap (λ (x : StageLooper). x.looper.ended) c.player-player.ensures.same ∙ (c.requires.may.looper.ended ∙ c.requires.going.0);
  at = at_queue_here c.args.script.now c.args.hall.now c.args.self.now c.requires.may.is_hall c.requires.may.looper c.of_looper-queue.result.now c.of_looper-queue.ensures c.player-player.new.self c.player-player.ensures.same;
}

pub run_loop-how-requires-clause-free : goal.run_loop-how-requires-clause-free
run_loop-how-requires-clause-free g c κs lives =
    let l = c.args.self.now in
    setting_free c.args.script.now c.args.hall.now l.number c.of_looper-queue.result.now c.requires.may.mode (looper_of c.args.script.now c.args.hall.now l c.requires.may.is_hall c.requires.may.looper) c.of_looper-queue.ensures

pub take_back-requires-clause-hall : goal.take_back-requires-clause-hall
take_back-requires-clause-hall g c = (c.run_loop-how.ensures.keeps.serves (workplace c.player-player.new.self.looper.held) c.player-player.ensures.begins.serves).serves.looper.is_hall

pub take_back-requires-clause-looped : goal.take_back-requires-clause-looped
take_back-requires-clause-looped g c =
    let none : Option (List Asked) = None in
    let called : ℕ → List Listening → List Listening → Type 0 = λ now heard more. none ≡ with_asked none (asked_by_round now heard ++ map Listen more) in
    let ran = c.run_loop-how.ensures in
    let begun = c.player-player.ensures in
    looped_by_loop (g.C.Clock.shows c.args.pace.now.timer.now.clock.now) c.args.pace.now.timer.now.start c.args.script.now c.args.hall.now c.args.self.now c.requires.may.is_hall c.requires.may.looper c.requires.may.mode c.requires.going
    c.of_looper-queue.result.now c.of_looper-queue.ensures c.run_loop-how.new.d.parts c.run_loop-how.new.self c.last_of.result c.player-player.new.self _ _ begun.same (ran.keeps.origin ∙ begun.begins.owner) (ran.keeps.serves _ begun.begins.serves) called c.args.cap c.run_loop-how.result c.last_of.ensures
    (record { same = ran.keeps.same; ended = ran.ended; loops = ran.loops; steps = ran.steps }) (λ on. (unless_lost c.run_loop-how.result _ on ran.rests).meets)

pub returns-clause-last : goal.returns-clause-last
returns-clause-last g c = c.take_back.ensures.last ∙ c.last_of.ensures

pub returns-clause-looped : goal.returns-clause-looped
returns-clause-looped g c =
    let m = in_free_mode (g.C.Clock.shows c.args.pace.now.timer.now.clock.now) c.args.pace.now.timer.now.start in
    looped_here m c.args.script.now c.args.hall.now c.args.self.now c.take_back.new.self _ (c.run_loop-how.ensures.keeps.origin ∙ c.player-player.ensures.begins.owner) c.take_back.ensures.looped

pub returns-clause-loops : goal.returns-clause-loops
returns-clause-loops g c =
    let timer = c.args.pace.now.timer.now in
    loop_here (g.C.Clock.shows timer.clock.now) timer.start c.args.cap c.args.script.now c.args.hall.now c.args.self.now c.player-player.new.self c.take_back.new.self
    c.of_looper-queue.result.now c.run_loop-how.new.self c.run_loop-how.result c.requires.may.mode c.requires.may.is_hall c.requires.may.looper c.of_looper-queue.ensures c.player-player.ensures.same c.take_back.ensures.held
    c.run_loop-how.ensures.loops
