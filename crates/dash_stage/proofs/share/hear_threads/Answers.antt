use Rattle.std.proofs.Common.{◌<◌, refl, arith}
use Rattle.run_model.specs.Planned.{controller}
use Rattle.dash_hall.proofs.Hearing.{ready_is}
use Rattle.dash_stage.proofs.ByClock.{threads_still, kept_then, hears_on, hears_kept}
use Rattle.dash_stage.proofs.Controller.Controlling.{turns_on, in_queues, in_posters, has_poster, poster_count}
use Rattle.dash_stage.proofs.Controller.ControlTurns.{with_poster}
use Rattle.dash_stage.proofs.Sharing.{controller_kept, posters_ready}
use Rattle.dash_stage.proofs.share.hear_threads.Goals as goal

pub index-requires : goal.index-requires
index-requires c =
    let at = c.loop-looper in
    in_queues (turns_on c.requires.is_hall (controller_kept c.args.script.now c.args.hall.now c.args.controller.now at.controller at.invariant.kept c.requires.controller) (omega (arith, c.loop-looper-test.true)))

pub index_mut-requires : goal.index_mut-requires
index_mut-requires c =
    let at = c.loop-looper in
    in_posters (turns_on c.requires.is_hall (controller_kept c.args.script.now c.args.hall.now c.args.controller.now at.controller at.invariant.kept c.requires.controller) (omega (arith, c.loop-looper-test.true)))

pub threads_tell-requires : goal.threads_tell-requires
threads_tell-requires c =
    let at = c.loop-looper in
    let s = c.args.script.now in
    let hall = c.args.hall.now in
    let near : at.looper < s.loopers = omega (arith, c.loop-looper-test.true) in
    let is = controller_kept s hall c.args.controller.now at.controller at.invariant.kept c.requires.controller in
    record {
      ready = λ k d lt.
          posters_ready s hall c.requires.is_hall at.looper near c.index.result.now c.index.ensures _ _ (threads_still s hall c.args.threads.now at.threads c.requires.threads at.invariant.threads k d lt).posters;
      poster = ready_is at.controller.kit.posters.items at.looper c.index_mut.result.now c.index.result.now
          (posters_ready s hall c.requires.is_hall at.looper near c.index.result.now c.index.ensures (controller s) at.controller.kit.posters.items is.posters) c.index_mut.ensures.value;
    }

pub loop-looper-preserved : goal.loop-looper-preserved
loop-looper-preserved c =
    let at = c.loop-looper in
    let s = c.args.script.now in
    let hall = c.args.hall.now in
    let is = controller_kept s hall c.args.controller.now at.controller at.invariant.kept c.requires.controller in
    let within = has_poster (turns_on c.requires.is_hall is (omega (arith, c.loop-looper-test.true))) in
    let us = at.threads in
    let vs = c.threads_tell.new.threads in
    let p = c.index_mut.result.now in
    let p' = c.threads_tell.new.other in
    let next = with_poster at.controller at.looper p' at.controller.kit.pass in
    record {
      threads = kept_then c.args.threads.now us vs at.invariant.threads c.threads_tell.ensures.kept;
      kept = hears_kept at.looper us vs at.controller next p p' within c.index_mut.ensures.value refl c.args.controller.now refl refl refl refl c.threads_tell.ensures.heard at.invariant.kept;
      heard = hears_on at.looper us vs at.controller next p p' within c.index_mut.ensures.value refl c.threads_tell.ensures.kept c.threads_tell.ensures.told at.invariant.heard;
    }

pub returns : goal.returns
returns c =
    let at = c.loop-looper in
    let s = c.args.script.now in
    let hall = c.args.hall.now in
    let is = controller_kept s hall c.args.controller.now at.controller at.invariant.kept c.requires.controller in
    let count = poster_count s hall at.controller c.requires.is_hall is in
    record { threads = at.invariant.threads; controller = at.invariant.kept; heard = λ q d lt. at.invariant.heard q d (omega (arith, lt, count, c.loop-looper-test.false)) lt }
