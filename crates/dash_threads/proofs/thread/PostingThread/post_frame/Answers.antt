use Rattle.std.proofs.Common.{◌<◌, ◌∙◌, sym, subst, length, arith, ap, refl}
use Rattle.std.proofs.Math.Seq.{map-set_same}
use Rattle.looper_run.specs.Holding.{Sender}
use Rattle.dash_hall.specs.Kits.{badge_of, badge_for, frame_badge_of, frame_badge_for}
use Rattle.dash_threads.proofs.ThreadRuns.{on_ok, works_still, frame_progress, frame_within, few_loopers, its_poster, its_home, its_pass, its_phases, its_mode}
use Rattle.dash_hall.proofs.Badges.{alike_length, posters_kept, gone_badge, passes_kept, queue_count, choreographer_count}
use Rattle.dash_threads.proofs.thread.PostingThread.post_frame.Goals as goal
use Rattle.dash_threads.proofs.thread.PostingThread.post_frame.Goals.{else-place-len-via-then-place-len+then-place-len-2+then-place-len-3+then-place-len-4+else-post-phases, else-place-len-via-then-place-len+then-place-len-2+then-place-len-3+else-place-len-4, else-place-len-via-then-place-len+then-place-len-2+else-place-len-3, else-place-len-via-then-place-len+else-place-len-2, else-place-len-via-else-place-len}
use Rattle.handler_post.specs.declared.handler.Handler.{Handler}
use Rattle.dash_hall.specs.Hosts.{PostsFrame}

pub frame_handler-requires : goal.frame_handler-requires
frame_handler-requires g c =
    let few = few_loopers c.args.script.now c.requires.at_work.text in
    let long = queue_count c.args.hall.now.lockstep c.args.script.now c.args.hall.now.pool c.args.hall.now.queues.items c.requires.at_work.hall.queues in
    omega (arith, few, long, c.len-then-place-len.ensures, c.if-place-len-2.true)

pub post_frame-requires-clause-ready : goal.post_frame-requires-clause-ready
post_frame-requires-clause-ready g c =
    let t = c.args.self.now in
    let hall = c.args.hall.now in
    let near : c.args.looper < length t.kit.posters.items = omega (arith, c.len.ensures, c.if-place-len.true) in
    let near' : c.args.looper < length hall.queues.items = omega (arith, c.len-then-place-len.ensures, c.if-place-len-2.true) in
    record {
      queue = its_poster c.args.script.now hall t c.requires.at_work.hall c.requires.at_work.thread c.args.looper c.index.result.now c.index_mut.result.now c.index.ensures c.index_mut.ensures.value near;
      pass = c.requires.at_work.thread.pass;
      home = its_home c.args.script.now hall t c.requires.at_work.hall c.requires.at_work.thread c.args.looper c.index.result.now c.index.ensures near';
    }

pub post_frame-requires-clause-frames : goal.post_frame-requires-clause-frames
post_frame-requires-clause-frames g c =
    let t = c.args.self.now in
    let hall = c.args.hall.now in
    let q = c.index-then-post-phases.result.now in
    let near : c.args.looper < length t.kit.frames.items = omega (arith, c.len-then-place-len-2.ensures, c.if-place-len-3.true) in
    let near' : c.args.looper < length hall.choreographers.items = omega (arith, c.len-then-place-len-3.ensures, c.if-place-len-4.true) in
    let phases = its_phases c.args.script.now hall t c.requires.at_work.hall c.requires.at_work.thread c.args.looper q c.index-then-post-phases.ensures near' in
    (its_pass c.args.script.now hall t c.requires.at_work.hall c.requires.at_work.thread c.args.looper q c.index_mut-then-post-phases.result.now c.index-then-post-phases.ensures c.index_mut-then-post-phases.ensures.value near, omega (arith, phases, c.phase_count-phases.ensures, c.if-post-phases.true))

pub returns-then-post-phases : goal.returns-then-post-phases
returns-then-post-phases g c =
    let t = c.args.self.now in
    let s = c.args.script.now in
    let p = c.index_mut.result.now in
    let q = c.post_frame.new.poster in
    let f = c.index_mut-then-post-phases.result.now in
    let h = c.post_frame.new.frames in
    let near : c.args.looper < length t.kit.posters.items = omega (arith, c.len.ensures, c.if-place-len.true) in
    let near' : c.args.looper < length t.kit.frames.items = omega (arith, c.len-then-place-len-2.ensures, c.if-place-len-3.true) in
    record {
      works = record {
        thread = record {
          number = c.requires.at_work.thread.number;
          posters = posters_kept t.number c.args.hall.now.queues.items t.kit.posters.items c.requires.at_work.thread.posters c.args.looper c.post_frame.new.poster c.index_mut.result.now (gone_badge _ _ _ _ c.post_frame.ensures.on ∙ ap badge_of c.index_mut.ensures.value);
          frames = passes_kept t.number c.args.hall.now.choreographers.items t.kit.frames.items c.requires.at_work.thread.frames c.args.looper c.post_frame.new.frames c.index_mut-then-post-phases.result.now (c.post_frame.ensures.frames ∙ ap frame_badge_of c.index_mut-then-post-phases.ensures.value);
          pass = c.post_frame.ensures.on.home ∙ c.requires.at_work.thread.pass;
        };
        number = refl;
        passed = refl;
        goes = refl;
        bells = map-set_same (λ (z : Sender). z.view.rung) t.kit.posters.items c.args.looper c.post_frame.new.poster c.index_mut.result.now
            (c.post_frame.ensures.on.rung ∙ ap (λ (z : Sender). z.view.rung) c.index_mut.ensures.value);
      };
      made = on_ok c.post_frame.result _ _
          (λ made. λ m time mode allowed past rest are up. frame_progress m s time c.args.post.now c.args.looper c.args.post.phase c.args.post.id c.args.post.delay t.number t.barriers.items t.kit.posters.items t.kit.frames.items p q f h past allowed (its_mode m s c.args.hall.now t c.requires.at_work.hall c.requires.at_work.thread mode) c.index_mut.ensures.value c.index_mut-then-post-phases.ensures.value near near' c.post_frame.ensures.on.sender (c.post_frame.ensures.on.more, sym c.post_frame.ensures.on.seen)
          (subst (λ (x : Handler). PostsFrame x.id c.args.post.now c.args.post.phase c.args.post.id c.args.post.delay p q f h) c.frame_handler.ensures made) up)
          c.post_frame.ensures.made;
    }

pub returns : goal.returns
returns g c = record {
  works = works_still _ _ _ c.requires.at_work.thread;
  made = λ m time mode allowed past rest are up. (
      let t = c.args.self.now in
      let s = c.args.script.now in
      let hall = c.args.hall.now in
      let within = frame_within s t.number time c.args.looper c.args.post.phase c.args.post.id c.args.post.delay past rest c.requires.at_work.text are in
      let lt = within.0 in
      let ph = within.1 in
      let queues = queue_count hall.lockstep s hall.pool hall.queues.items c.requires.at_work.hall.queues in
      let posters = alike_length badge_of (badge_for t.number) t.kit.posters.items hall.queues.items c.requires.at_work.thread.posters in
      let cs = choreographer_count s hall.choreographers.items c.requires.at_work.hall.choreographers in
      let frames = alike_length frame_badge_of (frame_badge_for t.number) t.kit.frames.items hall.choreographers.items c.requires.at_work.thread.frames in
      elim c.else-place-len.branch [
        | else-place-len-via-then-place-len+then-place-len-2+then-place-len-3+then-place-len-4+else-post-phases w ↦ absurd (omega (arith, ph, c.phase_count-phases.ensures, w.if-post-phases.false))
        | else-place-len-via-then-place-len+then-place-len-2+then-place-len-3+else-place-len-4 w ↦ absurd (omega (arith, lt, cs, w.len-then-place-len-3.ensures, w.if-place-len-4.false))
        | else-place-len-via-then-place-len+then-place-len-2+else-place-len-3 w ↦ absurd (omega (arith, lt, cs, frames, w.len-then-place-len-2.ensures, w.if-place-len-3.false))
        | else-place-len-via-then-place-len+else-place-len-2 w ↦ absurd (omega (arith, lt, queues, w.len-then-place-len.ensures, w.if-place-len-2.false))
        | else-place-len-via-else-place-len w ↦ absurd (omega (arith, lt, queues, posters, c.len.ensures, w.if-place-len.false))
      ]);
}
