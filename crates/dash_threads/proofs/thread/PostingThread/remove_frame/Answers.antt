use Rattle.std.proofs.Common.{None, ◌<◌, ℕ, subst, length, arith, refl, rules}
use Rattle.dash_threads.proofs.ThreadRuns.{removal_asks, unframe_progress, unframe_within, works_still, its_pass, its_phases, thread_with_pass}
use Rattle.dash_hall.proofs.Badges.{alike_length, frame_turn_badge, choreographer_count}
use Rattle.dash_threads.proofs.thread.PostingThread.remove_frame.Goals as goal
use Rattle.dash_threads.proofs.thread.PostingThread.remove_frame.Goals.{else-place-len-via-then-place-len+then-place-len-2+else-phase-phases, else-place-len-via-then-place-len+else-place-len-2, else-place-len-via-else-place-len}
use Rattle.run_model.specs.FrameRecords.{Removes}
use Rattle.dash_hall.specs.Hosts.{AsksFor}
use Rattle.dash_hall.specs.Kits.{frame_badge_of, frame_badge_for}

pub remove_callbacks-requires : goal.remove_callbacks-requires
remove_callbacks-requires g c =
    let t = c.args.self.now in
    let hall = c.args.hall.now in
    let near : c.args.looper < length t.kit.frames.items = omega (arith, c.len.ensures, c.if-place-len.true) in
    let near' : c.args.looper < length hall.choreographers.items = omega (arith, c.len-then-place-len.ensures, c.if-place-len-2.true) in
    let phases = its_phases c.args.script.now hall t c.requires.at_work.hall c.requires.at_work.thread c.args.looper c.index.result.now c.index.ensures near' in
    (its_pass c.args.script.now hall t c.requires.at_work.hall c.requires.at_work.thread c.args.looper c.index.result.now c.index_mut.result.now c.index.ensures c.index_mut.ensures.value near, omega (arith, phases, c.phase_count-phases.ensures, c.if-phase-phases.true))

pub returns-in_err-remove_callbacks : goal.returns-in_err-remove_callbacks
returns-in_err-remove_callbacks g c = record {
  works = record {
    thread = thread_with_pass c.args.script.now c.args.hall.now c.args.self.now _ c.requires.at_work.thread refl refl refl c.args.looper c.index_mut.result.now c.remove_callbacks.new.pass refl c.index_mut.ensures.value (frame_turn_badge _ _ _ _ c.remove_callbacks.ensures.turn.2);
    number = refl;
    passed = refl;
    goes = refl;
    bells = refl;
  };
  made = search rules;
}

pub returns-in_ok-remove_callbacks : goal.returns-in_ok-remove_callbacks
returns-in_ok-remove_callbacks g c = record {
  works = record {
    thread = thread_with_pass c.args.script.now c.args.hall.now c.args.self.now _ c.requires.at_work.thread refl refl refl c.args.looper c.index_mut.result.now c.remove_callbacks.new.pass refl c.index_mut.ensures.value (frame_turn_badge _ _ _ _ c.remove_callbacks.ensures.turn.2);
    number = refl;
    passed = refl;
    goes = refl;
    bells = refl;
  };
  made = λ now m time mode allowed past rest are up. (
      let t = c.args.self.now in
      let f = c.index_mut.result.now in
      let h = c.remove_callbacks.new.pass in
      let turn = c.in_ok-remove_callbacks.ensures.turn in
      let near : c.args.looper < length t.kit.frames.items = omega (arith, c.len.ensures, c.if-place-len.true) in
      unframe_progress m c.args.script.now time now c.args.looper c.args.phase c.args.id t.number t.barriers.items t.kit.posters.items t.kit.frames.items f h past allowed c.index_mut.ensures.value near
      (subst (λ (i : ℕ). AsksFor (Removes c.args.phase i None) f h) c.from.ensures (removal_asks c.args.phase c.from.result f h turn.0 turn.1 turn.2 turn.4)) turn.2.turns up);
}

pub returns-else-place-len : goal.returns-else-place-len
returns-else-place-len g c = record {
  works = works_still _ _ _ c.requires.at_work.thread;
  made = λ now m time mode allowed past rest are up. (
      let t = c.args.self.now in
      let s = c.args.script.now in
      let hall = c.args.hall.now in
      let within = unframe_within s t.number time c.args.looper c.args.phase c.args.id past rest c.requires.at_work.text are in
      let lt = within.0 in
      let ph = within.1 in
      let cs = choreographer_count s hall.choreographers.items c.requires.at_work.hall.choreographers in
      let frames = alike_length frame_badge_of (frame_badge_for t.number) t.kit.frames.items hall.choreographers.items c.requires.at_work.thread.frames in
      elim c.else-place-len.branch [
        | else-place-len-via-then-place-len+then-place-len-2+else-phase-phases w ↦ absurd (omega (arith, ph, c.phase_count-phases.ensures, w.if-phase-phases.false))
        | else-place-len-via-then-place-len+else-place-len-2 w ↦ absurd (omega (arith, lt, cs, w.len-then-place-len.ensures, w.if-place-len-2.false))
        | else-place-len-via-else-place-len w ↦ absurd (omega (arith, lt, cs, frames, c.len.ensures, w.if-place-len.false))
      ]);
}
