use Rattle.std.proofs.Common.{rules, ◌≡◌, ◌+◌, ◌<◌, List, length, get_or, subst, ◌∙◌, arith}
use mathlib.Core.List.{IsPrefix}
use Rattle.choreographer.specs.Known.{Pass}
use Rattle.frame_phases.specs.declared.entry.FrameRecord.{FrameRecord}
use Rattle.dash_stage.proofs.Ends.Carried.{numbered_count}
use Rattle.dash_stage.proofs.Ends.HallFrames.{frames_kept, sealed_kept}
use Rattle.dash_stage.proofs.records.records.Goals as goal

pub close-requires-clause-kits : goal.close-requires-clause-kits
close-requires-clause-kits c =
    let kept = c.in_ok-queues.ensures.kits in
    c.in_ok-frames.ensures.pool c.args.hall.pool (λ k d lt.
    let same = kept.count in
    let within : k < length c.args.kits.items = omega (arith, lt, same) in
    (kept.each k d within).pass ∙ (c.requires.kits.each k d within).pass)

pub returns-clause-queues : goal.returns-clause-queues
returns-clause-queues c = c.in_ok-queues.ensures.records c.args.hall.lockstep c.requires.is_hall.queues

pub returns-clause-frames : goal.returns-clause-frames
returns-clause-frames c =
    let kept = c.in_ok-queues.ensures.kits in
    let frames = c.in_ok-frames.ensures.frames in
    let s = c.args.script.now in
    let fs = c.in_ok-frames.frames.items in
    let senders : length c.args.kits.items ≡ s.threads + s.loopers + 1 = c.requires.kits.count in
    let few : length fs ≡ s.loopers = numbered_count (λ (z : FrameRecord). z.looper) s.loopers fs frames.records_are.loopers in
    record {
      records_are = frames.records_are;
      theirs = frames_kept s c.args.kits.items c.queue_records.new.kits.items fs senders few kept frames.theirs;
      own = λ q d p r below.
          let within : s.threads + q < length c.args.kits.items = omega (arith, below, few, senders) in
          subst (λ (l : List Pass). IsPrefix (get_or l 0 p).view.seen (get_or fs q r).entries) (kept.each (s.threads + q) d within).frames (frames.own q d p r below);
    }

pub queue_records-requires : goal.queue_records-requires
queue_records-requires c =
    let can = c.requires in
    record {
      home = can.home;
      queues = (c.args.hall.lockstep, can.is_hall.queues);
      count = can.kits.count;
      kits = λ k d lt. (can.kits.each k d lt).posters;
      sealed = can.sealed;
    }

pub frame_records-requires : goal.frame_records-requires
frame_records-requires c =
    let can = c.requires in
    let kept = c.in_ok-queues.ensures.kits in
    record {
      fits = can.fits;
      choreographers = can.is_hall.choreographers;
      count = kept.count ∙ can.kits.count;
      kits = search rules;
      sealed = sealed_kept c.args.kits.items c.queue_records.new.kits.items c.args.sealed_frames.items kept can.sealed_frames;
    }
