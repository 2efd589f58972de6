use Rattle.std.proofs.Common.{◌<◌, ◌∙◌, length, refl, arith, ap}
use Rattle.std.proofs.Math.Seq.{map-set_same}
use Rattle.dash_hall.specs.Kits.{badge_of, badge_for}
use Rattle.dash_hall.proofs.Badges.{posters_kept, alike_length}
use Rattle.dash_threads.specs.Threads.{known_of}
use Rattle.dash_hall.proofs.PassesHearing.{passes_heard_self}
use Rattle.dash_threads.proofs.ThreadShares.{ring_set, ring_none}
use Rattle.dash_threads.proofs.ThreadRuns.{rings_none, its_poster}
use Rattle.dash_threads.proofs.thread.PostingThread.nudge.Goals as goal

pub nudge-requires-after_bounds : goal.nudge-requires-after_bounds
nudge-requires-after_bounds g c κs within =
    let t = c.args.self.now in
    let hall = c.args.hall.now in
    let near : c.args.looper < length t.kit.posters.items = omega (arith, c.len.ensures, c.if-place-len.false) in
    its_poster c.args.script.now hall t c.requires.at_work.hall c.requires.at_work.thread c.args.looper c.index.result.now c.index_mut.result.now c.index.ensures c.index_mut.ensures.value near

pub returns-then-place-len : goal.returns-then-place-len
returns-then-place-len g c = rings_none c.args.script.now c.args.hall.now c.args.self.now _ c.requires.at_work.thread (ring_none c.args.self.now.kit.posters.items c.args.looper (omega (arith, c.len.ensures, c.if-place-len.true)))

pub returns-then-place-len-2 : goal.returns-then-place-len-2
returns-then-place-len-2 g c =
    let t = c.args.self.now in
    let long = alike_length badge_of (badge_for t.number) t.kit.posters.items c.args.hall.now.queues.items c.requires.at_work.thread.posters in
    rings_none c.args.script.now c.args.hall.now t _ c.requires.at_work.thread (ring_none t.kit.posters.items c.args.looper (omega (arith, long, c.len-2.ensures, c.if-place-len-2.true)))

pub returns : goal.returns
returns g c =
    let t = c.args.self.now in
    let same = c.nudge.ensures.same.0 in
    let near : c.args.looper < length t.kit.posters.items = omega (arith, c.len.ensures, c.if-place-len.false) in
    record {
      thread = record {
        number = c.requires.at_work.thread.number;
        posters = posters_kept t.number c.args.hall.now.queues.items t.kit.posters.items c.requires.at_work.thread.posters c.args.looper c.nudge.new.self c.index_mut.result.now ((λ i. record { table = same.table i; constants = same.constants i; sender = same.sender i }) ∙ ap badge_of c.index_mut.ensures.value);
        frames = c.requires.at_work.thread.frames;
        pass = c.requires.at_work.thread.pass;
      };
      kept = record {
        number = refl;
        posters = map-set_same known_of t.kit.posters.items c.args.looper c.nudge.new.self c.index_mut.result.now
            ((λ i. (record { table = same.table i; constants = same.constants i; sender = same.sender i }, c.nudge.ensures.same.1 i)) ∙ ap known_of c.index_mut.ensures.value);
        pass = refl;
        frames = passes_heard_self t.kit.frames.items;
        barriers = refl;
        passed = refl;
        gave_up = refl;
      };
      rung = ring_set t.kit.posters.items c.args.looper c.index_mut.result.now c.nudge.new.self c.index_mut.ensures.value near c.nudge.ensures.rung;
    }
