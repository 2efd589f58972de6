use Rattle.std.proofs.Common.{rules, ◌<◌, length}
use Rattle.dash_hall.specs.Hearing.{HaveSeenAll}
use Rattle.dash_threads.specs.Threads.{AreByClock}
use Rattle.dash_stage.proofs.Ends.Carried.{thread_back, thread_ran, threads_start, ran_start}
use Rattle.dash_stage.proofs.Stages.Timely.{thread_gives, none_yet}
use Rattle.dash_stage.proofs.kept.thread_kits.Goals as goal

pub each-preserved : goal.each-preserved
each-preserved c =
    let at = c.each in
    let some : 0 < length at.threads.items = search rules in
    let back = thread_back c.args.script.now c.args.hall.now at.kits.items c.push.new.self.items at.threads.items c.remove.new.self.items c.remove.result c.into_kit.result at.invariant.rest some c.remove.ensures.value
    c.remove.ensures.items at.invariant.first c.into_kit.ensures c.in_ok-push.ensures.items in record {
      rest = back.0;
      first = back.1;
      run = λ m run. thread_ran c.args.script.now c.args.hall.now m at.kits.items c.push.new.self.items at.threads.items c.remove.new.self.items c.remove.result c.into_kit.result at.invariant.rest some c.remove.ensures.value
          c.remove.ensures.items c.into_kit.ensures c.in_ok-push.ensures.items (at.invariant.run m run);
      seen = λ whole seen. thread_gives (HaveSeenAll whole) at.threads.items c.remove.new.self.items at.kits.items c.push.new.self.items c.remove.result c.into_kit.result some c.remove.ensures.value
          c.remove.ensures.items c.into_kit.ensures c.in_ok-push.ensures.items (at.invariant.seen whole seen);
      clocked = λ m by. thread_gives (AreByClock m) at.threads.items c.remove.new.self.items at.kits.items c.push.new.self.items c.remove.result c.into_kit.result some c.remove.ensures.value
          c.remove.ensures.items c.into_kit.ensures c.in_ok-push.ensures.items (at.invariant.clocked m by);
    }

pub each-init : goal.each-init
each-init c =
    let start = threads_start c.args.script.now c.args.hall.now c.new-kits.result.items c.args.threads.items c.new-kits.ensures.items c.requires.threads in record {
      rest = start.0;
      first = start.1;
      run = λ m run. ran_start c.args.script.now c.args.hall.now m c.new-kits.result.items c.args.threads.items c.new-kits.ensures.items run;
      seen = λ whole seen. (seen, none_yet (HaveSeenAll whole) c.new-kits.result.items c.new-kits.ensures.items);
      clocked = λ m by. (by, none_yet (AreByClock m) c.new-kits.result.items c.new-kits.ensures.items);
    }

pub returns : goal.returns
returns c =
    let at = c.each.invariant in
    record {
      give = record {
        kits = search rules;
        run = λ m run. (at.run m run).1;
        clocked = λ m by. (at.clocked m by).1;
        seen = λ whole seen. (at.seen whole seen).1;
      };
    }
