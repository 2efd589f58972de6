use Rattle.std.proofs.Common.{rules, ◌≤◌, ◌<◌, ◌∙◌, ap, length, arith}
use Rattle.dash_loopers.specs.declared.looper.StageLooper.{StageLooper}
use Rattle.dash_stage.proofs.Sharing.{looper_back, first_looper}
use Rattle.dash_stage.proofs.Ends.Carried.{run_kept}
use Rattle.dash_stage.proofs.Played.KitsOver.{over_back}
use Rattle.dash_stage.proofs.Played.KitsTold.{told_back}
use Rattle.dash_stage.proofs.Played.LoopersGive.{given_back}
use Rattle.dash_hall.specs.Hearing.{HaveSeenAll}
use Rattle.dash_stage.proofs.Stages.Timely.{looper_gives}
use Rattle.dash_stage.proofs.kept.looper_kits.Goals as goal
use Rattle.dash_threads.specs.Threads.{AreByClock}

pub each-preserved : goal.each-preserved
each-preserved c =
    let at = c.each in
    let s = c.args.script.now in
    let hall = c.args.hall.now in
    let some : 0 < length at.loopers.items = search rules in
    let back = looper_back s hall at.journals.items c.push.new.self.items at.loopers.items c.remove.new.self.items at.kits.items c.push-in-each.new.self.items c.remove.result c.in_ok-journal.journal c.in_ok-journal.kit
    at.invariant.rest some c.remove.ensures.value c.remove.ensures.items at.invariant.count at.invariant.first at.invariant.journals c.in_ok-journal.ensures.gives.number c.in_ok-journal.ensures.gives.is_kit c.in_ok-push.ensures.items c.in_ok-push-2.ensures.items in
    let count = at.invariant.count in
    let all : s.threads ≤ length at.kits.items = omega (arith, count) in
    let number = ap (λ (z : StageLooper). z.number) c.remove.ensures.value ∙ (first_looper s hall (length at.journals.items) at.loopers.items c.remove.result at.invariant.rest some).1 in
    let given = given_back s c.args.loopers.items at.journals.items c.push.new.self.items at.loopers.items c.remove.new.self.items at.kits.items c.push-in-each.new.self.items c.remove.result c.in_ok-journal.journal c.in_ok-journal.kit
    some c.remove.ensures.value c.remove.ensures.items at.invariant.count number c.in_ok-journal.ensures.told.left c.in_ok-journal.ensures.told.left_by c.in_ok-journal.ensures.told.disposes c.in_ok-push.ensures.items c.in_ok-push-2.ensures.items at.invariant.behind at.invariant.given in record {
      rest = back.0;
      count = back.1;
      first = back.2;
      journals = back.3;
      run = λ m ran. run_kept s hall m at.kits.items c.push-in-each.new.self.items c.in_ok-journal.kit all c.in_ok-push-2.ensures.items (at.invariant.run m ran);
      over = λ ended. over_back s at.journals.items c.push.new.self.items at.loopers.items c.remove.new.self.items at.kits.items c.push-in-each.new.self.items c.remove.result c.in_ok-journal.journal c.in_ok-journal.kit
          some c.remove.ensures.value c.remove.ensures.items at.invariant.count number c.in_ok-journal.ensures.told.over c.in_ok-push.ensures.items c.in_ok-push-2.ensures.items (at.invariant.over ended).0 (at.invariant.over ended).1;
      told = λ on. told_back s at.journals.items c.push.new.self.items at.loopers.items c.remove.new.self.items at.kits.items c.push-in-each.new.self.items c.remove.result c.in_ok-journal.journal c.in_ok-journal.kit
          some c.remove.ensures.value c.remove.ensures.items at.invariant.count number c.in_ok-journal.ensures.told.told c.in_ok-push.ensures.items c.in_ok-push-2.ensures.items (at.invariant.told on);
      seen = λ whole seen of_kits. looper_gives (HaveSeenAll whole) at.loopers.items c.remove.new.self.items at.kits.items c.push-in-each.new.self.items c.remove.result c.in_ok-journal.kit
          some c.remove.ensures.value c.remove.ensures.items c.in_ok-journal.ensures.gives.posters c.in_ok-push-2.ensures.items (at.invariant.seen whole seen of_kits);
      behind = given.0;
      given = given.1;
      clocked = λ m by of_kits. looper_gives (AreByClock m) at.loopers.items c.remove.new.self.items at.kits.items c.push-in-each.new.self.items c.remove.result c.in_ok-journal.kit
          some c.remove.ensures.value c.remove.ensures.items c.in_ok-journal.ensures.gives.posters c.in_ok-push-2.ensures.items (at.invariant.clocked m by of_kits);
    }

pub returns : goal.returns
returns c =
    let at = c.each.invariant in
    record {
      back = record {
        journals = search rules;
        kits = search rules;
        run = at.run;
        clocked = λ m by of_kits. (at.clocked m by of_kits).1;
        seen = λ whole seen of_kits. (at.seen whole seen of_kits).1;
        told = λ on. (at.told on).1;
        left = at.given;
        over = search rules;
      };
    }
