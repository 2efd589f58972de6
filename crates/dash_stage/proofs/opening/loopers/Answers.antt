use Rattle.std.proofs.Common.{◌≡◌, ◌<◌, ◌+◌, ℕ, [], length, ap, sym, subst, arith}
use Rattle.dash_stage.specs.Opening.{AreUnusedFrom}
use Rattle.dash_hall.specs.declared.kit.Kit.{Kit}
use Rattle.dash_loopers.specs.declared.looper.StageLooper.{StageLooper}
use Rattle.dash_hall.specs.Kits.{AreUnseen, IsUnusedKit, AreUnusedKits}
use Rattle.dash_hall.specs.Hearing.{HasHeardAll}
use Rattle.dash_stage.specs.Sharing.{OfLoopers, HaveHeardNothing}
use Rattle.dash_loopers.specs.Loopers.{posters_of, WaitsForNothing, OfItsPass}
use Rattle.run_model.specs.Loopers.{first_looper}
use Rattle.dash_loopers.specs.Played.{StandsBetweenRounds}
use Rattle.dash_stage.specs.Timeliness.{WaitForNothing}
use Rattle.dash_stage.specs.Playing.{HaveBegun}
use Rattle.dash_stage.proofs.Sharing.{looper_made, each_more}
use Rattle.dash_stage.proofs.Ends.Carried.{other_unused}
use Rattle.dash_stage.proofs.opening.loopers.Goals as goal

pub loop-number-init : goal.loop-number-init
loop-number-init c =
    let s = c.args.script.now in
    let none = ap length c.new-loopers.ensures.items in
    let first : s.threads ≡ s.threads + 0 = omega arith in
    record {
      kits_left = subst (λ (n : ℕ). AreUnusedFrom s c.args.hall.now n c.args.kits.now.items) first c.requires.kits;
      count = none;
      first = λ k d lt. absurd (omega (arith, lt, none));
      unseen = λ k d lt. absurd (omega (arith, lt, none));
      waits = λ k d lt. absurd (omega (arith, lt, none));
      begun = λ k d lt. absurd (omega (arith, lt, none));
      unheard = λ k d lt. absurd (omega (arith, lt, none));
    }

pub new-requires-clause-looper : goal.new-requires-clause-looper
new-requires-clause-looper c = record { few = c.requires.few; one = c.loop-number-test.true; is_hall = c.requires.hall }

pub new-requires-clause-unused : goal.new-requires-clause-unused
new-requires-clause-unused c =
    let left = c.loop-number.invariant.kits_left in
    let count = left.from.count in
    let lt = c.loop-number-test.true in
    let some : 0 < length c.loop-number.kits.items = omega (arith, count, lt) in
    subst IsUnusedKit (sym c.remove.ensures.value) (left.unused 0 c.remove.result some)

pub loop-number-preserved : goal.loop-number-preserved
loop-number-preserved c =
    let s = c.args.script.now in
    let at = c.loop-number in
    let was = at.invariant in
    let left = was.kits_left in
    let count = left.from.count in
    let lt = c.loop-number-test.true in
    let some : 0 < length at.kits.items = omega (arith, count, lt) in
    let grown = c.in_ok-push.ensures.items in
    let one = c.in_ok-looper.looper in
    let new = c.in_ok-looper.ensures.begins in
    let made = looper_made s c.args.hall.now at.number at.kits.items c.remove.new.self.items at.loopers.items c.push.new.self.items one left.from some c.remove.ensures.items was.count was.first
    new.looper new.number_is grown in
    let unseen = subst AreUnseen (sym new.posters) (subst (λ (z : Kit). AreUnseen z.posters.items) (sym c.remove.ensures.value) (left.unused 0 c.remove.result some).posters) in
    record {
      kits_left = record { from = made.0; unused = subst AreUnusedKits (sym c.remove.ensures.items) (other_unused at.kits.items left.unused some) };
      count = made.1;
      first = made.2;
      unseen = subst (OfLoopers AreUnseen) (sym grown) (each_more (λ k (z : StageLooper). AreUnseen (posters_of z)) at.loopers.items one was.unseen unseen);
      waits = subst WaitForNothing (sym grown) (each_more (λ k (z : StageLooper). WaitsForNothing z.last) at.loopers.items one was.waits new.waits);
      begun = subst (HaveBegun s) (sym grown) (each_more (λ k (z : StageLooper). StandsBetweenRounds s z (first_looper s)) at.loopers.items one was.begun new.begun);
      unheard = subst HaveHeardNothing (sym grown) (each_more (λ k (z : StageLooper). OfItsPass (HasHeardAll []) z) at.loopers.items one was.unheard new.unheard);
    }
