use Rattle.std.proofs.Common.{◌<◌, length, ap, sym, subst, arith, slice_index_or}
use Rattle.dash_hall.specs.declared.kit.Kit.{Kit}
use Rattle.dash_threads.specs.declared.thread.PostingThread.{PostingThread}
use Rattle.dash_hall.specs.Kits.{IsKitOf, AreUnseen, IsUnusedKit}
use Rattle.dash_loopers.proofs.LooperPasses.{unheard_all}
use Rattle.dash_stage.specs.Sharing.{OfThreads, OfPasses, AreUnheard}
use Rattle.dash_stage.proofs.Sharing.{thread_of, first_kit, each_more}
use Rattle.dash_stage.proofs.Ends.Carried.{thread_made}
use Rattle.dash_stage.proofs.opening.threads.Goals as goal

pub loop-number-init : goal.loop-number-init
loop-number-init c =
    let none = ap length c.new-threads.ensures.items in
    record {
      kits_left = c.requires.kits;
      count = none;
      first = λ k d lt. absurd (omega (arith, lt, none));
      run = λ m k d lt. absurd (omega (arith, lt, none));
      unseen = λ k d lt. absurd (omega (arith, lt, none));
      unheard = λ k d lt. absurd (omega (arith, lt, none));
    }

pub loop-number-preserved : goal.loop-number-preserved
loop-number-preserved c =
    let s = c.args.script.now in
    let hall = c.args.hall.now in
    let at = c.loop-number in
    let was = at.invariant in
    let count = was.kits_left.from.count in
    let lt = c.loop-number-test.true in
    let some : 0 < length at.kits.items = omega (arith, count, lt) in
    let kit = c.remove.result in
    let is = subst (IsKitOf s hall at.number) (sym c.remove.ensures.value) (first_kit s hall at.number at.kits.items kit was.kits_left.from some) in
    let unused = subst IsUnusedKit (sym c.remove.ensures.value) (was.kits_left.unused 0 kit some) in
    let made = thread_made s hall at.number at.kits.items c.remove.new.self.items at.threads.items c.push.new.self.items c.new.result was.kits_left.from was.kits_left.unused some c.remove.ensures.items was.count was.first was.run
    (thread_of s hall at.number kit c.new.result is c.loop-number-test.true c.new.ensures.number c.new.ensures.kit) c.new.ensures.number
    (λ m. c.new.ensures.begun m s unused) c.in_ok-push.ensures.items in
    record {
      kits_left = record { from = made.0; unused = made.1 };
      count = made.2;
      first = made.3;
      run = made.4;
      unseen = subst (OfThreads AreUnseen) (sym c.in_ok-push.ensures.items)
          (each_more (λ k (z : PostingThread). AreUnseen z.kit.posters.items) at.threads.items c.new.result was.unseen (subst (λ (z : Kit). AreUnseen z.posters.items) (sym c.new.ensures.kit) unused.posters));
      unheard = subst (OfPasses AreUnheard) (sym c.in_ok-push.ensures.items)
          (each_more (λ k (z : PostingThread). AreUnheard z.kit.frames.items) at.threads.items c.new.result was.unheard (subst (λ (z : Kit). AreUnheard z.frames.items) (sym c.new.ensures.kit)
          (λ q p lt. unheard_all (slice_index_or kit.frames.items q p) (unused.heard q p lt) (unused.frames q p lt) (unused.own q p lt))));
    }
