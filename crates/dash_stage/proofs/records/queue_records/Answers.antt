use Rattle.std.proofs.Common.{Bool, ◌≡◌, ◌<◌, List, [], ◌∷◌, ◌++◌, length, ap, sym, ◌∙◌, append-nil, length-append, subst, arith}
use Rattle.std.specs.Vec.Iter.{into_iter_items}
use Rattle.std.proofs.lemmas.List.{nil_from_length}
use Rattle.atomic_table.specs.Seated.{TableId}
use Rattle.shared_queue.specs.Constants.{Constants}
use Rattle.shared_queue.proofs.Gathers.{regrouped}
use Rattle.dash_hall.specs.Kits.{AreQueuesOf}
use Rattle.dash_hall.proofs.Badges.{queue_count as queues_counted}
use Rattle.dash_hall.proofs.HallSteps.{within_parts}
use Rattle.shared_queue.specs.Known.{Shared}
use Rattle.run_model.specs.Planned.{history_of}
use Rattle.dash_stage.specs.Ending.{AreSealed}
use Rattle.dash_stage.proofs.Ends.HallEnds.{parted_at, next_have, next_queue, next_constants, kept_looper, retires_more, histories_more, retired_all}
use Rattle.dash_stage.proofs.Ends.Carried.{has_list, sealed_next, sealed_rest}
use Rattle.dash_stage.proofs.records.queue_records.Goals as goal

pub queue_record-requires : goal.queue_record-requires
queue_record-requires c =
    let at = c.loop-queue in
    let can = c.requires in
    let parts = parted_at _ _ _ _ _ _ c.in-Some.ensures.steps.0 at.invariant.parts c.into_iter-queue-iterator.ensures.into_iter_gives.0 in
    let one = next_queue can.queues.0 c.args.script.now c.args.pool.now c.args.queues.items at.yielded _ c.in-Some.queue (length at.records.items) c.args.kits.now.items at.kits.items parts at.invariant.count can.queues.1 can.count can.kits at.invariant.retired.left in
    record {
      of_pool = at.invariant.pass;
      home = ap (λ (x : Constants TableId). x.home) one.0;
      next = one.1;
      sealed = sealed_next at.kits.items at.sealed.items at.invariant.sealed (next_have c.in-Some.queue at.kits.items one.1) c.remove-parts.result c.remove-parts.ensures.value;
    }

pub remove-parts-requires : goal.remove-parts-requires
remove-parts-requires c =
    let at = c.loop-queue in
    let parts = parted_at _ _ _ _ _ _ c.in-Some.ensures.steps.0 at.invariant.parts c.into_iter-queue-iterator.ensures.into_iter_gives.0 in
    let next = (next_queue c.requires.queues.0 c.args.script.now c.args.pool.now c.args.queues.items at.yielded _ c.in-Some.queue (length at.records.items) c.args.kits.now.items at.kits.items parts at.invariant.count c.requires.queues.1 c.requires.count c.requires.kits at.invariant.retired.left).1 in
    let many = at.invariant.retired.left.count in
    let senders = c.requires.count in
    let some : 0 < length at.kits.items = omega (arith, many, senders) in
    subst (λ n. 0 < n) (sym at.sealed.ok.0) (has_list at.kits.items at.sealed.items at.invariant.sealed (next_have c.in-Some.queue at.kits.items next) some)

pub loop-queue-preserved : goal.loop-queue-preserved
loop-queue-preserved c =
    let at = c.loop-queue in
    let s = c.args.script.now in
    let q = c.in-Some.queue in
    let r = c.in_ok-record.record in
    let rest = into_iter_items c.next.new.self in
    let steps : into_iter_items at.queue-iterator ≡ q ∷ rest = c.in-Some.ensures.steps.0 in
    let parts = parted_at _ _ _ _ _ _ c.in-Some.ensures.steps.0 at.invariant.parts c.into_iter-queue-iterator.ensures.into_iter_gives.0 in
    let count = at.invariant.count in
    let one = next_queue c.requires.queues.0 s c.args.pool.now c.args.queues.items at.yielded rest q (length at.records.items) c.args.kits.now.items at.kits.items parts count c.requires.queues.1 c.requires.count c.requires.kits at.invariant.retired.left in
    let items : c.push.new.self.items ≡ at.records.items ++ r ∷ [] = c.in_ok-push.ensures.items in
    let have = next_have q at.kits.items one.1 in
    record {
      parts = regrouped at.yielded _ _ _ q steps at.invariant.parts;
      long = let was = at.invariant.long in let gone = c.in-Some.ensures.steps.1 in let short = ap length steps in omega arith;
      pass = c.in_ok-record.ensures.pass;
      count = let more = length-append at.records.items (r ∷ []) in let done = length-append at.yielded (q ∷ []) in let now = ap length items in omega (arith, now, more, done, count);
      sealed = subst (AreSealed c.queue_record.new.kits.items) (sym c.remove-parts.ensures.items) (sealed_rest at.kits.items at.sealed.items at.invariant.sealed have (history_of r) c.queue_record.new.kits.items c.in_ok-record.ensures.kits);
      retired = retires_more c.args.kits.now.items at.kits.items c.queue_record.new.kits.items at.records.items _ r (kept_looper c.requires.queues.0 s c.args.pool.now (length at.records.items) q.constants r one.0 c.in_ok-record.ensures.kept) c.in_ok-record.ensures.kits items at.invariant.retired;
      histories = λ m are by.
          let mine = next_constants m.lockstep s c.args.pool.now _ at.yielded rest q (length at.records.items) (ap (λ l. at.yielded ++ l) (sym steps) ∙ at.invariant.parts) count are in
          let few : length at.records.items < s.loopers = omega (arith, queues_counted c.requires.queues.0 s c.args.pool.now c.args.queues.items c.requires.queues.1, within_parts at.yielded rest c.args.queues.items q (length at.records.items) parts count) in
          histories_more m s c.args.pool.now q.constants c.args.kits.now.items at.kits.items c.queue_record.new.kits.items at.records.items _ r mine c.in_ok-record.ensures.kept c.requires.count few c.in_ok-record.ensures.kits at.invariant.retired.left by items (at.invariant.histories m are by);
    }

pub returns-clause-records : goal.returns-clause-records
returns-clause-records c lockstep are =
    let at = c.loop-queue in
    let s = c.args.script.now in
    let none = c.in-None.ensures.steps in
    let empty : into_iter_items at.queue-iterator ≡ [] = nil_from_length _ (sym at.invariant.long ∙ none.0) in
    let all : at.yielded ≡ c.args.queues.items = sym (append-nil at.yielded) ∙ (ap (λ l. at.yielded ++ l) (sym empty) ∙ (at.invariant.parts ∙ c.into_iter-queue-iterator.ensures.into_iter_gives.0)) in
    let retired = retired_all s c.args.kits.now.items at.kits.items at.records.items (at.invariant.count ∙ (ap length all ∙ queues_counted c.requires.queues.0 s c.args.pool.now c.args.queues.items c.requires.queues.1)) at.invariant.retired in
    record {
      by = λ m mode by. record {
        loopers = retired.0;
        histories = at.invariant.histories m (subst (λ (qs : List (Shared TableId)). AreQueuesOf m.lockstep s c.args.pool.now qs) (sym c.into_iter-queue-iterator.ensures.into_iter_gives.0)
            (subst (λ (b : Bool). AreQueuesOf b s c.args.pool.now c.args.queues.items) (sym mode) are)) by;
      };
      loopers = retired.0;
      all = retired.1;
    }
