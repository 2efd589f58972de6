use Rattle.std.proofs.Common.{rules, ◌≡◌, ◌+◌, ◌<◌, List, [], ◌∷◌, ◌++◌, length, refl, ap, sym, ◌∙◌, subst, append-nil, length-append, arith}
use Rattle.std.specs.Vec.Iter.{into_iter_items}
use Rattle.std.proofs.lemmas.List.{nil_from_length, length-map}
use Rattle.std.proofs.lemmas.List.FromFn.{length-map-range_with_len}
use Rattle.choreographer.specs.Known.{SharedFrames}
use Rattle.frame_phases.specs.declared.entry.FrameRecord.{FrameRecord}
use Rattle.shared_queue.proofs.Gathers.{regrouped}
use Rattle.dash_hall.specs.Kits.{frame_key, frame_constants}
use Rattle.dash_stage.specs.Ending.{HaveAllPasses, AreFramesSealed}
use Rattle.dash_hall.proofs.HallPasses.{given_all, given_are}
use Rattle.dash_stage.proofs.Ends.HallEnds.{parted_at}
use Rattle.dash_stage.proofs.Ends.HallFrames.{HaveEnded, ended_none, next_passes, next_constants, ends_more, ended_all, next_given, has_list, sealed_next, sealed_rest}
use Rattle.dash_stage.proofs.records.frame_records.Goals as goal

pub loop-choreographer-init : goal.loop-choreographer-init
loop-choreographer-init c =
    let s = c.args.script.now in
    let cs = c.args.choreographers.items in
    let items = c.into_iter-choreographer-iterator.ensures.into_iter_gives in
    let none : c.new-records.result.items ≡ [] = c.new-records.ensures.items in
    let loopers : length cs ≡ s.loopers = sym (length-map cs frame_key) ∙ (ap length c.requires.choreographers ∙ length-map-range_with_len (frame_constants s) 0 s.loopers) in
    let senders : length c.args.kits.now.items ≡ s.threads + s.loopers + 1 = c.requires.count in
    let marks : HaveAllPasses (given_all s 0 cs) c.args.kits.now.items = λ k d lt. c.requires.kits k d lt ∙ sym (given_are s cs k loopers (omega (arith, lt, senders))) in
    record {
      parts = refl;
      long = search rules;
      looper = refl;
      count = ap length none;
      sealed = c.requires.sealed;
      ended = subst (λ (l : List SharedFrames). HaveEnded s 0 l c.args.kits.now.items c.new-records.result.items c.args.kits.now.items) (sym items.0)
          (subst (λ (l : List FrameRecord). HaveEnded s 0 cs c.args.kits.now.items l c.args.kits.now.items) (sym none) (ended_none s cs c.args.kits.now.items marks));
    }

pub frame_record-requires : goal.frame_record-requires
frame_record-requires c =
    let at = c.loop-choreographer in
    let s = c.args.script.now in
    let x = c.in-Some.choreographer in
    let rest = into_iter_items c.next.new.self in
    let steps : into_iter_items at.choreographer-iterator ≡ x ∷ rest = c.in-Some.ensures.steps.0 in
    let parts = parted_at _ _ _ _ _ _ c.in-Some.ensures.steps.0 at.invariant.parts c.into_iter-choreographer-iterator.ensures.into_iter_gives.0 in
    let one = next_constants s c.args.choreographers.items at.yielded rest x at.looper parts at.invariant.looper c.requires.choreographers in
    let have = next_given s at.looper x rest (into_iter_items at.choreographer-iterator) c.args.kits.now.items at.kits.items at.records.items steps one.1 c.requires.count at.invariant.ended in
    record {
      fits = c.requires.fits;
      one = one.1;
      constants = one.0;
      kits = record {
        count = at.invariant.ended.count ∙ c.requires.count;
        begin = next_passes s at.looper x _ at.kits.items (subst (λ (l : List SharedFrames). HaveAllPasses (given_all s at.looper l) at.kits.items) steps at.invariant.ended.marks);
      };
      sealed = sealed_next at.kits.items at.sealed.items at.invariant.sealed have c.remove-parts.result c.remove-parts.ensures.value;
    }

pub remove-parts-requires : goal.remove-parts-requires
remove-parts-requires c =
    let at = c.loop-choreographer in
    let s = c.args.script.now in
    let x = c.in-Some.choreographer in
    let rest = into_iter_items c.next.new.self in
    let steps : into_iter_items at.choreographer-iterator ≡ x ∷ rest = c.in-Some.ensures.steps.0 in
    let parts = parted_at _ _ _ _ _ _ c.in-Some.ensures.steps.0 at.invariant.parts c.into_iter-choreographer-iterator.ensures.into_iter_gives.0 in
    let few = (next_constants s c.args.choreographers.items at.yielded rest x at.looper parts at.invariant.looper c.requires.choreographers).1 in
    let have = next_given s at.looper x rest (into_iter_items at.choreographer-iterator) c.args.kits.now.items at.kits.items at.records.items steps few c.requires.count at.invariant.ended in
    let many = at.invariant.ended.count in
    let senders : length c.args.kits.now.items ≡ s.threads + s.loopers + 1 = c.requires.count in
    subst (λ n. 0 < n) (sym at.sealed.ok.0) (has_list at.kits.items at.sealed.items at.invariant.sealed have (omega (arith, many, senders)))

pub overflow_add-looper : goal.overflow_add-looper
overflow_add-looper c =
    let at = c.loop-choreographer in
    let s = c.args.script.now in
    let parts = parted_at _ _ _ _ _ _ c.in-Some.ensures.steps.0 at.invariant.parts c.into_iter-choreographer-iterator.ensures.into_iter_gives.0 in
    let few = (next_constants s c.args.choreographers.items at.yielded _ c.in-Some.choreographer at.looper parts at.invariant.looper c.requires.choreographers).1 in
    let fits : s.threads + s.loopers < 100 = c.requires.fits in
    omega (arith, few, fits)

pub loop-choreographer-preserved : goal.loop-choreographer-preserved
loop-choreographer-preserved c =
    let at = c.loop-choreographer in
    let s = c.args.script.now in
    let x = c.in-Some.choreographer in
    let r = c.in_ok-record.record in
    let rest = into_iter_items c.next.new.self in
    let steps : into_iter_items at.choreographer-iterator ≡ x ∷ rest = c.in-Some.ensures.steps.0 in
    let items : c.push.new.self.items ≡ at.records.items ++ r ∷ [] = c.in_ok-push.ensures.items in
    let looper = at.invariant.looper in
    let count = at.invariant.count in
    let senders : length c.args.kits.now.items ≡ s.threads + s.loopers + 1 = c.requires.count in
    let parts = parted_at _ _ _ _ _ _ c.in-Some.ensures.steps.0 at.invariant.parts c.into_iter-choreographer-iterator.ensures.into_iter_gives.0 in
    let few = (next_constants s c.args.choreographers.items at.yielded rest x at.looper parts looper c.requires.choreographers).1 in
    record {
      parts = regrouped at.yielded _ _ _ x steps at.invariant.parts;
      long = let was = at.invariant.long in let gone = c.in-Some.ensures.steps.1 in let short = ap length steps in omega arith;
      looper = let done = length-append at.yielded (x ∷ []) in omega (arith, done, looper);
      count = let more = length-append at.records.items (r ∷ []) in let now = ap length items in omega (arith, now, more, count);
      sealed = subst (AreFramesSealed c.frame_record.new.kits.items) (sym c.remove-parts.ensures.items)
          (sealed_rest at.kits.items at.sealed.items at.invariant.sealed
          (next_given s at.looper x rest (into_iter_items at.choreographer-iterator) c.args.kits.now.items at.kits.items at.records.items steps few senders at.invariant.ended)
          s at.looper x c.frame_record.new.kits.items few (at.invariant.ended.count ∙ senders) c.in_ok-record.ensures.kits);
      ended = ends_more s at.looper x rest c.args.kits.now.items at.kits.items c.frame_record.new.kits.items at.records.items _ r count few (omega (arith, senders)) c.in_ok-record.ensures.record.0 c.in_ok-record.ensures.record.1 c.in_ok-record.ensures.theirs.parted c.in_ok-record.ensures.theirs.own c.in_ok-record.ensures.kits items
          (subst (λ (l : List SharedFrames). HaveEnded s at.looper l c.args.kits.now.items at.records.items at.kits.items) steps at.invariant.ended);
    }

pub returns-clause-frames : goal.returns-clause-frames
returns-clause-frames c =
    let at = c.loop-choreographer in
    let s = c.args.script.now in
    let cs = c.args.choreographers.items in
    let none = c.in-None.ensures.steps in
    let empty : into_iter_items at.choreographer-iterator ≡ [] = nil_from_length _ (sym at.invariant.long ∙ none.0) in
    let all : at.yielded ≡ cs = sym (append-nil at.yielded) ∙ (ap (λ l. at.yielded ++ l) (sym empty) ∙ (at.invariant.parts ∙ c.into_iter-choreographer-iterator.ensures.into_iter_gives.0)) in
    let loopers : length cs ≡ s.loopers = sym (length-map cs frame_key) ∙ (ap length c.requires.choreographers ∙ length-map-range_with_len (frame_constants s) 0 s.loopers) in
    let ended = ended_all s at.looper _ c.args.kits.now.items at.kits.items at.records.items (at.invariant.looper ∙ (ap length all ∙ loopers)) at.invariant.ended in
    record { records_are = ended.0; theirs = ended.1; own = at.invariant.ended.own }
