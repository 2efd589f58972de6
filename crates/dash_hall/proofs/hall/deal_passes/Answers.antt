use Rattle.std.proofs.Common.{◌≡◌, ◌+◌, ◌<◌, [], ◌∷◌, ◌++◌, length, refl, ap, sym, ◌∙◌, subst, append-nil, length-append, arith}
use Rattle.std.specs.Vec.Iter.{into_iter_items}
use Rattle.std.proofs.lemmas.List.{nil_from_length, length-set}
use Rattle.shared_queue.proofs.Gathers.{regrouped}
use Rattle.dash_hall.specs.declared.kit.Kit.{Kit}
use Rattle.dash_hall.specs.Kits.{frame_badge_of}
use Rattle.choreographer.specs.Ends.{IsNewPass}
use Rattle.dash_hall.specs.Dealing.{Gets, DealsPasses}
use Rattle.dash_hall.proofs.HallSteps.{holder_within, passes_more, passes_all}
use Rattle.dash_hall.proofs.hall.deal_passes.Goals as goal

pub loop-pass-preserved : goal.loop-pass-preserved
loop-pass-preserved c =
    let at = c.loop-pass in
    let s = c.args.script.now in
    let p = c.in-Some.pass in
    let rest = into_iter_items c.next.new.self in
    let steps : into_iter_items at.pass-iterator ≡ p ∷ rest = c.in-Some.ensures.steps.0 in
    let parts : at.yielded ++ p ∷ rest ≡ into_iter_items c.into_iter-pass-iterator.result = ap (λ l. at.yielded ++ l) (sym steps) ∙ at.invariant.parts in
    let number = at.invariant.number in
    let counts : length c.args.kits.now.items ≡ s.threads + s.loopers + 1 = c.requires.kits in
    let kits = at.invariant.kits in
    let held = c.holder.ensures in
    let few = holder_within s c.args.looper at.number c.requires.looper in
    let within : c.holder.result < length at.kits.items = omega (arith, counts, kits, held, few) in
    let got : IsNewPass p → Gets [] (frame_badge_of p ∷ []) c.index_mut.result.now c.add_pass.new.self = c.in_ok-add_pass.ensures in
    record {
      parts = regrouped at.yielded _ _ _ p steps at.invariant.parts;
      long = let was = at.invariant.long in let gone = c.in-Some.ensures.steps.1 in let short = ap length steps in omega arith;
      number = let more = length-append at.yielded (p ∷ []) in omega (arith, more, number);
      kits = length-set at.kits.items c.holder.result c.add_pass.new.self ∙ kits;
      dealt = passes_more s c.args.looper at.number _ at.yielded rest p c.args.kits.now.items at.kits.items _ c.holder.result c.index_mut.result.now c.add_pass.new.self parts number held within refl
          (subst (λ (x : Kit). IsNewPass p → Gets [] (frame_badge_of p ∷ []) x c.add_pass.new.self) c.index_mut.ensures.value got) at.invariant.dealt;
    }

pub returns : goal.returns
returns c =
    let at = c.loop-pass in
    let none = c.in-None.ensures.steps in
    let empty : into_iter_items at.pass-iterator ≡ [] = nil_from_length _ (sym at.invariant.long ∙ none.0) in
    let all : at.yielded ≡ c.args.passes.items = sym (append-nil at.yielded) ∙ (ap (λ l. at.yielded ++ l) (sym empty) ∙ (at.invariant.parts ∙ c.into_iter-pass-iterator.ensures.into_iter_gives.0)) in
    let number = at.invariant.number ∙ (ap length all ∙ c.requires.passes) in
    subst (λ l. DealsPasses c.args.script.now c.args.looper l c.args.kits.now.items at.kits.items) c.into_iter-pass-iterator.ensures.into_iter_gives.0
    (passes_all c.args.script.now c.args.looper at.number _ c.args.kits.now.items at.kits.items number at.invariant.dealt)
