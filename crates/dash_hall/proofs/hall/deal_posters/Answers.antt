use Rattle.std.proofs.Common.{◌≡◌, ◌<◌, [], ◌∷◌, ◌++◌, length, refl, ap, sym, ◌∙◌, subst, append-nil, length-append, arith}
use Rattle.std.specs.Vec.Iter.{into_iter_items}
use Rattle.std.proofs.lemmas.List.{nil_from_length, length-set}
use Rattle.shared_queue.proofs.Gathers.{regrouped}
use Rattle.dash_hall.specs.declared.kit.Kit.{Kit}
use Rattle.dash_hall.specs.Kits.{badge_of}
use Rattle.shared_queue.specs.Ends.{IsNewPoster}
use Rattle.dash_hall.specs.Dealing.{Gets, DealsPosters}
use Rattle.dash_hall.proofs.HallSteps.{within_parts, posters_more, posters_all}
use Rattle.dash_hall.proofs.hall.deal_posters.Goals as goal

pub loop-poster-preserved : goal.loop-poster-preserved
loop-poster-preserved c =
    let at = c.loop-poster in
    let p = c.in-Some.poster in
    let rest = into_iter_items c.next.new.self in
    let all = c.into_iter-poster-iterator.ensures.into_iter_gives.0 in
    let steps : into_iter_items at.poster-iterator ≡ p ∷ rest = c.in-Some.ensures.steps.0 in
    let parts : at.yielded ++ p ∷ rest ≡ into_iter_items c.into_iter-poster-iterator.result = ap (λ l. at.yielded ++ l) (sym steps) ∙ at.invariant.parts in
    let place = at.invariant.place in
    let early = within_parts at.yielded rest _ p at.place parts place in
    let dealt = ap length all in
    let counts : length c.args.posters.items ≡ length c.args.kits.now.items = c.requires in
    let kits = at.invariant.kits in
    let within : at.place < length at.kits.items = omega (arith, early, dealt, counts, kits) in
    let got : IsNewPoster p → Gets (badge_of p ∷ []) [] c.index_mut.result.now c.add_poster.new.self = c.in_ok-add_poster.ensures in
    record {
      parts = regrouped at.yielded _ _ _ p steps at.invariant.parts;
      long = let was = at.invariant.long in let gone = c.in-Some.ensures.steps.1 in let short = ap length steps in omega arith;
      place = let more = length-append at.yielded (p ∷ []) in omega (arith, more, place);
      kits = length-set at.kits.items at.place c.add_poster.new.self ∙ kits;
      dealt = posters_more at.place _ at.yielded rest p c.args.kits.now.items at.kits.items _ c.index_mut.result.now c.add_poster.new.self parts place within refl
          (subst (λ (x : Kit). IsNewPoster p → Gets (badge_of p ∷ []) [] x c.add_poster.new.self) c.index_mut.ensures.value got) at.invariant.dealt;
    }

pub returns : goal.returns
returns c =
    let at = c.loop-poster in
    let none = c.in-None.ensures.steps in
    let empty : into_iter_items at.poster-iterator ≡ [] = nil_from_length _ (sym at.invariant.long ∙ none.0) in
    let all : at.yielded ≡ c.args.posters.items = sym (append-nil at.yielded) ∙ (ap (λ l. at.yielded ++ l) (sym empty) ∙ (at.invariant.parts ∙ c.into_iter-poster-iterator.ensures.into_iter_gives.0)) in
    let place : at.place ≡ length c.args.kits.now.items = at.invariant.place ∙ (ap length all ∙ c.requires) in
    subst (λ l. DealsPosters l c.args.kits.now.items at.kits.items) c.into_iter-poster-iterator.ensures.into_iter_gives.0
    (posters_all at.place _ c.args.kits.now.items at.kits.items place at.invariant.dealt)
