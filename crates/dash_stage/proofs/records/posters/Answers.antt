use Rattle.std.proofs.Common.{rules, ◌≡◌, ◌<◌, [], ◌∷◌, ◌++◌, length, refl, ap, subst, arith, length-append}
use Rattle.dash_hall.specs.declared.kit.Kit.{Kit}
use Rattle.dash_hall.specs.Dealing.{GivesPoster}
use Rattle.dash_stage.proofs.Ends.HallEnds.{gave_more}
use Rattle.dash_stage.proofs.records.posters.Goals as goal

pub loop-place-preserved : goal.loop-place-preserved
loop-place-preserved c =
    let at = c.loop-place in
    let p = c.next_poster.result in
    let items : c.push.new.self.items ≡ at.posters.items ++ p ∷ [] = c.in_ok-push.ensures.items in
    let count = at.invariant.count in
    let within : at.place < length at.kits.items = search rules in
    record {
      count = let all = ap length items in let more = length-append at.posters.items (p ∷ []) in omega (arith, all, more, count);
      gave = gave_more at.place c.args.kits.now.items at.posters.items _ p at.kits.items _ c.index_mut.result.now c.next_poster.new.self count within items refl
          (subst (λ (x : Kit). GivesPoster x p c.next_poster.new.self) c.index_mut.ensures.value c.next_poster.ensures) at.invariant.gave;
    }
