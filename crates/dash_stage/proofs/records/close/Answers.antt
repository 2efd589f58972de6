use Rattle.std.proofs.Common.{◌≡◌, suc, ◌∷◌, length, ap, subst, arith}
use Rattle.std.specs.Vec.Iter.{into_iter_items}
use Rattle.dash_stage.specs.Ending.{AreOfPool}
use Rattle.dash_stage.proofs.records.close.Goals as goal

pub loop-kit-preserved : goal.loop-kit-preserved
loop-kit-preserved c =
    let at = c.loop-kit in
    let rest = into_iter_items c.next.new.self in
    let steps : into_iter_items at.kit-iterator ≡ c.in-Some.kit ∷ rest = c.in-Some.ensures.steps.0 in
    record {
      long = let was = at.invariant.long in let gone = c.in-Some.ensures.steps.1 in let short = ap length steps in omega arith;
      pass = c.join.ensures.0;
      kits = λ k d lt. let all : AreOfPool c.args.pool (c.in-Some.kit ∷ rest) = subst (λ l. AreOfPool c.args.pool l) steps at.invariant.kits in all (suc k) d (omega (arith, lt));
    }
