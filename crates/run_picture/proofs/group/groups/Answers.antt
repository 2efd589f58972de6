use Rattle.std.proofs.Common.{IsPermutation, subst, sym, ◌∙◌}
use Rattle.std.proofs.lemmas.Result.{IfOk-weaker}
use Rattle.run_picture.specs.Groups.{KeepOrder}
use Rattle.run_picture.proofs.group.groups.Goals as goal

pub returns-clause-all : goal.returns-clause-all
returns-clause-all c =
    IfOk-weaker c.cut.result _ _ (λ found h. subst (λ ms. IsPermutation c.args.marks.items ms) (sym (h.all ∙ c.deref.ensures.value)) c.in_ok-marks.ensures.all) c.cut.ensures

pub returns-clause-places : goal.returns-clause-places
returns-clause-places c = IfOk-weaker c.cut.result _ _ (λ found h. h.places) c.cut.ensures

pub returns-clause-marked : goal.returns-clause-marked
returns-clause-marked c = IfOk-weaker c.cut.result _ _ (λ found h. h.marked) c.cut.ensures

pub returns-clause-rising : goal.returns-clause-rising
returns-clause-rising c = IfOk-weaker c.cut.result _ _ (λ found h. h.rising) c.cut.ensures

pub returns-clause-ordered : goal.returns-clause-ordered
returns-clause-ordered c =
    IfOk-weaker c.cut.result _ _ (λ found h. subst (KeepOrder c.args.scale c.args.marks.items) (sym (h.all ∙ c.deref.ensures.value)) c.in_ok-marks.ensures.stable) c.cut.ensures
