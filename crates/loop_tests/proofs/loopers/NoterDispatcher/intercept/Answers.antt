use Rattle.std.proofs.Common.{Some, refl, ap}
use Rattle.loop_tests.specs.declared.loopers.Noted.TheVariants as noted
use Rattle.looper_run.proofs.Asking.{same_kept}
use Rattle.looper_run.proofs.Keeping.{lent_nothing}
use Rattle.loop_tests.proofs.loopers.NoterDispatcher.intercept.Goals as goal

pub returns-then-eq-clause-keeps : goal.returns-then-eq-clause-keeps
returns-then-eq-clause-keeps c =
    lent_nothing _ _ _ _ _ _ c.args.own.now (λ w h. h) refl refl
    (ap Some (same_kept _ c.note.result c.args.self.now.calls.items c.note.new.self.calls.items (noted.Intercept c.what-what.result c.args.now c.len-told.result) c.note.ensures.noted c.note.ensures.lost refl))

pub returns-then-what-eq2-clause-keeps : goal.returns-then-what-eq2-clause-keeps
returns-then-what-eq2-clause-keeps c =
    lent_nothing _ _ _ _ _ _ c.args.own.now (λ w h. h) refl refl
    (ap Some (same_kept _ c.note.result c.args.self.now.calls.items c.note.new.self.calls.items (noted.Intercept c.what-what.result c.args.now c.len-told.result) c.note.ensures.noted c.note.ensures.lost refl))

pub returns-else-what-eq2-clause-keeps : goal.returns-else-what-eq2-clause-keeps
returns-else-what-eq2-clause-keeps c =
    lent_nothing _ _ _ _ _ _ c.args.own.now (λ w h. h) refl refl
    (ap Some (same_kept _ c.note.result c.args.self.now.calls.items c.note.new.self.calls.items (noted.Intercept c.what-what.result c.args.now c.len-told.result) c.note.ensures.noted c.note.ensures.lost refl))
