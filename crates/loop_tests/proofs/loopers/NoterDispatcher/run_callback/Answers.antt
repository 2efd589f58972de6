use Rattle.std.proofs.Common.{Some, refl, ap}
use Rattle.loop_tests.specs.declared.loopers.Noted.TheVariants as noted
use Rattle.looper_run.proofs.Asking.{same_kept}
use Rattle.looper_run.proofs.Keeping.{lent_nothing}
use Rattle.loop_tests.proofs.loopers.NoterDispatcher.run_callback.Goals as goal

pub returns-clause-keeps : goal.returns-clause-keeps
returns-clause-keeps c =
    lent_nothing _ _ _ _ _ _ c.args.own.now (λ w h. h) refl refl
    (ap Some (same_kept _ c.note.result c.args.self.now.calls.items c.note.new.self.calls.items (noted.Callback c.args.id c.args.now c.len-told.result) c.note.ensures.noted c.note.ensures.lost refl))
