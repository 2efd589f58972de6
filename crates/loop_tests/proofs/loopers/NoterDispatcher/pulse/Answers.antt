use Rattle.std.proofs.Common.{Some, [], ◌∷◌, refl, ap, ◌∙◌}
use Rattle.std.specs.List.{filter_map}
use Rattle.std.proofs.lemmas.List.Elements.{filter_map-append}
use Rattle.loop_tests.specs.declared.loopers.Noted.TheVariants as noted
use Rattle.looper_run.proofs.Asking.{unless_weaker}
use Rattle.looper_run.proofs.Keeping.{lent_nothing}
use Rattle.loop_tests.proofs.loopers.NoterDispatcher.pulse.Goals as goal

pub returns-clause-keeps : goal.returns-clause-keeps
returns-clause-keeps c = lent_nothing _ _ _ _ _ _ c.args.own.now (λ w h. h) refl refl refl

pub returns-clause-asked : goal.returns-clause-asked
returns-clause-asked c = unless_weaker _ _ c.note.result (λ e. ap Some (ap (filter_map _) e ∙ filter_map-append _ c.args.self.now.calls.items (noted.Pulse c.args.now ∷ []))) c.note.ensures.noted
