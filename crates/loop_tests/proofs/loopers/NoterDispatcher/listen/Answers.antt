use Rattle.std.proofs.Common.{Some, [], ◌∷◌, ap, ◌∙◌}
use Rattle.std.specs.List.{filter_map}
use Rattle.std.proofs.lemmas.List.Elements.{filter_map-append}
use Rattle.loop_tests.specs.declared.loopers.Noted.TheVariants as noted
use Rattle.loop_tests.proofs.loopers.NoterDispatcher.listen.Goals as goal

pub returns-in-Yes-clause-asked : goal.returns-in-Yes-clause-asked
returns-in-Yes-clause-asked c = ap Some (ap (filter_map _) c.in-Yes.ensures.noted ∙ filter_map-append _ c.args.self.now.calls.items (noted.Listen c.args.fd c.args.events c.args.listener c.min-mask.result ∷ []))

pub returns-in-No-clause-asked : goal.returns-in-No-clause-asked
returns-in-No-clause-asked c = ap Some (ap (filter_map _) c.in-No.ensures.noted ∙ filter_map-append _ c.args.self.now.calls.items (noted.Listen c.args.fd c.args.events c.args.listener c.min-mask.result ∷ []))
