use Rattle.std.proofs.Common.{◌∙◌, sym, ap, map, subst}
use Rattle.dash_script.specs.FromEdition.{block_from}
use Rattle.dash_script.specs.Reading.{HasText}
use Rattle.dash_script.proofs.Migrating.{migrated, up_has_text}
use Rattle.dash_script.proofs.edition.migrate.Goals as goal

pub returns-clause-up : goal.returns-clause-up
returns-clause-up c =
    let s = c.args.script.now in
    let handlers = c.in_ok-copied.ensures ∙ c.as_slice.ensures in
    let gauges = c.in_ok-copied-2.ensures ∙ c.as_slice-2.ensures in
    let rules = c.in_ok-copied-3.ensures ∙ c.as_slice-3.ensures in
    let blocks = c.in_ok-blocks_from.ensures ∙ ap (map (block_from s.edition)) c.as_slice-4.ensures in
    migrated s _ (λ i. record { edition = 2; loopers = s.loopers; threads = s.threads; handlers = handlers i; gauges = gauges i; period = s.period; rules = rules i; blocks = blocks i; end = s.end })

pub returns-clause-text : goal.returns-clause-text
returns-clause-text c = λ text. subst HasText (sym (returns-clause-up c)) (up_has_text c.args.script.now text)
