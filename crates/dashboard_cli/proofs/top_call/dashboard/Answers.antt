-- A command whose input is good stops for a fault or when out of memory alone, and none reads more than it may.
use Rattle.std.proofs.Common.{rules, ◌≡◌, ◌⊎◌, ◌∙◌, ap, sym, subst}
use Rattle.dashboard_cli.specs.declared.status.Status.{Status}
use Rattle.dashboard_cli.specs.declared.status.Status.TheVariants as status
use Rattle.dashboard_cli.specs.declared.top_call.Outcome.{Outcome}
use Rattle.dashboard_cli.specs.Words.{texts, IsAsked}
use Rattle.dashboard_cli.proofs.Completing.{all_stops, gives_up, told_rose}
use Rattle.dashboard_cli.proofs.top_call.dashboard.Goals as goal

pub returns-in-Err-produce-clause-within : goal.returns-in-Err-produce-clause-within
returns-in-Err-produce-clause-within g c = λ other.
    let asked : IsAsked (texts c.args.words.now) c.in-Ok-Some.command = search rules in
    let same : c.ended-in-Err-produce.result.status ≡ c.in-Err-produce.status = ap (λ (o : Outcome). o.status) c.ended-in-Err-produce.ensures in
    all_stops _ c.in-Ok-Some.command _ _ c.in-Err-produce.status asked c.in-Err-produce.ensures.stopped (λ is. other (same ∙ is))

pub returns-in-Err-produce-clause-complete : goal.returns-in-Err-produce-clause-complete
returns-in-Err-produce-clause-complete g c = λ _ good sound.
    let asked : IsAsked (texts c.args.words.now) c.in-Ok-Some.command = search rules in
    let same : c.ended-in-Err-produce.result.status ≡ c.in-Err-produce.status = ap (λ (o : Outcome). o.status) c.ended-in-Err-produce.ensures in
    subst (λ (s : Status). (s ≡ status.Ok) ⊎ (s ≡ status.NoMemory)) (sym same)
    (gives_up _ c.in-Ok-Some.command _ _ c.in-Err-produce.status asked c.in-Err-produce.ensures.stopped good
    (λ is. sound (told_rose c.in-Err-produce.status _ _ c.in-Err-produce.ensures.failed is)))
