-- Words that the parser refuses, or reads as another command, are none of the spellings.
use Rattle.std.proofs.Common.{rules, ◌≡◌, ◌∙◌, sym, Some, None}
use Rattle.std.proofs.lemmas.Result.{IfOk-weaker}
use Rattle.dashboard_cli.proofs.CommandLineLemmas.{if_none, not_listed, other_spelled, reads_listed}
use Rattle.dashboard_cli.proofs.words.read_words.Goals as goal

pub returns-in-Err-clause-none : goal.returns-in-Err-clause-none
returns-in-Err-clause-none c = IfOk-weaker c.refused.result _ _
    (λ found h. if_none found h.0 (not_listed _ _ _ c.in_ok-line.ensures c.in-Err.ensures.passes h.1))
    c.refused.ensures

pub returns-in_default-clause-none : goal.returns-in_default-clause-none
returns-in_default-clause-none c = reads_listed _ _ _ c.command_found.result c.in_ok-line.ensures
    (λ simple. (c.in-Ok.ensures.matches simple).1) c.command_found.ensures (λ command is spelled. let bad : None ≡ Some command = sym c.in_default.is ∙ is in absurd (cc))

pub returns-clause-none : goal.returns-clause-none
returns-clause-none c = reads_listed _ _ _ c.command_found.result c.in_ok-line.ensures
    (λ simple. (c.in-Ok.ensures.matches simple).1) c.command_found.ensures
    (λ command is. other_spelled c.command_found.result c.in-Some.command command _ c.in-Some.is is (λ spelled. search rules))
