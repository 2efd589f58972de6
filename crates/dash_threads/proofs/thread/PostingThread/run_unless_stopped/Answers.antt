use Rattle.std.proofs.Common.{ℕ, List, true≢false, sym, ap, ◌∙◌}
use Rattle.dash_threads.specs.Threads.{one_more_at}
use Rattle.dash_threads.proofs.ThreadRuns.{ok_is}
use Rattle.dash_threads.proofs.thread.PostingThread.run_unless_stopped.Goals as goal

pub returns-else-is_err-clause-made : goal.returns-else-is_err-clause-made
returns-else-is_err-clause-made g c = λ going. ok_is c.run.result _ (sym c.is_err.ensures.value ∙ c.if-is_err.false) c.run.ensures.made

pub returns-then-is_stopped-clause-nudges : goal.returns-then-is_stopped-clause-nudges
returns-then-is_stopped-clause-nudges g c = λ going. absurd (true≢false (sym c.if-is_stopped.true ∙ (c.is_stopped.ensures ∙ going)))

pub returns-then-is_err-clause-bells : goal.returns-then-is_err-clause-bells
returns-then-is_err-clause-bells g c = λ going. absurd (true≢false (sym c.give_up.ensures.gave_up ∙ going))

pub returns-then-is_err-clause-nudges : goal.returns-then-is_err-clause-nudges
returns-then-is_err-clause-nudges g c = λ look going up. c.give_up.ensures.rung ∙ ap (λ (rs : List ℕ). one_more_at 0 rs) c.run.ensures.works.bells

pub returns-else-is_err-clause-bells : goal.returns-else-is_err-clause-bells
returns-else-is_err-clause-bells g c = λ going. c.run.ensures.works.bells

pub returns-else-is_err-clause-nudges : goal.returns-else-is_err-clause-nudges
returns-else-is_err-clause-nudges g c = λ look going up. absurd (true≢false (sym up ∙ (c.run.ensures.works.goes ∙ going)))
