use Rattle.std.proofs.Common.{ℕ, List, sym, ap, ◌∙◌}
use Rattle.dash_threads.specs.Threads.{more_for, looper_woken}
use Rattle.dash_threads.proofs.ThreadShares.{up_to_still}
use Rattle.dash_threads.proofs.thread.PostingThread.run_at.Goals as goal

pub returns-clause-made : goal.returns-clause-made
returns-clause-made g c = λ going m time mode allowed past rest are up. (
    let kept = c.nudge_for.ensures.kept in
    up_to_still m c.args.script.now _ _ c.nudge_for.new.self kept (c.run_unless_stopped.ensures.made (sym kept.gave_up ∙ going) m time mode allowed past rest are up))

pub returns-clause-rung : goal.returns-clause-rung
returns-clause-rung g c = λ going.
    c.nudge_for.ensures.rung ∙ ap (λ (rs : List ℕ). more_for (looper_woken c.args.timed.command) rs) (c.run_unless_stopped.ensures.bells (sym c.nudge_for.ensures.kept.gave_up ∙ going))
