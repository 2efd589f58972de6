use Rattle.std.proofs.Common.{◌≡◌, true, false, inr, sym, ap, ◌∙◌}
use Rattle.std.proofs.lemmas.Bool.{or_left}
use Rattle.dash_loopers.specs.declared.looper.StageLooper.{StageLooper}
use Rattle.looper_run.specs.Round.{is_ended}
use Rattle.dash_stage.proofs.side.fn.run_loopers.for_each_mut.Goals as goal

pub returns-then-has : goal.returns-then-has
returns-then-has g c =
    let ran = c.run_round.ensures in (
      ran.still.looper,
      ran.still.number,
      λ ended. ap (λ (z : StageLooper). is_ended z.last) (ran.round.stopped (or_left _ _ ended)) ∙ ended,
      λ turn. ran.waits,
      λ turn. ran.round,
      λ other. let wrong : true ≡ false = sym c.if-has.true ∙ (c.has.ensures ∙ other) in cc,
      inr (ran.round, ran.plays),
    )
