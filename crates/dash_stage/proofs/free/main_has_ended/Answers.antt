use Rattle.std.proofs.Common.{sym, ap, ◌∙◌}
use Rattle.std.proofs.lemmas.List.{get_or_read}
use Rattle.looper_run.specs.Round.{is_ended}
use Rattle.dash_loopers.specs.declared.looper.StageLooper.{StageLooper}
use Rattle.dash_stage.proofs.free.main_has_ended.Goals as goal

pub returns : goal.returns
returns c = λ d.
    ap (λ (z : StageLooper). is_ended z.last) (sym (get_or_read c.args.loopers.now 0 c.index-loopers-0.result c.requires.some c.index-loopers-0.is d)) ∙ sym c.has_ended.ensures
