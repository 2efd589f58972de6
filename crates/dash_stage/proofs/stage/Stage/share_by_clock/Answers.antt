use Rattle.std.proofs.Common.{false}
use Rattle.dash_stage.proofs.Sharing.{stage_in_its_mode}
use Rattle.dash_stage.proofs.stage.Stage.share_by_clock.Goals as goal

pub share_each-requires : goal.share_each-requires
share_each-requires c = record { stage = stage_in_its_mode c.args.script.now c.args.self.now c.requires.stage }

pub returns-clause-stage : goal.returns-clause-stage
returns-clause-stage c = c.share_each.ensures.stage false c.requires.stage
