use Rattle.std.proofs.Common.{◌∙◌, ap}
use Rattle.dash_stage.specs.Controllers.{parts_in}
use Rattle.dash_stage.proofs.Sharing.{nothing_more}
use Rattle.dash_stage.proofs.opening.nothing_sealed.Goals as goal

pub loop-looper-preserved : goal.loop-looper-preserved
loop-looper-preserved g c =
    ap parts_in c.in_ok-push.ensures.items ∙ nothing_more c.loop-looper.looper c.loop-looper.sealed.items c.new.result c.loop-looper.invariant c.new.ensures.items
