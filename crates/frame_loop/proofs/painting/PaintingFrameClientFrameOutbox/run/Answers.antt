use Rattle.std.proofs.Common.{rules, refl}
use Rattle.frame_loop.proofs.Keeping.{paints}
use Rattle.frame_loop.proofs.painting.PaintingFrameClientFrameOutbox.run.Goals as goal

pub returns-in-Ok-clause-keeps : goal.returns-in-Ok-clause-keeps
returns-in-Ok-clause-keeps g c = record { serves = λ q s. paints _ _ c.draw.new.screen q c.draw.ensures.keeps refl refl refl s; own = search rules; host = search rules }

pub returns-in-Err-clause-keeps : goal.returns-in-Err-clause-keeps
returns-in-Err-clause-keeps g c = record { serves = λ q s. paints _ _ c.draw.new.screen q c.draw.ensures.keeps refl refl refl s; own = search rules; host = search rules }
