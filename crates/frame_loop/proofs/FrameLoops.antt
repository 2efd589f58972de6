-- A loop of a looper with frames behind others.
use Rattle.std.proofs.Common.{◌≡◌, ℕ, suc, Bool, false, Option, subst}
use Rattle.loop_model.specs.Answers.{Setting}
use Rattle.looper_run.specs.Holding.{Looping}
use Rattle.choreographer.specs.Known.{Pass}
use Rattle.plain_loop.specs.Looping.{EndsOrLetsGo}
use Rattle.frame_loop.specs.FrameLooping.{AsksPulse, DropsFrames, FramesTimes}

module _ (keeps : Bool) (shows : ℕ → Bool) (s : Setting) (n : ℕ) (a b d : Looping) (p q asked : Pass) (until : Option ℕ) (over : Bool) where
  -- a loop more, which did not end the looper
  pub frames_more : (ran r : Pass) → over ≡ false → FramesTimes keeps shows s n a p b q → AsksPulse q asked until → EndsOrLetsGo keeps shows s until over b d → DropsFrames ran r
      → FramesTimes keeps shows s (suc n) a p d r
  frames_more ran r going times asks once drops = (b, q, times, (asked, until, asks, subst (λ (o : Bool). EndsOrLetsGo keeps shows s until o b d) going once, ran, drops))
