-- What a pass may do that alone delivers the pulses of its choreographer, and what one that hears has handed out.
use Rattle.std.proofs.Common.{◌≡◌, ◌≢◌, List, Option, Some, sym, ap, ◌∙◌, subst}
use mathlib.Core.List.{IsPrefix}
use Rattle.loop_model.proofs.Prefixes.{prefix_trans}
use Rattle.frame_phases.specs.declared.entry.FrameEntry.{FrameEntry}
use Rattle.choreographer.specs.declared.state.StampedFrames.{StampedFrames}
use Rattle.choreographer.specs.declared.hosted.Pulse.{Pulse}
use Rattle.choreographer.specs.declared.frame.Framed.{Framed}
use Rattle.choreographer.specs.declared.frame.Framed.TheVariants.{Unscheduled}
use Rattle.choreographer.specs.Known.{SharedFrames, Pass, IsPassOf, MayDeliver, MayBegin, IsFrameTurn, HasOnlyHeard}
use Rattle.choreographer.specs.Calls.{AwaitsBy, stamp_in}
use Rattle.choreographer.specs.Done.{EndsWait}
use Rattle.choreographer.specs.Ends.{HasHandedOut}

-- it may deliver them
pub alone_delivers : (p : Pass) (q : SharedFrames) → q.constants.pulses ≡ Some p.number → MayDeliver p q
alone_delivers p q named = λ n e. let both : Some p.number ≡ Some n = sym named ∙ e in cc (both)

-- and it may begin the frame of a pulse that came
pub alone_begins : (q : SharedFrames) (before after : Pass) (came : Option Pulse) (pulse : Pulse) → IsPassOf before q → q.constants.pulses ≡ Some before.number → after.number ≡ before.number → came ≡ Some pulse
    → AwaitsBy before after (stamp_in came) → MayBegin after q
alone_begins q before after came pulse of_it named same is awaits = (
  alone_delivers after q (named ∙ ap Some (sym same)),
  λ c e n. (subst (λ o. AwaitsBy before after (stamp_in o)) is awaits q.constants of_it.1 named).1,
)

-- so that frame is scheduled
pub alone_scheduled : (q : SharedFrames) (before middle after : Pass) (x y : StampedFrames) (result : Framed) → IsPassOf before q → q.constants.pulses ≡ Some before.number → IsFrameTurn before middle x y
    → EndsWait middle after result → result ≢ Unscheduled
alone_scheduled q before middle after x y result of_it named turn ends = λ is.
    subst (EndsWait middle after) is ends q.constants (turn.constants ∙ of_it.1) (named ∙ ap Some (sym turn.number))

-- what a pass has handed out stays as it hears another
pub hears_same : (before after : Pass) (entries : List FrameEntry) → HasOnlyHeard before after → IsPrefix before.view.seen after.view.seen → HasHandedOut before entries
    → HasHandedOut after entries
hears_same before after entries only grows out = (out.0 ∙ sym only.handed, prefix_trans entries before.view.seen after.view.seen out.1 grows)
