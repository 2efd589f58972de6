-- What a looper with frames does again and again.
use Rattle.std.specs.Prelude.{◌≡◌, ℕ, zero, suc, ◌+◌, ◌/◌, ◌%◌, min, Bool, List, Option, Some, Ok}
use Rattle.std.specs.Option.{option_map}
use Rattle.frame_phases.specs.declared.entry.FrameEntry.{FrameEntry}
use Rattle.loop_model.specs.Answers.{Setting}
use Rattle.looper_run.specs.declared.by_clock.Loop.TheVariants as loop
use Rattle.looper_run.specs.Holding.{Looping}
use Rattle.choreographer.specs.Known.{Pass}
use Rattle.choreographer.specs.Calls.{AskedBy, SealedBy}
use Rattle.plain_loop.specs.Looping.{LoopsOnce, LoopsAndLetsGo}

-- a pulse in milliseconds, rounded up
abbrev pub pulse_millis : ℕ → ℕ
pulse_millis nanos = nanos / 1000000 + min 1 (nanos % 1000000)

-- the choreographer answered which pulse is asked for, and this is its moment
abbrev pub AsksPulse : Pass → Pass → Option ℕ → Type 0
AsksPulse before after until = (pulse : Option ℕ) × AskedBy before after pulse × (until ≡ option_map pulse_millis pulse)

-- the choreographer's entries that were not dropped before were dropped
abbrev pub DropsFrames : Pass → Pass → Type 0
DropsFrames before after = (part : List FrameEntry) × SealedBy before after (Ok part)

module _ (keeps : Bool) (shows : ℕ → Bool) (s : Setting) where
  -- a loop until the pulse that is asked for at the latest, behind which the looper let its records go, and then its choreographer's
  abbrev pub FramesOnce : Looping → Pass → Looping → Pass → Type 0
  FramesOnce before pass after pass' = (asked : Pass) × (until : Option ℕ) × AsksPulse pass asked until
      × LoopsAndLetsGo keeps shows s until before after × (ran : Pass) × DropsFrames ran pass'

  -- so many of these, one behind another
  abbrev pub FramesTimes : ℕ → Looping → Pass → Looping → Pass → Type 0
  FramesTimes zero before pass after pass' = (after ≡ before) × (pass' ≡ pass)
  FramesTimes (suc n) before pass after pass' =
      (between : Looping) × (kept : Pass) × FramesTimes n before pass between kept × FramesOnce between kept after pass'

  -- so many of these, and then a loop until the pulse that is asked for, which ended the looper
  abbrev pub FramesToItsEnd : Looping → Looping → Type 0
  FramesToItsEnd before after = (pass : Pass) × (n : ℕ) × (last : Looping) × (kept : Pass) × FramesTimes n before pass last kept
      × (asked : Pass) × (until : Option ℕ) × AsksPulse kept asked until × LoopsOnce keeps shows s until (Some loop.Ended) last after
