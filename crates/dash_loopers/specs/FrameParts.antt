-- What the parts of a frame leave: its phases, one after another.
use Rattle.std.specs.Prelude.{◌≡◌, ◌<◌, ◌+◌, ℕ, Bool, true, false, List, drop, length, reverse, fold}
use Rattle.std.specs.List.{list_any, enumerate_from}
use mathlib.Core.List.{IsPrefix}
use Rattle.frame_phases.specs.declared.entry.FrameEntry.{FrameEntry}
use Rattle.frame_phases.specs.Frames.{lawful}
use Rattle.choreographer.specs.Frame.{begin_place}
use Rattle.choreographer.specs.Known.{SharedFrames, Pass, IfAlone}
use Rattle.dash_hall.specs.declared.host.Host.{Host}
use Rattle.run_model.specs.FrameRecords.{is_begin, phase_ids, frame_ids}
use Rattle.run_model.specs.Loopers.{callback_ran, phase_ran}
use Rattle.dash_loopers.specs.declared.view_root.ViewRoot.{ViewRoot}
use Rattle.dash_loopers.specs.Played.{KeepsLatest, HasSeenUpTo}
use Rattle.dash_loopers.specs.Places.{ShowsOn, ShowsFrameOn}
use Rattle.dash_loopers.specs.Steps.{IsStillInFrame}

-- the pass has seen all that it had, its latest pulse is the latest still, and where it alone delivers pulses it saw no other frame begin; and where the test is
-- of one moment alone and it had seen no later one, it has seen none later still
pub record GoesOnInFrame (is_moment : ℕ → Bool) (before after : Pass) : Type 0 where
  pub grew : IsPrefix before.view.seen after.view.seen
  pub latest : KeepsLatest before after
  pub none : IfAlone before (list_any is_begin (drop (length before.view.seen) after.view.seen) ≡ false)
  pub up_to : (t : ℕ) → ((n : ℕ) → is_moment n ≡ true → n ≡ t) → IfAlone before (HasSeenUpTo t before → HasSeenUpTo t after)

-- so it is, the phases below `count` of the frame in progress ran callbacks of these identities, by whatever the frame record comes to, and the next one is
-- next, where there is one
pub record RanPhases (interval phases : ℕ) (is_moment : ℕ → Bool) (count : ℕ) (before after : Pass) (ids : List (List ℕ)) : Type 0 where
  pub on : GoesOnInFrame is_moment before after
  pub each : length ids ≡ count
  pub ran : (fs : List FrameEntry) → IsPrefix after.view.seen fs → lawful interval phases fs ≡ true
      → frame_ids count fs (begin_place (reverse before.view.seen)) ≡ ids
  pub next : count < phases → IsStillInFrame phases count before after

-- the same of this one phase
pub record RanPhase (interval phases : ℕ) (is_moment : ℕ → Bool) (phase : ℕ) (before after : Pass) (ids : List ℕ) : Type 0 where
  pub on : GoesOnInFrame is_moment before after
  pub ran : (fs : List FrameEntry) → IsPrefix after.view.seen fs → lawful interval phases fs ≡ true
      → phase_ids fs (begin_place (reverse before.view.seen)) phase ≡ ids
  pub next : phase + 1 < phases → IsStillInFrame phases (phase + 1) before after

-- the callbacks of these identities ran, and the view root shows it
abbrev pub ShowsBatch : {R U : Type 0} → List ℕ → Host R U → Host R U → Pass → Pass → ViewRoot → ViewRoot → Type 0
ShowsBatch ids host host' pass pass' root root' = ShowsOn host host' (λ s q at a. fold (callback_ran s q at) a ids) pass pass' root root'

-- one phase was taken and ran, and the view root shows it
abbrev pub ShowsPhase : {R U : Type 0} → SharedFrames → (ℕ → Bool) → ℕ → Pass → Pass → Host R U → Host R U → ViewRoot → ViewRoot → Type 0
ShowsPhase c is_moment phase pass pass' host host' root root' = (ids : List ℕ)
    × RanPhase c.constants.interval c.constants.phases is_moment phase pass pass' ids
    × ShowsFrameOn is_moment host host' (λ s q at a. phase_ran s q at a (phase, ids)) pass pass' root root'

-- the phases below `count` were taken and ran, one after another, and the view root shows it
abbrev pub ShowsPhases : {R U : Type 0} → SharedFrames → (ℕ → Bool) → ℕ → Pass → Pass → Host R U → Host R U → ViewRoot → ViewRoot → Type 0
ShowsPhases c is_moment count pass pass' host host' root root' = (ids : List (List ℕ))
    × RanPhases c.constants.interval c.constants.phases is_moment count pass pass' ids
    × ShowsFrameOn is_moment host host' (λ s q at a. fold (phase_ran s q at) a (enumerate_from 0 ids)) pass pass' root root'
