use Rattle.std.proofs.Common.{◌≡◌, ℕ, Bool, true, false, arith, ap, ◌∙◌, refl}
use Rattle.std.specs.Prelude.{if◌then◌else◌, Some}
use Rattle.frame_phases.specs.Pulses.{pulse}
use Rattle.frame_phases.specs.State.{Frames, scheduled_at}
use Rattle.model_tests.proofs.frames.late_frames_are_moved_up_by_whole_intervals.Goals as goal

-- a frame that is scheduled leaves the number of phases
same_phases : (s : Frames) (now : ℕ) → (scheduled_at s now).phases ≡ s.phases
same_phases s now = either s.scheduled where
  either : (t : Bool) → (if t then s else record s { scheduled = true; asked = Some (pulse s.interval now) }).phases ≡ s.phases
  either true = refl
  either false = refl

scheduled_phases : (s t : Frames) (now : ℕ) → t ≡ scheduled_at s now → t.phases ≡ s.phases
scheduled_phases s t now is = ap (λ (f : Frames). f.phases) is ∙ same_phases s now

pub take_empty-requires-2 : goal.take_empty-requires-2
take_empty-requires-2 g c =
    let first = scheduled_phases c.begin_frame.new.self c.schedule.new.self 95 c.schedule.ensures.after in
    let again = scheduled_phases c.schedule.new.self c.schedule-2.new.self 95 c.schedule-2.ensures.after in
    let later = scheduled_phases c.take.new.self c.schedule-3.new.self 100 c.schedule-3.ensures.after in
    let four : c.post.new.self.phases ≡ 4 =
    c.post.ensures.phases ∙ c.take-2.ensures.phases ∙ c.begin_frame-5.ensures.phases ∙ c.begin_frame-4.ensures.phases ∙ c.begin_frame-3.ensures.phases ∙ later ∙ c.take.ensures.phases
    ∙ c.take_empty.ensures ∙ c.begin_frame-2.ensures.phases ∙ again ∙ first ∙ c.begin_frame.ensures.phases ∙ ap (λ (f : Frames). f.phases) c.in_ok-frames.ensures in
    omega (arith, four)

pub take-requires-3 : goal.take-requires-3
take-requires-3 g c =
    let first = scheduled_phases c.begin_frame.new.self c.schedule.new.self 95 c.schedule.ensures.after in
    let again = scheduled_phases c.schedule.new.self c.schedule-2.new.self 95 c.schedule-2.ensures.after in
    let later = scheduled_phases c.take.new.self c.schedule-3.new.self 100 c.schedule-3.ensures.after in
    let four : c.take_empty-2.new.frames.phases ≡ 4 =
    c.take_empty-2.ensures ∙ c.post.ensures.phases ∙ c.take-2.ensures.phases ∙ c.begin_frame-5.ensures.phases ∙ c.begin_frame-4.ensures.phases ∙ c.begin_frame-3.ensures.phases ∙ later ∙ c.take.ensures.phases
    ∙ c.take_empty.ensures ∙ c.begin_frame-2.ensures.phases ∙ again ∙ first ∙ c.begin_frame.ensures.phases ∙ ap (λ (f : Frames). f.phases) c.in_ok-frames.ensures in
    omega (arith, four)
