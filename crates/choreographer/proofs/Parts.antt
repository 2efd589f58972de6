-- The steps of a frame for a caller that takes the phases itself, and what may come between two of them.
use Rattle.std.proofs.Common.{◌≡◌, ℕ, Bool, true, false, Option, Some, List, [], ◌∷◌, ◌++◌, reverse, refl, sym, ap, ◌∙◌, subst, append-nil, append_assoc, All}
use Rattle.std.specs.Prelude.{◌/◌, nat_lt, if◌then◌else◌, Result, Ok, Err}
use Rattle.loop_model.specs.declared.memory.NoMemory.{NoMemory}
use Rattle.frame_phases.specs.declared.entry.Callback.{Callback}
use Rattle.frame_phases.specs.declared.entry.Beginning.{Beginning}
use Rattle.frame_phases.specs.declared.entry.Beginning.TheVariants as begin
use Rattle.frame_phases.specs.declared.entry.Took.{Took}
use Rattle.frame_phases.specs.declared.entry.Took.TheVariants as took
use Rattle.frame_phases.specs.declared.entry.Scheduling.{Scheduling}
use Rattle.frame_phases.specs.declared.entry.FrameEntry.{FrameEntry}
use Rattle.frame_phases.specs.declared.entry.FrameEntry.TheVariants.{Posted, Removed, Begin, Take, Ran}
use Rattle.frame_phases.specs.Frames.{next_phase, owed_callbacks, removed_count}
use Rattle.frame_phases.specs.Pulses.{pulse}
use Rattle.frame_phases.specs.State.{Frames, past, with_entry, next_callback}
use Rattle.frame_phases.proofs.History.{past-push}
use Rattle.frame_phases.specs.TakeOrder.{IsInOrder}
use Rattle.frame_phases.proofs.TakeOrder.{phases_take_in_order}
use Rattle.choreographer.specs.declared.state.StampedFrames.{StampedFrames}
use Rattle.choreographer.specs.declared.view.Constants.{Constants}
use Rattle.choreographer.specs.declared.view.Progress.{Progress}
use Rattle.choreographer.specs.Frame.{Batch, begin_place, progress, frame_after, IsQuiet, GrowsQuietly}
use Rattle.choreographer.specs.Known.{Pass, IsFrameTurn}
use Rattle.choreographer.specs.Steps.{known_by, posting_moment}
use Rattle.choreographer.specs.Calls.{BeginTurn, TakeTurn, RemovedBy, AskedBy, DueBy, with_post}
use Rattle.choreographer.specs.Within.{InFrame, IfBegan, StaysInFrame, TakenAt, PostTurn}
use Rattle.choreographer.proofs.Quiet.{grows_self, grows_trans, next_quiet, begin_quiet, progress_quiet}
use Rattle.choreographer.proofs.Phases.{has_frame, phase_ran, begun}

-- phase 0 is next where a frame began
pub began_in_frame : (key : Constants) (before after : Pass) (start : ℕ) (r : Beginning) → before.view.constants ≡ Some key → BeginTurn before after start r
    → IfBegan r (InFrame key.phases after (Some 0))
began_in_frame key before after start (begin.Began time) of t = begun key.phases t.0.stamp start time key before after t.0 t.1 refl of t.2 t.3.0 t.3.4
began_in_frame key before after start (begin.Running next) of t = tt
began_in_frame key before after start begin.Unscheduled of t = tt
began_in_frame key before after start (begin.Backwards last) of t = tt
began_in_frame key before after start begin.NoMemory of t = tt

-- ---- between two phases

-- quiet entries leave no callback that is taken and hasn't run
owed_quiet : (seen more : List FrameEntry) → IsQuiet more → owed_callbacks (reverse seen) ≡ [] → owed_callbacks (reverse (seen ++ more)) ≡ []
unfolding owed_callbacks
owed_quiet seen [] q none = ap (λ l. owed_callbacks (reverse l)) (append-nil seen) ∙ none
owed_quiet seen (Posted c ∷ more) q none =
    ap (λ l. owed_callbacks (reverse l)) (sym (append_assoc seen (Posted c ∷ []) more)) ∙ owed_quiet (seen ++ Posted c ∷ []) more q (ap owed_callbacks (past-push seen (Posted c)))
owed_quiet seen (Removed p i t n ∷ more) q none =
    ap (λ l. owed_callbacks (reverse l)) (sym (append_assoc seen (Removed p i t n ∷ []) more)) ∙ owed_quiet (seen ++ Removed p i t n ∷ []) more q (ap owed_callbacks (past-push seen (Removed p i t n)))
owed_quiet seen (Begin v s t ∷ more) q none = absurd q
owed_quiet seen (Take p n t ∷ more) q none = absurd q
owed_quiet seen (Ran n ∷ more) q none = absurd q

-- a turn that records quiet entries alone leaves a frame that its pass has in progress as it is
module _ (before after : Pass) (x y : StampedFrames) (turn : IsFrameTurn before after x y) (same : y.frames.phases ≡ x.frames.phases) (quietly : GrowsQuietly x.frames.entries y.frames.entries) where
  pub turn_still_in_frame : (phases next : ℕ) → InFrame phases before (Some next) → InFrame phases after (Some next) × (begin_place (reverse after.view.seen) ≡ begin_place (reverse before.view.seen))
  turn_still_in_frame phases next inside =
      let has = has_frame phases before next inside in
      let found = turn.begins.1 _ has in
      let more : GrowsQuietly before.view.seen after.view.seen =
      subst (GrowsQuietly before.view.seen) (sym turn.seen) (grows_trans before.view.seen x.frames.entries y.frames.entries found.1 quietly) in (
        record {
          own = turn.frame ∙ (ap (λ (o : Option Progress). frame_after o (progress y.frames.phases x.frames.entries) (progress y.frames.phases y.frames.entries)) has
              ∙ (ap (λ (n : ℕ). progress n y.frames.entries) same ∙ (progress_quiet x.frames.phases x.frames.entries y.frames.entries quietly
              ∙ (found.0 ∙ (sym has ∙ (inside.own ∙ sym (progress_quiet phases before.view.seen after.view.seen more)))))));
          is_next = next_quiet phases before.view.seen after.view.seen more ∙ inside.is_next;
          settled = ap (λ l. owed_callbacks (reverse l)) (sym more.1) ∙ owed_quiet before.view.seen more.0 more.2 inside.settled;
          left = (y, turn.left, sym turn.seen);
        },
        begin_quiet before.view.seen after.view.seen more,
      )

  pub turn_stays : (phases : ℕ) → StaysInFrame phases before after
  turn_stays phases next inside = (turn_still_in_frame phases next inside).0

-- what a posting leaves, but for what is scheduled
pub kept_if : {X : Type 0} (f : Frames → X) (t : Frames) (a b : Bool) (o : Option ℕ) → f (record t { scheduled = true; asked = o }) ≡ f t
    → f (if a then t else (if b then t else record t { scheduled = true; asked = o })) ≡ f t
kept_if f t true b o same = refl
kept_if f t false true o same = refl
kept_if f t false false o same = same

-- so does one that changes what is scheduled alone, and one that posts a callback
module _ (before after : Pass) (x y : StampedFrames) (turn : IsFrameTurn before after x y) where
  unchanged_stays : y.frames.phases ≡ x.frames.phases → y.frames.entries ≡ x.frames.entries → (phases : ℕ) → StaysInFrame phases before after
  unchanged_stays same is = turn_stays before after x y turn same (subst (GrowsQuietly x.frames.entries) (sym is) (grows_self x.frames.entries))

  post_stays : (phase due id : ℕ) (token : Option ℕ) (now : ℕ) → y ≡ with_post x phase due id token now → (phases : ℕ) → StaysInFrame phases before after
  post_stays phase due id token now is =
      let t = with_entry x.frames (Posted (next_callback x.frames phase due id token)) in
      let moment = posting_moment x due now in
      let late = nat_lt (moment / 1000000) due in
      let o : Option ℕ = Some (pulse x.frames.interval moment) in
      turn_stays before after x y turn (ap (λ (z : StampedFrames). z.frames.phases) is ∙ kept_if (λ (f : Frames). f.phases) t late x.frames.scheduled o refl)
      (Posted (next_callback x.frames phase due id token) ∷ [], sym (ap (λ (z : StampedFrames). z.frames.entries) is ∙ kept_if (λ (f : Frames). f.entries) t late x.frames.scheduled o refl), tt)

pub posted_stays : (phases : ℕ) (before after : Pass) (phase due id : ℕ) (token : Option ℕ) (now : ℕ) (r : Result Scheduling NoMemory) → PostTurn before after phase due id token now r → StaysInFrame phases before after
posted_stays phases before after phase due id token now (Ok s) (x, y, turn, tells, left, kept) = post_stays before after x y turn phase due id token now left phases
posted_stays phases before after phase due id token now (Err e) (x, y, turn, tells, left, kept) =
    unchanged_stays before after x y turn (ap (λ (z : StampedFrames). z.frames.phases) kept) (ap (λ (z : StampedFrames). z.frames.entries) kept) phases

pub removed_stays : (phases : ℕ) (before after : Pass) (phase id : ℕ) (token : Option ℕ) (r : Result ℕ NoMemory) → RemovedBy before after phase id token r → StaysInFrame phases before after
removed_stays phases before after phase id token (Ok n) (x, y, turn, count, left, kept) =
    turn_stays before after x y turn (ap (λ (z : StampedFrames). z.frames.phases) left)
    (Removed phase id token (removed_count (past x.frames) phase id token) ∷ [], sym (ap (λ (z : StampedFrames). z.frames.entries) left), tt) phases
removed_stays phases before after phase id token (Err e) (x, y, turn, count, left, kept) =
    unchanged_stays before after x y turn (ap (λ (z : StampedFrames). z.frames.phases) kept) (ap (λ (z : StampedFrames). z.frames.entries) kept) phases

pub asked_stays : (phases : ℕ) (before after : Pass) (r : Option ℕ) → AskedBy before after r → StaysInFrame phases before after
asked_stays phases before after r (x, turn, is) = unchanged_stays before after x x turn refl refl phases

pub due_stays : (phases : ℕ) (before after : Pass) (is_moment : ℕ → Bool) (phase : ℕ) (r : Bool) → DueBy before after is_moment phase r → StaysInFrame phases before after
due_stays phases before after is_moment phase true (now, moment, (x, y, turn, is, left)) =
    let o : Option ℕ = Some (pulse x.frames.interval (known_by x now)) in
    unchanged_stays before after x y turn (ap (λ (z : StampedFrames). z.frames.phases) left ∙ kept_if (λ (f : Frames). f.phases) x.frames false x.frames.scheduled o refl)
    (ap (λ (z : StampedFrames). z.frames.entries) left ∙ kept_if (λ (f : Frames). f.entries) x.frames false x.frames.scheduled o refl) phases
due_stays phases before after is_moment phase false (now, moment, (x, y, turn, is, left)) =
    unchanged_stays before after x y turn (ap (λ (z : StampedFrames). z.frames.phases) left) (ap (λ (z : StampedFrames). z.frames.entries) left) phases

-- ---- a phase is taken

-- the phase that is next is taken, or memory is wanting
pub taken_at : (is_moment : ℕ → Bool) (key : Constants) (phase now : ℕ) (before after : Pass) (r : Took) → before.view.constants ≡ Some key
    → InFrame key.phases before (Some phase) → is_moment now ≡ true → TakeTurn before after phase now r → TakenAt is_moment key.phases phase before after r
taken_at is_moment key phase now before after (took.Batch time cs) of inside is t =
    let x = t.0 in
    let mine = subst (λ (l : List Callback). All (λ d. d.phase ≡ phase) l × IsInOrder l) (sym t.3.1)
    (phases_take_in_order x.frames.interval x.frames.phases phase now x.frames.entries t.5) in (
      record { now = now; time = time; callbacks = cs },
      refl,
      refl,
      (
        (is, mine.0, mine.1),
        phase_ran key.phases phase now time cs key before after x t.1 refl of inside t.2 (ap (λ (f : Frames). f.entries) t.3.3)
            (record { now = now; time = time; callbacks = cs }) refl (ap (λ (l : List Callback). record { now = now; time = time; callbacks = l }) t.3.1),
        t,
      ),
    )
taken_at is_moment key phase now before after (took.Elsewhere next) of inside is t =
    let x = t.0 in
    t.3.1 (t.3.0 ∙ (ap (λ (n : ℕ). next_phase n (reverse x.frames.entries)) (t.2.of_constants key of).0.2
    ∙ (next_quiet key.phases before.view.seen x.frames.entries (t.2.begins.1 _ (has_frame key.phases before phase inside)).1 ∙ inside.is_next)))
taken_at is_moment key phase now before after took.NoMemory of inside is t =
    (now, is, t, unchanged_stays before after t.0 t.1 t.2 (ap (λ (f : Frames). f.phases) t.3.1) (ap (λ (f : Frames). f.entries) t.3.1) key.phases phase inside)
