-- The stamp of the latest pulse, from turn to turn of the pass that alone delivers them.
use Rattle.std.proofs.Common.{◌≡◌, ℕ, Bool, true, false, Option, Some, None, refl, sym, ap, ◌∙◌, subst, arith}
use Rattle.std.specs.Prelude.{if◌then◌else◌, cond, is_some, ◌||◌, ◌&&◌}
use Rattle.frame_phases.specs.State.{scheduled_at}
use Rattle.frame_phases.specs.Pulses.{comes_after_if_any}
use Rattle.choreographer.specs.declared.state.StampedFrames.{StampedFrames}
use Rattle.choreographer.specs.Steps.{known_by}
use Rattle.choreographer.specs.Known.{Pass, IsFrameTurn, SeesQuietly}
use Rattle.choreographer.proofs.InTime.{later_quietly}
use Rattle.choreographer.specs.Calls.{latest_stamp, GetsStamp, ComesAfter, DueBy, AwaitsBy, KnowsPulse, stamp_in}
use Rattle.dash_hall.specs.Kits.{FrameBadge, frame_badge_of}
use Rattle.dash_hall.proofs.Badges.{frame_turn_badge}
use Rattle.dash_loopers.specs.Played.{KeepsLatest, GetsLatest, ComesLater, HasLatest, RunsInTime}
use Rattle.choreographer.specs.Turn.{awaits_frame}
use Rattle.dash_loopers.specs.declared.player.Parts.{Parts}
use Rattle.dash_loopers.specs.Loopers.{MayAwait}
use Rattle.choreographer.proofs.Waits.{due_waits}
use Rattle.choreographer.specs.declared.hosted.Pulse.{Pulse}

-- where there is 1 just where a frame is to begin, and there is none, no frame is
one_or_none : (b : Bool) (n : ℕ) → n ≡ cond b 1 0 → n ≡ 0 → b ≡ false
one_or_none true n one none = absurd (omega (arith, one, none))
one_or_none false n one none = refl

-- the same pass, with a stamp and a frame that is to begin, or none
pub latest_by : (before after : Pass) (stamp : ℕ) (awaits : Bool) (has : HasLatest before stamp awaits) (stamp' : ℕ) (awaits' : Bool) → frame_badge_of after ≡ frame_badge_of before → after.view.stamp ≡ stamp' → after.view.awaits ≡ cond awaits' 1 0
    → HasLatest after stamp' awaits'
latest_by before after stamp awaits has stamp' awaits' badge is waits = record {
  key = has.key;
  constants = ap (λ (b : FrameBadge). b.constants) badge ∙ has.constants;
  alone = has.alone ∙ ap Some (sym (ap (λ (b : FrameBadge). b.number) badge));
  has = is;
  waits = waits;
}

-- the same pass, with the pulse that came, or its own
pub gets_latest : (before after : Pass) (came : Option ℕ) → frame_badge_of after ≡ frame_badge_of before → GetsStamp before after came → AwaitsBy before after came → GetsLatest before after came
gets_latest before after came badge gets awaits stamp waits has =
    latest_by before after stamp waits has (latest_stamp came stamp) (is_some came || waits) badge (gets has.key has.constants has.alone ∙ ap (latest_stamp came) has.has) (by_came came (awaits has.key has.constants has.alone))
  where
    by_came : (o : Option ℕ) → KnowsPulse before after o → after.view.awaits ≡ cond (is_some o || waits) 1 0
    by_came None knows = knows ∙ has.waits
    by_came (Some n) knows = knows.1

-- the pulse that came, where one did, comes after the latest, whose frame was not to begin any more
pub comes_later : (before after : Pass) (came : Option ℕ) → ComesAfter before came → AwaitsBy before after came → ComesLater before came
comes_later before after came comes awaits stamp waits has = (
  subst (λ (n : ℕ). comes_after_if_any n came ≡ true) has.has (comes has.key has.constants has.alone),
  by_came came (awaits has.key has.constants has.alone),
)
  where
    by_came : (o : Option ℕ) → KnowsPulse before after o → (is_some o && waits) ≡ false
    by_came None knows = refl
    by_came (Some n) knows = one_or_none waits before.view.awaits has.waits knows.0

-- a turn that leaves the stamp that it found, and whether a frame is to begin
pub turn_keeps_latest : (before after : Pass) (x y : StampedFrames) → IsFrameTurn before after x y → y.stamp ≡ x.stamp → awaits_frame y ≡ awaits_frame x → KeepsLatest before after
turn_keeps_latest before after x y turn same still stamp waits has =
    let s = turn.stamp has.key has.constants has.alone in
    let w = turn.awaits has.key has.constants has.alone in
    latest_by before after stamp waits has stamp waits (frame_turn_badge before after x y turn) (s.1 ∙ (same ∙ (s.0 ∙ has.has))) (w.1 ∙ (still ∙ (w.0 ∙ has.waits)))

-- a turn that schedules a frame where one is wanted
pub due_keeps_latest : (before after : Pass) (is_moment : ℕ → Bool) (phase : ℕ) (result : Bool) → DueBy before after is_moment phase result → KeepsLatest before after
due_keeps_latest before after is_moment phase result (now, moment, (x, y, turn, is, left)) =
    turn_keeps_latest before after x y turn (ap (λ (z : StampedFrames). z.stamp) left ∙ by_result result) (due_waits x y now result left).awaits
  where
    by_result : (b : Bool) → (if b then record x { frames = scheduled_at x.frames (known_by x now) } else x).stamp ≡ x.stamp
    by_result true = refl
    by_result false = refl

-- one that saw postings and removals alone, and left what is to begin, began no frame
pub still_in_time : (is_moment : ℕ → Bool) (before after : Pass) → KeepsLatest before after → SeesQuietly before after → RunsInTime is_moment before after None
still_in_time is_moment before after keeps quiet t stamp waits only has up_to = (
  later_quietly t before.view.seen after.view.seen (quiet has.key has.constants has.alone) up_to,
  λ waiting over.
      (let one : after.view.awaits ≡ 1 = (keeps stamp waits has).waits ∙ ap (λ (b : Bool). cond b 1 0) waiting in
      let none : after.view.awaits ≡ 0 = over.waits in
      absurd (omega (arith, one, none))),
)

-- ---- what is awaited by the looper

-- a turn that leaves whether a frame is to begin
pub turn_may_await : (before after : Parts) (x y : StampedFrames) → IsFrameTurn before.frames after.frames x y → awaits_frame y ≡ awaits_frame x → after.awaits ≡ before.awaits → MayAwait before → MayAwait after
turn_may_await before after x y turn still same may waits c e named =
    let constants = sym turn.constants ∙ e in
    let alone = named ∙ ap Some turn.number in
    let w = turn.awaits c constants alone in
    w.1 ∙ (still ∙ (w.0 ∙ may (sym same ∙ waits) c constants alone))

pub due_may_await : (before after : Parts) (is_moment : ℕ → Bool) (phase : ℕ) (result : Bool) → DueBy before.frames after.frames is_moment phase result → after.awaits ≡ before.awaits → MayAwait before → MayAwait after
due_may_await before after is_moment phase result (now, moment, (x, y, turn, is, left)) same may =
    turn_may_await before after x y turn (due_waits x y now result left).awaits same may

-- a pulse that came is awaited
pub pulse_may_await : (before after : Parts) (came : Option ℕ) → frame_badge_of after.frames ≡ frame_badge_of before.frames → AwaitsBy before.frames after.frames came → after.awaits ≡ (is_some came || before.awaits) → MayAwait before → MayAwait after
pulse_may_await before after came badge awaits same may waits c e named = by_came came (awaits c constants alone) (sym same ∙ waits)
  where
    constants : before.frames.view.constants ≡ Some c
    constants = sym (ap (λ (b : FrameBadge). b.constants) badge) ∙ e

    alone : c.pulses ≡ Some before.frames.number
    alone = named ∙ ap (λ (b : FrameBadge). Some b.number) badge

    by_came : (o : Option ℕ) → KnowsPulse before.frames after.frames o → (is_some o || before.awaits) ≡ true → after.frames.view.awaits ≡ 1
    by_came None knows is = knows ∙ may is c constants alone
    by_came (Some n) knows is = knows.1

-- a frame is awaited once a pulse came
pub pulse_waits : (r : Option Pulse) (b t : Bool) → t ≡ is_some r → (b || t) ≡ (is_some (stamp_in r) || b)
pulse_waits None true t is = refl
pulse_waits None false t is = is
pulse_waits (Some pulse) true t is = refl
pulse_waits (Some pulse) false t is = is
