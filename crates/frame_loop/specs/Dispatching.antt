-- What the dispatcher of a looper with frames serves, and what its steps keep.
use Rattle.std.specs.Prelude.{◌≡◌, ℕ, ◌+◌, true, None}
use Rattle.atomic_table.specs.Seated.{TableId}
use Rattle.message_slot.specs.Letter.{number_in, post_of}
use Rattle.message_pool.specs.Passes.{Node}
use Rattle.shared_queue.specs.Known.{Shared}
use Rattle.choreographer.specs.Known.{SharedFrames, Pass, IsPassOf}
use Rattle.choreographer.specs.declared.frame.Framed.{Framed}
use Rattle.choreographer.specs.declared.frame.Framed.TheVariants as framed
use Rattle.looper_run.specs.declared.own.Own.{Own}
use Rattle.looper_run.specs.Holding.{Workplace, workplace, held, IsSameOwn}
use Rattle.looper_run.specs.Carried.{KeepsLent, unasked}
use Rattle.looper_run.specs.Tests.{IsLent}
use Rattle.plain_loop.specs.Handling.{IsWorkplaceOf, HasJustTaken}
use Rattle.frame_loop.specs.declared.dispatching.FrameHandling.{FrameHandling}

-- both passes are of the choreographer, which has five phases, lets its record go by the first of the two, its last pass, and names no pass for the pulses
pub record HasFrames (c : SharedFrames) (frames asks : Pass) : Type 0 where
  pub framing : IsPassOf frames c
  pub asking : IsPassOf asks c
  pub last : frames.number + 1 ≡ c.constants.passes
  pub phases : c.constants.phases ≡ 5
  pub seals : c.constants.seals ≡ true
  pub pulses : c.constants.pulses ≡ None

-- the looper is of this queue and this pool, and its choreographer has these passes
pub record ServesFrames (queue : Shared TableId) (pool : TableId) (c : SharedFrames) (frames asks : Pass) (w : Workplace) : Type 0 where
  pub place : IsWorkplaceOf queue pool w
  pub has : HasFrames c frames asks

-- the same of a dispatcher
abbrev pub Serving : {R C E H : Type 0} → FrameHandling R C E H → Workplace → Type 0
Serving d w = ServesFrames d.mailbox.now.queue.now d.mailbox.now.pool.now d.choreographer.now d.frames d.asks w

-- it serves the loopers that it served
abbrev pub KeepsServing : {R C E H : Type 0} → FrameHandling R C E H → FrameHandling R C E H → Type 0
KeepsServing before after = (w : Workplace) → Serving before w → Serving after w

-- what was lent has gone on as the calls of a dispatcher may, by the same references, and rang no bell
pub record KeepsOwn {E P : Type 0} (before after : Own E P) : Type 0 where
  pub same : IsSameOwn before after
  pub lent : IsLent (held before) (held after)
  pub rung : after.poster.now.view.rung ≡ before.poster.now.view.rung

-- a dispatcher may work for the looper of this place: it serves that, and what its handlers hold is so
pub record MayServe {R C E H : Type 0} (Holds : H → Type 0) (d : FrameHandling R C E H) (w : Workplace) : Type 0 where
  pub serves : Serving d w
  pub holds : Holds d.handlers

-- it may dispatch this message, which the looper took last, at this moment
pub record MayServeTaken {R C E H P : Type 0} (Holds : H → Type 0) (d : FrameHandling R C E H) (own : Own E P) (m : Node) (now : ℕ) : Type 0 where
  pub serves : Serving d (workplace (held own))
  pub taken : HasJustTaken own.poster.now (number_in m.item) (post_of m.item) now
  pub holds : Holds d.handlers

-- it serves what it served, and its handlers and the count of its rings stay
pub record KeepsHandlers {R C E H : Type 0} (before after : FrameHandling R C E H) : Type 0 where
  pub serves : KeepsServing before after
  pub handlers : after.handlers ≡ before.handlers
  pub nudged : after.nudged ≡ before.nudged

-- it serves what it served, what it was lent has gone on as the calls of a dispatcher may, and it rang no bell, by that or by its own count
pub record KeepsBell {R C E H P : Type 0} (before after : FrameHandling R C E H) (lends lends' : Own E P) : Type 0 where
  pub serves : KeepsServing before after
  pub own : KeepsOwn lends lends'
  pub nudged : after.nudged ≡ before.nudged

-- how often it rang the bell, wrapping
abbrev pub nudges_of : {R C E H : Type 0} → FrameHandling R C E H → ℕ
nudges_of d = d.nudged

-- its calls have no origin to keep
abbrev pub no_origin : {R C E H : Type 0} → FrameHandling R C E H → Unit {0}
no_origin d = tt

-- it serves what it served, it counted the rings of the bell, and what it was lent went on as the calls of a dispatcher may
abbrev pub KeepsRings : {R C E H P : Type 0} → FrameHandling R C E H → FrameHandling R C E H → Own E P → Own E P → Type 0
KeepsRings before after own own' = KeepsLent Serving no_origin nudges_of unasked IsLent before after own own'

-- a frame that went so found memory
abbrev pub FoundMemory : Framed → Type 0
FoundMemory framed.Done = Unit {0}
FoundMemory (framed.Elsewhere next) = Unit {0}
FoundMemory framed.Unscheduled = Unit {0}
FoundMemory (framed.Backwards last) = Unit {0}
FoundMemory framed.NoMemory = ⊥
