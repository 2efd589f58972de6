-- What a screen carries, and what its calls keep.
use Rattle.std.specs.Prelude.{◌≡◌, ◌==◌, ◌||◌, ◌/◌, ◌-◌, ◌^◌, ℕ, Bool, Option}
use Rattle.choreographer.specs.Known.{IsPassOf}
use Rattle.choreographer.specs.Calls.{PostedBy}
use Rattle.choreographer.specs.declared.hosted.Placed.{Placed}
use Rattle.handler_post.specs.Ways.{PlainWay as Way}
use Rattle.handler_post.specs.Ways.{IsReady}
use Rattle.plain_loop.specs.Lines.{KeepsLine}
use Rattle.frame_loop.specs.declared.screen.Phase.{Phase}
use Rattle.frame_loop.specs.declared.screen.Phase.TheVariants.{Input, Animation, InsetsAnimation, Traversal, Commit}
use Rattle.frame_loop.specs.declared.screen.Screen.{Screen}

-- the number of a phase
abbrev pub phase_number : Phase → ℕ
phase_number Input = 0
phase_number Animation = 1
phase_number InsetsAnimation = 2
phase_number Traversal = 3
phase_number Commit = 4

-- a moment in nanoseconds whose millisecond the clock shows, or the last one of all
abbrev pub shows_nanos : (ℕ → Bool) → ℕ → Bool
shows_nanos shows nanos = shows (nanos / 1000000) || (nanos == 2 ^ 64 - 1)

-- the way that a screen posts messages by
abbrev pub screen_way : {R C E : Type 0} → Screen R C E → Way E
screen_way s = record { queue = s.queue; poster = s.poster; pool = s.pool; pass = s.pass }

-- its way is ready, and its other pass is one of the choreographer, which has five phases
pub record IsScreen {R C E : Type 0} (s : Screen R C E) : Type 0 where
  pub way : IsReady (screen_way s)
  pub asks : IsPassOf s.asks.now s.choreographer.now
  pub phases : s.choreographer.now.constants.phases ≡ 5

-- the same choreographer, by the same references
pub record IsSameScreen {R C E : Type 0} (before after : Screen R C E) : Type 0 where
  pub choreographer : after.choreographer.now ≡ before.choreographer.now
  pub asks : after.asks.ghost_name ≡ before.asks.ghost_name
  pub outbox : after.outbox.ghost_name ≡ before.outbox.ghost_name
  pub clock : after.outbox.now.clock.now ≡ before.outbox.now.clock.now

-- what each call on a screen keeps: it is a screen of the same looper and choreographer, and its line is kept
pub record KeepsScreen {R C E : Type 0} (before after : Screen R C E) : Type 0 where
  pub line : KeepsLine (screen_way before) (screen_way after)
  pub screen : IsScreen after
  pub same : IsSameScreen before after

-- a call at the choreographer keeps the screen, and nothing was sent by the line
pub record KeepsWay {R C E : Type 0} (before after : Screen R C E) : Type 0 where
  pub screen : KeepsScreen before after
  pub way : (after.poster.now ≡ before.poster.now) × (after.pass.now ≡ before.pass.now)

-- a call on the line keeps the screen, and no callback was posted or removed
pub record KeepsCallbacks {R C E : Type 0} (before after : Screen R C E) : Type 0 where
  pub screen : KeepsScreen before after
  pub callbacks : (after.asks.now ≡ before.asks.now) × (after.outbox.now ≡ before.outbox.now)

-- a callback was posted at the choreographer, at a moment of the clock
abbrev pub PostsCallback : {R C E : Type 0} → (C → ℕ → Bool) → Screen R C E → Screen R C E → ℕ → ℕ → Option ℕ → ℕ → Placed → Type 0
PostsCallback shows before after phase id token delay result =
    PostedBy before.asks.now after.asks.now (shows_nanos (shows before.outbox.now.clock.now)) before.outbox.now.sent.items after.outbox.now.sent.items
    phase id token delay result
