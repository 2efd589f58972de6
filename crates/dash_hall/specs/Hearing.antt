-- What posters have seen of their queues' histories and passes have heard of their choreographers', and how they come to have seen and heard the same.
use Rattle.std.specs.Prelude.{◌≡◌, ◌≢◌, ◌<◌, ℕ, List, map, length, slice_index_or}
use mathlib.Core.List.{IsPrefix}
use Rattle.atomic_table.specs.Seated.{TableId}
use Rattle.loop_model.specs.declared.entry.Entry.{Entry}
use Rattle.shared_queue.specs.Known.{Shared, IsOf, IsSamePoster}
use Rattle.looper_run.specs.Holding.{Sender}
use Rattle.frame_phases.specs.declared.entry.FrameEntry.{FrameEntry}
use Rattle.choreographer.specs.Known.{SharedFrames, Pass, IsPassOf, HasHeardWho, HasOnlyHeard}
use Rattle.dash_hall.specs.Growth.{own}

-- what these posters have seen of their queues' histories, in order
abbrev pub seen_by : List Sender → List (List Entry)
seen_by posters = map (λ p. p.view.seen) posters

-- the poster has seen what it had seen, and maybe more, and nothing was called by it
pub record HasHeard (before after : Sender) : Type 0 where
  pub same : IsSamePoster before after
  pub more : IsPrefix before.view.seen after.view.seen
  pub called : own after ≡ own before
  pub rung : after.view.rung ≡ before.view.rung
  pub heard : after.view.heard ≡ before.view.heard

-- the lists are as long, and this holds of the two elements at each place
pub record AtEach {X : Type 0} (R : X → X → Type 0) (before after : List X) : Type 0 where
  pub long : length after ≡ length before
  pub each : (k : ℕ) (d : X) → k < length before → R (slice_index_or before k d) (slice_index_or after k d)

-- each poster has seen what it had seen, and maybe more
abbrev pub HaveHeard : List Sender → List Sender → Type 0
HaveHeard before after = AtEach HasHeard before after

-- the poster at this place has heard others and has seen this history, and the other posters are as before
pub record HaveHeardAt (place : ℕ) (whole : List Entry) (before after : List Sender) : Type 0 where
  pub long : length after ≡ length before
  pub here : (d : Sender) → place < length before
      → HasHeard (slice_index_or before place d) (slice_index_or after place d) × ((slice_index_or after place d).view.seen ≡ whole)
  pub elsewhere : (q : ℕ) (d : Sender) → q ≢ place → slice_index_or after q d ≡ slice_index_or before q d

-- the posters are as before
abbrev pub AreKept : List Sender → List Sender → Type 0
AreKept before after = after ≡ before

-- there is a poster at this place, of this queue
abbrev pub AreReady : ℕ → Shared TableId → List Sender → Type 0
AreReady place queue posters = (place < length posters) × ((d : Sender) → IsOf (slice_index_or posters place d) queue)

-- this history goes on from what the poster at this place has seen
abbrev pub AreKnown : ℕ → List Entry → List Sender → Type 0
AreKnown place whole posters = (d : Sender) → IsPrefix (slice_index_or posters place d).view.seen whole

-- the poster at this place has seen this history
abbrev pub HaveSeenAt : ℕ → List Entry → List Sender → Type 0
HaveSeenAt place whole posters = (d : Sender) → place < length posters → (slice_index_or posters place d).view.seen ≡ whole

-- the posters have seen these histories, one of each queue
abbrev pub HaveSeenAll : List (List Entry) → List Sender → Type 0
HaveSeenAll whole posters = seen_by posters ≡ whole

-- ---- passes of choreographers

-- the pass has heard what it had heard, and maybe more, and took no turn
pub record PassHasHeard (before after : Pass) : Type 0 where
  pub same : HasOnlyHeard before after
  pub seen : IsPrefix before.view.seen after.view.seen
  pub more : IsPrefix before.view.heard after.view.heard

-- so it is with each of these passes
abbrev pub PassesHaveHeard : List Pass → List Pass → Type 0
PassesHaveHeard before after = AtEach PassHasHeard before after

-- the pass has heard who recorded what, as this list has it
abbrev pub HasHeardAll : List (ℕ × FrameEntry) → Pass → Type 0
HasHeardAll whole p = HasHeardWho p × (p.view.heard ≡ whole)

-- the pass at this place has heard this
abbrev pub HaveHeardAllAt : ℕ → List (ℕ × FrameEntry) → List Pass → Type 0
HaveHeardAllAt place whole passes = (d : Pass) → place < length passes → HasHeardAll whole (slice_index_or passes place d)

-- the pass at this place has heard others and this, and the other passes are as before
pub record PassesHaveHeardAt (place : ℕ) (whole : List (ℕ × FrameEntry)) (before after : List Pass) : Type 0 where
  pub heard : PassesHaveHeard before after
  pub here : HaveHeardAllAt place whole after
  pub elsewhere : (q : ℕ) (d : Pass) → q ≢ place → slice_index_or after q d ≡ slice_index_or before q d

-- there is a pass at this place, of this choreographer
abbrev pub ArePassesReady : ℕ → SharedFrames → List Pass → Type 0
ArePassesReady place c passes = (place < length passes) × ((d : Pass) → IsPassOf (slice_index_or passes place d) c)

-- this goes on from what the pass at this place has heard
abbrev pub ArePassesKnown : ℕ → List (ℕ × FrameEntry) → List Pass → Type 0
ArePassesKnown place whole passes = (d : Pass) → IsPrefix (slice_index_or passes place d).view.heard whole
