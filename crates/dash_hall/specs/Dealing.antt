-- How posters and passes come into the senders' kits, and how they are taken back.
use Rattle.std.specs.Prelude.{◌≡◌, ◌==◌, ◌+◌, ◌<◌, nat_lt, ℕ, zero, suc, Bool, List, [], ◌∷◌, ◌++◌, map, length, slice_index_or, All, if◌then◌else◌}
use Rattle.atomic_table.specs.Seated.{TableId}
use Rattle.dash_script.specs.declared.script.Script.{Script}
use Rattle.shared_queue.specs.Known.{Shared}
use Rattle.message_pool.specs.Passes.{Tally}
use Rattle.shared_queue.specs.Ends.{AreNew, IsNewPoster}
use Rattle.looper_run.specs.Holding.{Sender}
use Rattle.choreographer.specs.Known.{SharedFrames, Pass}
use Rattle.choreographer.specs.Ends.{AreNewPasses, IsNewPass}
use Rattle.dash_hall.specs.declared.kit.Kit.{Kit}
use Rattle.dash_hall.specs.declared.hall.Hall.{Hall}
use Rattle.dash_hall.specs.Kits.{IsHall, AreKitsOf, Badge, badge_of, badge_for, FrameBadge, frame_badge_of, frame_badge_for}

-- a poster that has seen nothing and handed nothing out, and a pass that has seen and heard nothing, taken no turn, recorded nothing, handed nothing out,
-- delivered no pulse and knows of no frame that is to begin
abbrev pub IsUnusedPoster : Sender → Type 0
IsUnusedPoster p = (p.view.seen ≡ []) × (p.view.sealed ≡ [])

abbrev pub IsUnusedPass : Pass → Type 0
IsUnusedPass p = (p.view.seen ≡ []) × (p.view.turns ≡ 0) × (p.view.own ≡ []) × (p.view.handed ≡ 0) × (p.view.heard ≡ []) × (p.view.stamp ≡ 0)
    × (p.view.awaits ≡ 0)

-- a pass of the pool that has looked for no slot, lost none, taken none and given none back
abbrev pub HasCountedNothing : Tally → Type 0
HasCountedNothing pass = (pass.looks ≡ 0) × (pass.lost ≡ 0) × (pass.taken ≡ 0) × (pass.back ≡ 0)

-- a kit by which nothing was done
pub record IsNewKit (kit : Kit) : Type 0 where
  pub posters : All IsNewPoster kit.posters.items
  pub frames : All IsNewPass kit.frames.items
  pub pass : HasCountedNothing kit.pass

-- a kit with nothing but a pass of the pool, by which nothing was done
pub record IsEmptyKit (pool : TableId) (kit : Kit) : Type 0 where
  pub posters : kit.posters.items ≡ []
  pub frames : kit.frames.items ≡ []
  pub pass : kit.pass.home ≡ pool
  pub counts : HasCountedNothing kit.pass

-- the kit got posters and passes with these badges, which have done nothing, behind those that it had
pub record Gets (badges : List Badge) (marks : List FrameBadge) (before after : Kit) : Type 0 where
  pub posters : map badge_of after.posters.items ≡ map badge_of before.posters.items ++ badges
  pub frames : map frame_badge_of after.frames.items ≡ map frame_badge_of before.frames.items ++ marks
  pub unused : IsNewKit before → IsNewKit after
  pub pass : after.pass.home ≡ before.pass.home

-- kit k got those for k
pub record EachGets (badges : ℕ → List Badge) (marks : ℕ → List FrameBadge) (before after : List Kit) : Type 0 where
  pub count : length after ≡ length before
  pub each : (k : ℕ) (d : Kit) → k < length before → Gets (badges k) (marks k) (slice_index_or before k d) (slice_index_or after k d)

abbrev pub nothing : {X : Type 0} → ℕ → List X
nothing k = []

-- where the posters are new ones of a queue, each kit got one of it
abbrev pub DealsPosters : List Sender → List Kit → List Kit → Type 0
DealsPosters posters before after =
    (q : Shared TableId) → AreNew q posters → EachGets (λ k. badge_for k q ∷ []) nothing before after

-- the sender that has the pass of this number to a looper's choreographer: the threads come first, then the looper, and last the controller
abbrev pub holder_of : Script → ℕ → ℕ → ℕ
holder_of s looper number =
    if nat_lt number s.threads then number
    else if nat_lt number (s.threads + 1) then s.threads + looper
    else s.threads + s.loopers

-- of the passes of a looper's choreographer with these numbers, `count` of them from `from` on, those that sender k has
abbrev pub given : Script → ℕ → SharedFrames → ℕ → ℕ → ℕ → List FrameBadge
given s looper c k from zero = []
given s looper c k from (suc count) =
    (if holder_of s looper from == k then frame_badge_for from c ∷ [] else []) ++ given s looper c k (from + 1) count

-- of all passes of a looper's choreographer, those that sender k has
abbrev pub given_of : Script → ℕ → SharedFrames → ℕ → List FrameBadge
given_of s looper c k = given s looper c k 0 (s.threads + 2)

-- where the passes are new ones of a looper's choreographer, each kit got those that its sender has
abbrev pub DealsPasses : Script → ℕ → List Pass → List Kit → List Kit → Type 0
DealsPasses s looper passes before after =
    (c : SharedFrames) → AreNewPasses c passes → EachGets nothing (given_of s looper c) before after

-- the kit gave its first poster
pub record GivesPoster (before : Kit) (poster : Sender) (after : Kit) : Type 0 where
  pub posters : before.posters.items ≡ poster ∷ after.posters.items
  pub frames : after.frames.items ≡ before.frames.items
  pub pass : after.pass.home ≡ before.pass.home

-- kit k gave poster k
pub record EachGivesPoster (before : List Kit) (posters : List Sender) (after : List Kit) : Type 0 where
  pub count : length posters ≡ length before
  pub kits : length after ≡ length before
  pub each : (k : ℕ) (d : Kit) (p : Sender) → k < length before
      → GivesPoster (slice_index_or before k d) (slice_index_or posters k p) (slice_index_or after k d)

-- the kit gave its first pass
pub record GivesPass (before : Kit) (pass : Pass) (after : Kit) : Type 0 where
  pub posters : after.posters.items ≡ before.posters.items
  pub frames : before.frames.items ≡ pass ∷ after.frames.items
  pub home : after.pass.home ≡ before.pass.home

-- nobody has seen a call or a frame callback, or handed entries out, and no pass has taken a turn or recorded anything
abbrev pub AreUsedNowhere : List Kit → Type 0
AreUsedNowhere kits = (k q : ℕ) (d : Kit) → k < length kits
    → ((p : Sender) → q < length (slice_index_or kits k d).posters.items → IsUnusedPoster (slice_index_or (slice_index_or kits k d).posters.items q p))
    × ((p : Pass) → q < length (slice_index_or kits k d).frames.items → IsUnusedPass (slice_index_or (slice_index_or kits k d).frames.items q p))

-- what the senders of a run share, their kits, and the pass of the pool for its end, by none of which anything was done
pub record IsNewHall (s : Script) (lockstep : Bool) (h : Hall) (ks : List Kit) (p : Tally) : Type 0 where
  pub hall : IsHall s h
  pub mode : h.lockstep ≡ lockstep
  pub kits : AreKitsOf s h ks
  pub new : AreUsedNowhere ks
  pub unused : All IsNewKit ks
  pub pass : p.home ≡ h.pool
  pub counts : HasCountedNothing p
