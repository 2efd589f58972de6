-- What an equation of badges says of the poster, or the pass, at one place.
use Rattle.std.proofs.Common.{◌≡◌, ◌<◌, ℕ, Bool, List, map, length, sym, ap, ◌∙◌, subst, arith}
use Rattle.std.specs.Prelude.{slice_index_or, slice_set}
use Rattle.std.proofs.lemmas.List.{get_or-map, length-map}
use Rattle.std.proofs.lemmas.List.FromFn.{get_or-map-range_with_len, length-range_with_len}
use Rattle.std.proofs.Math.Seq.{map-set_same}
use Rattle.atomic_table.specs.Seated.{TableId}
use Rattle.dash_script.specs.declared.script.Script.{Script}
use Rattle.loop_model.specs.declared.segment.Segment.{Segment}
use Rattle.shared_queue.specs.Known.{Shared, IsOf, IsTurnWith}
use Rattle.looper_run.specs.Holding.{Sender, State}
use Rattle.message_pool.specs.Passes.{Tally}
use Rattle.choreographer.specs.declared.state.StampedFrames.{StampedFrames}
use Rattle.choreographer.specs.Known.{SharedFrames, Pass, IsPassOf, IsFrameTurn}
use Rattle.dash_hall.specs.Growth.{GoesOn}
use Rattle.dash_hall.specs.Kits.{Badge, badge_of, badge_for, ArePostersOf, FrameBadge, frame_badge_of, frame_badge_for, ArePassesOf, queue_key, queue_constants, AreQueuesOf, frame_key, frame_constants, AreChoreographersOf}

module _ {X Y Z : Type 0} (f : X → Z) (g : Y → Z) where
  -- lists that look alike are as long, and look alike at each place
  pub alike_length : (xs : List X) (ys : List Y) → map f xs ≡ map g ys → length xs ≡ length ys
  alike_length xs ys h = sym (length-map xs f) ∙ ap length h ∙ length-map ys g

  pub alike_at : (xs : List X) (ys : List Y) → map f xs ≡ map g ys → (i : ℕ) (x : X) (y : Y) → i < length xs → f (slice_index_or xs i x) ≡ g (slice_index_or ys i y)
  alike_at xs ys h i x y lt =
      sym (get_or-map f xs i x (f x) lt) ∙ ap (λ l. slice_index_or l i (f x)) h
      ∙ get_or-map g ys i y (f x) (subst (λ n. i < n) (alike_length xs ys h) lt)

-- the poster at a place is of the queue there, and is the sender's
pub poster_at : (k : ℕ) (qs : List (Shared TableId)) (ps : List Sender) → ArePostersOf k qs ps → (i : ℕ) (p : Sender) (q : Shared TableId) → i < length ps
    → IsOf (slice_index_or ps i p) (slice_index_or qs i q) × ((slice_index_or ps i p).sender ≡ k)
poster_at k qs ps h i p q lt =
    let e = alike_at badge_of (badge_for k) ps qs h i p q lt in
    ((ap (λ (b : Badge). b.table) e, ap (λ (b : Badge). b.constants) e), ap (λ (b : Badge). b.sender) e)

-- another poster with the same badge may stand in its place
pub posters_kept : (k : ℕ) (qs : List (Shared TableId)) (ps : List Sender) → ArePostersOf k qs ps → (i : ℕ) (p d : Sender) → badge_of p ≡ badge_of (slice_index_or ps i d) → ArePostersOf k qs (slice_set ps i p)
posters_kept k qs ps h i p d same = map-set_same badge_of ps i p d same ∙ h

-- a turn keeps the poster's badge
pub turn_badge : {parts : List Segment} (before after : Sender) (x y : State) → IsTurnWith parts before after x y → badge_of after ≡ badge_of before
turn_badge before after x y t = λ i. record { table = t.table i; constants = t.constants i; sender = t.sender i }

-- a poster that went on keeps its badge
pub gone_badge : (before after : Sender) (pass pass' : Tally) → GoesOn before after pass pass' → badge_of after ≡ badge_of before
gone_badge before after pass pass' on = λ i. record { table = on.table i; constants = on.constants i; sender = on.sender i }

-- the pass at a place is of the choreographer there, and has the number
pub pass_at : (k : ℕ) (cs : List SharedFrames) (ps : List Pass) → ArePassesOf k cs ps → (i : ℕ) (p : Pass) (c : SharedFrames) → i < length ps
    → IsPassOf (slice_index_or ps i p) (slice_index_or cs i c)
pass_at k cs ps h i p c lt =
    let e = alike_at frame_badge_of (frame_badge_for k) ps cs h i p c lt in
    (ap (λ (b : FrameBadge). b.table) e, ap (λ (b : FrameBadge). b.constants) e)

pub passes_kept : (k : ℕ) (cs : List SharedFrames) (ps : List Pass) → ArePassesOf k cs ps → (i : ℕ) (p d : Pass) → frame_badge_of p ≡ frame_badge_of (slice_index_or ps i d) → ArePassesOf k cs (slice_set ps i p)
passes_kept k cs ps h i p d same = map-set_same frame_badge_of ps i p d same ∙ h

pub frame_turn_badge : (before after : Pass) (x y : StampedFrames) → IsFrameTurn before after x y → frame_badge_of after ≡ frame_badge_of before
frame_turn_badge before after x y t = λ i. record { table = t.table i; constants = t.constants i; number = t.number i }

-- there is a queue for each looper, with the looper's constants
pub queue_count : (lockstep : Bool) (s : Script) (pool : TableId) (qs : List (Shared TableId)) → AreQueuesOf lockstep s pool qs → length qs ≡ s.loopers
queue_count lockstep s pool qs h = alike_length queue_key (queue_constants lockstep s pool) qs _ h ∙ length-range_with_len 0 s.loopers

pub queue_at : (lockstep : Bool) (s : Script) (pool : TableId) (qs : List (Shared TableId)) → AreQueuesOf lockstep s pool qs → (i : ℕ) (q : Shared TableId) → i < s.loopers → (slice_index_or qs i q).constants ≡ queue_constants lockstep s pool i
queue_at lockstep s pool qs h i q lt =
    sym (get_or-map queue_key qs i q (queue_key q) (subst (λ n. i < n) (sym (queue_count lockstep s pool qs h)) lt)) ∙ ap (λ l. slice_index_or l i (queue_key q)) h
    ∙ get_or-map-range_with_len (queue_constants lockstep s pool) 0 s.loopers i i (queue_key q) lt (omega arith)

pub choreographer_count : (s : Script) (cs : List SharedFrames) → AreChoreographersOf s cs → length cs ≡ s.loopers
choreographer_count s cs h = alike_length frame_key (frame_constants s) cs _ h ∙ length-range_with_len 0 s.loopers

pub choreographer_at : (s : Script) (cs : List SharedFrames) → AreChoreographersOf s cs → (i : ℕ) (c : SharedFrames) → i < s.loopers → (slice_index_or cs i c).constants ≡ frame_constants s i
choreographer_at s cs h i c lt =
    sym (get_or-map frame_key cs i c (frame_key c) (subst (λ n. i < n) (sym (choreographer_count s cs h)) lt)) ∙ ap (λ l. slice_index_or l i (frame_key c)) h
    ∙ get_or-map-range_with_len (frame_constants s) 0 s.loopers i i (frame_key c) lt (omega arith)

-- a poster that was read at a place
pub poster_is : (k : ℕ) (qs : List (Shared TableId)) (ps : List Sender) → ArePostersOf k qs ps → (i : ℕ) (p : Sender) (q : Shared TableId) → i < length ps
    → p ≡ slice_index_or ps i p → q ≡ slice_index_or qs i q → IsOf p q × (p.sender ≡ k)
poster_is k qs ps h i p q lt is_p is_q =
    subst (λ (z : Sender). IsOf z q × (z.sender ≡ k)) (sym is_p)
    (subst (λ (z : Shared TableId). IsOf (slice_index_or ps i p) z × ((slice_index_or ps i p).sender ≡ k)) (sym is_q) (poster_at k qs ps h i p q lt))

-- a pass that was read at a place
pub pass_is : (k : ℕ) (cs : List SharedFrames) (ps : List Pass) → ArePassesOf k cs ps → (i : ℕ) (p : Pass) (c : SharedFrames) → i < length ps
    → p ≡ slice_index_or ps i p → c ≡ slice_index_or cs i c → IsPassOf p c
pass_is k cs ps h i p c lt is_p is_c =
    subst (λ (z : Pass). IsPassOf z c) (sym is_p) (subst (λ (z : SharedFrames). IsPassOf (slice_index_or ps i p) z) (sym is_c) (pass_at k cs ps h i p c lt))

-- a queue that was read at a place
pub queue_is : (lockstep : Bool) (s : Script) (pool : TableId) (qs : List (Shared TableId)) → AreQueuesOf lockstep s pool qs → (i : ℕ) (q : Shared TableId) → i < s.loopers → q ≡ slice_index_or qs i q → q.constants ≡ queue_constants lockstep s pool i
queue_is lockstep s pool qs h i q lt is_q = ap (λ (z : Shared TableId). z.constants) is_q ∙ queue_at lockstep s pool qs h i q lt
