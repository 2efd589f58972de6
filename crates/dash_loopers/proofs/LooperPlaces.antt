-- A looper's place in its hall, and its parts.
use Rattle.std.proofs.Common.{◌≡◌, ℕ, Bool, true, false, ◌+◌, ◌<◌, map, length, set, get_or, Some, refl, sym, ap, ◌∙◌, subst, arith}
use Rattle.std.specs.List.{slice_get}
use Rattle.std.specs.Prelude.{◌==◌, if◌then◌else◌}
use Rattle.std.specs.Option.{option_map}
use Rattle.std.proofs.lemmas.List.{length-map}
use Rattle.std.proofs.lemmas.Option.{slice_get-map, slice_get_read, slice_get_within, get_or_from_slice_get}
use Rattle.atomic_table.specs.Seated.{TableId}
use Rattle.dash_script.specs.declared.script.Script.{Script}
use Rattle.dash_script.specs.Causes.{phase_count}
use Rattle.shared_queue.specs.Known.{Shared, IsOf}
use Rattle.looper_run.specs.Holding.{Sender, Workplace}
use Rattle.choreographer.specs.Known.{SharedFrames, Pass, IsPassOf, MayDeliver, IfAlone}
use Rattle.dash_hall.specs.declared.hall.Hall.{Hall}
use Rattle.dash_loopers.specs.declared.player.Parts.{Parts}
use Rattle.dash_loopers.specs.declared.player.Place.{Place}
use Rattle.dash_hall.specs.Kits.{Badge, FrameBadge, badge_of, badge_for, frame_badge_of, frame_badge_for, queue_constants, frame_constants}
use Rattle.dash_hall.proofs.Badges.{queue_count as queues_counted, queue_is as queue_read, choreographer_count, choreographer_at}
use Rattle.dash_loopers.specs.Loopers.{ArePartsOf, IsLooperOf}
use Rattle.dash_loopers.specs.Players.{ServesAt, AreSameParts, PlaceWithout}
use Rattle.dash_loopers.specs.Played.{HasLatest}
use Rattle.dash_loopers.proofs.LooperLists.{at_removed, within_removed, map_set_same}

pub frame_of_badge : (n : ℕ) (p : Pass) (c : SharedFrames) → frame_badge_of p ≡ frame_badge_for n c → IsPassOf p c
frame_of_badge n p c e = (ap (λ (b : FrameBadge). b.table) e, ap (λ (b : FrameBadge). b.constants) e)

of_badge : (k : ℕ) (p : Sender) (q : Shared TableId) → badge_of p ≡ badge_for k q → IsOf p q
of_badge k p q e = (ap (λ (b : Badge). b.table) e, ap (λ (b : Badge). b.constants) e)

module _ (s : Script) (hall : Hall) (n : ℕ) (l : IsLooperOf s hall n) where
  pub queue_count : length hall.queues.items ≡ s.loopers
  queue_count = queues_counted hall.lockstep s hall.pool hall.queues.items l.is_hall.queues

  pub frames_count : length hall.choreographers.items ≡ s.loopers
  frames_count = choreographer_count s hall.choreographers.items l.is_hall.choreographers

  -- the looper and main have a queue, and the looper has a choreographer
  pub queue_near : n < length hall.queues.items
  queue_near = let one = l.one in omega (arith, one, queue_count)

  pub main_near : 0 < length hall.queues.items
  main_near = let one = l.one in omega (arith, one, queue_count)

  pub frames_near : n < length hall.choreographers.items
  frames_near = let one = l.one in omega (arith, one, frames_count)

  pub queue_is : (i : ℕ) (q : Shared TableId) → slice_get hall.queues.items i ≡ Some q → q.constants ≡ queue_constants hall.lockstep s hall.pool i
  queue_is i q at =
      let lt : i < s.loopers = omega (arith, slice_get_within hall.queues.items i q at, queue_count) in
      queue_read hall.lockstep s hall.pool hall.queues.items l.is_hall.queues i q lt (sym (get_or_from_slice_get hall.queues.items i q q at))

  pub queue_home : (i : ℕ) (q : Shared TableId) → slice_get hall.queues.items i ≡ Some q → q.constants.home ≡ hall.pool
  queue_home i q at = ap (λ c. c.home) (queue_is i q at)

  frame_constants_are : (c : SharedFrames) → slice_get hall.choreographers.items n ≡ Some c → c.constants ≡ frame_constants s n
  frame_constants_are c at =
      ap (λ (z : SharedFrames). z.constants) (sym (get_or_from_slice_get hall.choreographers.items n c c at))
      ∙ choreographer_at s hall.choreographers.items l.is_hall.choreographers n c l.one

  pub its_phases : (c : SharedFrames) → slice_get hall.choreographers.items n ≡ Some c → c.constants.phases ≡ phase_count s.edition
  its_phases c at = ap (λ k. k.phases) (frame_constants_are c at)

  pub its_period : (c : SharedFrames) → slice_get hall.choreographers.items n ≡ Some c → c.constants.interval ≡ s.period
  its_period c at = ap (λ k. k.interval) (frame_constants_are c at)

  -- its pass may deliver the pulses, and nobody else
  its_pulses : (c : SharedFrames) → slice_get hall.choreographers.items n ≡ Some c → c.constants.pulses ≡ Some s.threads
  its_pulses c at = ap (λ k. k.pulses) (frame_constants_are c at)

  pub may_deliver : (c : SharedFrames) → slice_get hall.choreographers.items n ≡ Some c → (p : Pass) → frame_badge_of p ≡ frame_badge_for s.threads c → MayDeliver p c
  may_deliver c at p badge = λ k named.
      let both : Some s.threads ≡ Some k = sym (its_pulses c at) ∙ named in
      let same : s.threads ≡ k = cc (both) in
      ap (λ (b : FrameBadge). b.number) badge ∙ same

  -- a new pass has no stamp, and knows of no frame that is to begin
  pub none_latest : (c : SharedFrames) → slice_get hall.choreographers.items n ≡ Some c → (p : Pass) → frame_badge_of p ≡ frame_badge_for s.threads c → p.view.stamp ≡ 0 → p.view.awaits ≡ 0 → HasLatest p 0 false
  none_latest c at p badge none unawaited = record {
    key = c.constants;
    constants = ap (λ (b : FrameBadge). b.constants) badge;
    alone = its_pulses c at ∙ ap Some (sym (ap (λ (b : FrameBadge). b.number) badge));
    has = none;
    waits = unawaited;
  }

-- each edition has the phases up to 3
pub up_to_three : (edition : ℕ) → 3 < phase_count edition
up_to_three edition = go (edition == 2)
  where
    go : (b : Bool) → 3 < (if b then 5 else 4)
    go true = omega arith
    go false = omega arith

pub parts_self : (a : Parts) → AreSameParts a a
parts_self a = record { others = refl; frames = refl; awaits = λ may. may }

pub parts_then : (a b c : Parts) → AreSameParts a b → AreSameParts b c → AreSameParts a c
parts_then a b c p q = record { others = q.others ∙ p.others; frames = q.frames ∙ p.frames; awaits = λ may. q.awaits (p.awaits may) }

-- a looper's parts stay its parts where they are the same
pub are_parts_then : (s : Script) (hall : Hall) (n : ℕ) (a b : Parts) → AreSameParts a b → ArePartsOf s hall n a → ArePartsOf s hall n b
are_parts_then s hall n a b p h = record {
  others = p.others ∙ h.others;
  frames = λ c at. p.frames ∙ h.frames c at;
  awaits = p.awaits h.awaits;
}

-- the code serves its workplace with the parts that it leaves
pub serves_with : (s : Script) (hall : Hall) (n : ℕ) (a b : Parts) (w : Workplace) → AreSameParts a b → ServesAt s hall n a w → ServesAt s hall n b w
serves_with s hall n a b w p h = record { looper = h.looper; place = h.place; are_parts = are_parts_then s hall n a b p h.are_parts }

-- a poster of another looper's queue
pub other_of : (s : Script) (hall : Hall) (n place j : ℕ) (parts : Parts) (p : Sender) (q : Shared TableId) → IsLooperOf s hall n → ArePartsOf s hall n parts → PlaceWithout n place j → slice_get parts.others.items j ≡ Some p → slice_get hall.queues.items place ≡ Some q → IsOf p q
other_of s hall n place j parts p q l are w at at' =
    let k : ℕ = s.threads + n in
    let count = queue_count s hall n l in
    let one = l.one in
    let within : n < length (map (badge_for k) hall.queues.items) = omega (arith, count, one, length-map hall.queues.items (badge_for k)) in
    let at_p : slice_get (map badge_of parts.others.items) j ≡ Some (badge_of p) = slice_get-map badge_of parts.others.items j ∙ ap (λ o. option_map badge_of o) at in
    let at_q : slice_get (map (badge_for k) hall.queues.items) place ≡ Some (badge_for k q) = slice_get-map (badge_for k) hall.queues.items place ∙ ap (λ o. option_map (badge_for k) o) at' in
    of_badge k p q (at_removed (map badge_of parts.others.items) (map (badge_for k) hall.queues.items) n place j (badge_of p) (badge_for k q) are.others within w at_p at_q)

pub other_within : (s : Script) (hall : Hall) (n place j : ℕ) (parts : Parts) → IsLooperOf s hall n → ArePartsOf s hall n parts → place < length hall.queues.items → PlaceWithout n place j → j < length parts.others.items
other_within s hall n place j parts l are near w =
    let k : ℕ = s.threads + n in
    let count = queue_count s hall n l in
    let one = l.one in
    let many = length-map hall.queues.items (badge_for k) in
    let within : n < length (map (badge_for k) hall.queues.items) = omega (arith, count, one, many) in
    let near' : place < length (map (badge_for k) hall.queues.items) = omega (arith, near, many) in
    omega (arith, within_removed (map badge_of parts.others.items) (map (badge_for k) hall.queues.items) n place j are.others within near' w, length-map parts.others.items badge_of)

-- a poster that was read among the others, in the place of a looper of the hall
module _ (s : Script) (hall : Hall) (n place j : ℕ) (parts : Parts) (l : IsLooperOf s hall n) (are : ArePartsOf s hall n parts) (near : place < length hall.queues.items) (w : PlaceWithout n place j) where
  pub other_read : (k : ℕ) (p : Sender) → k ≡ length parts.others.items → p ≡ get_or parts.others.items j p → slice_get parts.others.items j ≡ Some p
  other_read k p long read = slice_get_read parts.others.items k j p long (subst (λ (m : ℕ). j < m) (sym long) (other_within s hall n place j parts l are near w)) read

  -- it is one of the queue that was read there
  pub other_of_read : (p : Sender) (q : Shared TableId) (k : ℕ) → slice_get parts.others.items j ≡ Some p → k ≡ length hall.queues.items → q ≡ get_or hall.queues.items place q → IsOf p q
  other_of_read p q k at long read = other_of s hall n place j parts p q l are w at (slice_get_read hall.queues.items k place q long (subst (λ (m : ℕ). place < m) (sym long) near) read)

-- the parts are the same with another poster of the same badge
pub parts_with : (a : Parts) (j : ℕ) (p q : Sender) (b : Parts) → slice_get a.others.items j ≡ Some p → badge_of q ≡ badge_of p → b.others.items ≡ set a.others.items j q → b.frames ≡ a.frames → b.awaits ≡ a.awaits → AreSameParts a b
parts_with a j p q b at e others frames awaits = record {
  others = ap (map badge_of) others ∙ map_set_same badge_of a.others.items j p q at e;
  frames = ap frame_badge_of frames;
  awaits = λ may waits. subst (λ (f : Pass). IfAlone f (f.view.awaits ≡ 1)) (sym frames) (may (sym awaits ∙ waits));
}

-- ---- by the place where its code runs

module _ {R : Type 0} (place : Place R) (parts : Parts) (w : Workplace) (serves : ServesAt place.script.now place.hall.now place.looper parts w) where
  -- its pass is one of its choreographer, which has the phases up to 3
  pub pass_on : (c : SharedFrames) → slice_get place.hall.now.choreographers.items place.looper ≡ Some c → IsPassOf parts.frames c × (3 < c.constants.phases)
  pass_on c at = (
    frame_of_badge place.script.now.threads parts.frames c (serves.are_parts.frames c at),
    (let phases = its_phases place.script.now place.hall.now place.looper serves.looper c at in omega (arith, phases, up_to_three place.script.now.edition)),
  )
