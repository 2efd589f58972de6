-- Which callbacks a phase of a frame runs in the frame record: those that its turn took.
use Rattle.std.proofs.Common.{◌≡◌, ◌+◌, ◌/◌, ◌<◌, ◌≤◌, ℕ, Bool, true, false, true≢false, List, [], ◌∷◌, ◌++◌, length, drop, reverse, Option, Some, None, refl, sym, ap, ◌∙◌, subst, arith, append_assoc, eq-eqb}
use Rattle.std.specs.Prelude.{◌==◌, if◌then◌else◌, map, slice_get}
use Rattle.std.specs.List.{filter_map, cons_option, before_first, AllByRecursion}
use Rattle.std.proofs.lemmas.List.{append-nil, reverse-append, reverse-reverse, length-reverse, drop-append-le}
use Rattle.std.proofs.lemmas.List.Elements.{filter_map-append}
use Rattle.std.proofs.lemmas.Bool.{and_parts, eqb-true}
use Rattle.std.proofs.lemmas.Bool.Decides.{nat_tests}
use Rattle.std.proofs.Math.ListN.{drop_of_length-le}
use mathlib.Core.List.{IsPrefix}
use Rattle.loop_model.proofs.Sorting.{AllByRecursion-weaker, AllByRecursion-append, AllByRecursion-filter}
use Rattle.loop_model.proofs.Prefixes.{prefix_trans}
use Rattle.loop_model.specs.Items.{is_just}
use Rattle.frame_phases.specs.declared.entry.Callback.{Callback}
use Rattle.frame_phases.specs.declared.entry.FrameEntry.{FrameEntry}
use Rattle.frame_phases.specs.declared.entry.FrameEntry.TheVariants.{Posted, Removed, Begin, Take, Ran}
use Rattle.frame_phases.specs.Frames.{lawful, all_allowed, is_allowed, is_first, owed_callbacks, posted_count, next_phase, live_callbacks, taken_callbacks, callback_number, is_due, is_undue, is_unmatched}
use Rattle.frame_phases.specs.State.{ran}
use Rattle.frame_phases.proofs.EndsOfFrames.{allowed_before, allowed_next}
use Rattle.choreographer.specs.declared.state.StampedFrames.{StampedFrames}
use Rattle.choreographer.specs.Frame.{begin_place}
use Rattle.choreographer.specs.Known.{Pass, IsFrameTurn}
use Rattle.run_model.specs.FrameRecords.{is_begin, posted_id, handed_first, handed_in, phase_ids}
use Rattle.run_model.proofs.FrameKeeping.{all-in_due_order, posted_in, posted-reverse, before_first-step}
use Rattle.dash_loopers.proofs.LooperLists.{at_seam}

-- a turn's pass has seen what it had seen, and more
pub turn_grew : (f g : Pass) (x y : StampedFrames) → IsFrameTurn f g x y → IsPrefix f.view.seen g.view.seen
turn_grew f g x y t = prefix_trans f.view.seen x.frames.entries g.view.seen t.begins.0 (subst (IsPrefix x.frames.entries) (sym t.seen) t.grows)

-- ---- behind the Begin of the frame in progress

-- no frame begins, and a phase that is taken is below this one
abbrev IsBelow : ℕ → FrameEntry → Type 0
IsBelow k (Posted c) = Unit {0}
IsBelow k (Removed p i t n) = Unit {0}
IsBelow k (Begin v s t) = ⊥
IsBelow k (Take p n t) = p < k
IsBelow k (Ran n) = Unit {0}

below_weaker : (j k : ℕ) → j ≤ k → (e : FrameEntry) → IsBelow j e → IsBelow k e
below_weaker j k le (Posted c) h = tt
below_weaker j k le (Removed p i t n) h = tt
below_weaker j k le (Begin v s t) h = absurd h
below_weaker j k le (Take p n t) h = omega (arith, le, h)
below_weaker j k le (Ran n) h = tt

-- a frame began in this past, and so it is of all that stands behind its Begin
record IsInFrame (k : ℕ) (past : List FrameEntry) : Type 0 where
  within : begin_place past < length past
  below : AllByRecursion (IsBelow k) (drop (begin_place past + 1) (reverse past))

-- an entry more
below_more : (j k : ℕ) (e : FrameEntry) (past : List FrameEntry) → begin_place (e ∷ past) ≡ begin_place past → j ≤ k → IsBelow k e → IsInFrame j past → IsInFrame k (e ∷ past)
below_more j k e past same le is h =
    let near = h.within in
    let long = length-reverse past in
    let behind : drop (begin_place (e ∷ past) + 1) (reverse (e ∷ past)) ≡ drop (begin_place past + 1) (reverse past) ++ e ∷ [] = (λ i. drop (same i + 1) (reverse-append (e ∷ []) past i))
    ∙ drop-append-le (begin_place past + 1) (reverse past) (e ∷ []) (omega (arith, near, long)) in
    record {
      within = omega (arith, near, same);
      below = subst (AllByRecursion (IsBelow k)) (sym behind) (AllByRecursion-append (IsBelow k) (drop (begin_place past + 1) (reverse past)) (e ∷ [])
          (AllByRecursion-weaker (IsBelow j) (IsBelow k) (below_weaker j k le) (drop (begin_place past + 1) (reverse past)) h.below) (is, tt));
    }

just_is : (o : Option ℕ) (n : ℕ) → is_just o n ≡ true → o ≡ Some n
just_is None n h = absurd (cc (h))
just_is (Some m) n h = ap Some (eqb-true m n h)

-- behind a phase the one after it is next, if one is
next_after : (last : Bool) (n k : ℕ) → (if last then None else Some n) ≡ Some k → k ≡ n
next_after true n k h = absurd (cc (h))
next_after false n k h = let same : n ≡ k = cc (h) in sym same

-- where a phase is next, a frame began, and only phases below that one are taken behind its Begin
in_frame : (interval phases k : ℕ) (past : List FrameEntry) → all_allowed interval phases past ≡ true → next_phase phases past ≡ Some k → IsInFrame k past
unfolding all_allowed is_allowed next_phase begin_place
in_frame i p k [] h next = absurd (cc (next))
in_frame i p k (Posted c ∷ past) h next = below_more k k (Posted c) past refl (omega arith) tt (in_frame i p k past (and_parts _ _ h).0 next)
in_frame i p k (Removed phase id token n ∷ past) h next = below_more k k (Removed phase id token n) past refl (omega arith) tt (in_frame i p k past (and_parts _ _ h).0 next)
in_frame i p k (Begin v s t ∷ past) h next =
    let long = length-reverse (Begin v s t ∷ past) in
    record {
      within = omega arith;
      below = subst (AllByRecursion (IsBelow k)) (sym (drop_of_length-le (reverse (Begin v s t ∷ past)) {i = length past + 1} (omega (arith, long)))) tt;
    }
in_frame i p k (Take phase now t ∷ past) h next =
    let parts = and_parts _ _ h in
    let number = just_is (next_phase p past) phase (and_parts _ _ (and_parts _ _ parts.1).0).1 in
    let later = next_after (phase + 1 == p) (phase + 1) k next in
    below_more phase k (Take phase now t) past refl (omega (arith, later)) (omega (arith, later)) (in_frame i p phase past parts.0 number)
in_frame i p k (Ran n ∷ past) h next = below_more k k (Ran n) past refl (omega arith) tt (in_frame i p k past (and_parts _ _ h).0 next)

-- ---- what a phase hands out

below_apart : (m n : ℕ) → m < n → (m == n) ≡ false
below_apart m n h = grind (arith, nat_tests)

-- where only phases below it were taken, it hands out what is handed out behind
handed_behind : (k : ℕ) (xs ys : List FrameEntry) → AllByRecursion (IsBelow k) xs → handed_in k (before_first is_begin (xs ++ ys)) ≡ handed_in k (before_first is_begin ys)
handed_behind k [] ys h = refl
handed_behind k (Posted c ∷ xs) ys h = ap (handed_in k) (before_first-step is_begin (Posted c) (xs ++ ys) refl) ∙ handed_behind k xs ys h.1
handed_behind k (Removed p i t n ∷ xs) ys h = ap (handed_in k) (before_first-step is_begin (Removed p i t n) (xs ++ ys) refl) ∙ handed_behind k xs ys h.1
handed_behind k (Begin v s t ∷ xs) ys h = absurd h.0
handed_behind k (Take p n t ∷ xs) ys h =
    let rest : List FrameEntry = before_first is_begin (xs ++ ys) in
    ap (handed_in k) (before_first-step is_begin (Take p n t) (xs ++ ys) refl)
    ∙ (ap (λ b. if b then handed_first rest else handed_in k rest) (below_apart p k h.0) ∙ handed_behind k xs ys h.1)
handed_behind k (Ran n ∷ xs) ys h = ap (handed_in k) (before_first-step is_begin (Ran n) (xs ++ ys) refl) ∙ handed_behind k xs ys h.1

-- with nothing left to run, nothing runs, and so nothing is handed out first
no_ran : (interval phases : ℕ) (past : List FrameEntry) (n : ℕ) → owed_callbacks past ≡ [] → is_allowed interval phases past (Ran n) ≡ true → ⊥
unfolding is_allowed
no_ran i p past n none h = true≢false (sym h ∙ ap (λ (l : List ℕ). is_first l n) none)

none_handed : (interval phases : ℕ) (seen more : List FrameEntry) → owed_callbacks (reverse seen) ≡ [] → all_allowed interval phases (reverse (seen ++ more)) ≡ true
    → handed_first (before_first is_begin more) ≡ []
none_handed i p seen [] none h = refl
none_handed i p seen (Posted c ∷ more) none h = ap handed_first (before_first-step is_begin (Posted c) more refl)
none_handed i p seen (Removed q id t n ∷ more) none h = ap handed_first (before_first-step is_begin (Removed q id t n) more refl)
none_handed i p seen (Begin v s t ∷ more) none h = refl
none_handed i p seen (Take q n t ∷ more) none h = ap handed_first (before_first-step is_begin (Take q n t) more refl)
none_handed i p seen (Ran n ∷ more) none h = absurd (no_ran i p (reverse seen) n none (allowed_next i p seen more (Ran n) h))

-- the callbacks that stand as run are handed out first
handed_ran : (cs : List Callback) (more : List FrameEntry) → handed_first (before_first is_begin more) ≡ [] → handed_first (before_first is_begin (map ran cs ++ more)) ≡ map callback_number cs
handed_ran [] more none = none
handed_ran (c ∷ cs) more none = ap handed_first (before_first-step is_begin (Ran c.number) (map ran cs ++ more) refl) ∙ ap (λ l. c.number ∷ l) (handed_ran cs more none)

-- ---- the identities of callbacks

-- the identity that was posted with the callback's number is the callback's
abbrev IsPosted : List ℕ → Callback → Type 0
IsPosted ids c = slice_get ids c.number ≡ Some c.id

abbrev ids_in : List FrameEntry → List ℕ
ids_in past = filter_map posted_id (reverse past)

ids_pushed : (e : FrameEntry) (past : List FrameEntry) → ids_in (e ∷ past) ≡ ids_in past ++ cons_option (posted_id e) []
ids_pushed e past = ap (filter_map posted_id) (reverse-append (e ∷ []) past) ∙ filter_map-append posted_id (reverse past) (e ∷ [])

-- an entry that posts nothing
unposted : (e : FrameEntry) (past : List FrameEntry) → posted_id e ≡ None → ids_in (e ∷ past) ≡ ids_in past
unposted e past isnt = ids_pushed e past ∙ (ap (λ o. ids_in past ++ cons_option o []) isnt ∙ append-nil (ids_in past))

-- so it is of all live callbacks, by the identities of the record and of what comes behind it
live_posted : (interval phases : ℕ) (ids : List ℕ) (past : List FrameEntry) (more : List ℕ) → ids ≡ ids_in past ++ more → all_allowed interval phases past ≡ true
    → AllByRecursion (IsPosted ids) (live_callbacks past)
unfolding all_allowed is_allowed live_callbacks
live_posted i p ids [] more is h = tt
live_posted i p ids (Posted c ∷ past) more is h =
    let parts = and_parts _ _ h in
    let number : c.number ≡ length (ids_in past) = eqb-true c.number (posted_count past) (and_parts _ _ (and_parts _ _ parts.1).0).1 ∙ (sym (posted-reverse past) ∙ posted_in (reverse past)) in
    let is' : ids ≡ ids_in past ++ c.id ∷ more = is ∙ (ap (λ l. l ++ more) (ids_pushed (Posted c) past) ∙ append_assoc (ids_in past) (c.id ∷ []) more) in
    let mine : slice_get ids c.number ≡ Some c.id = (λ j. slice_get (is' j) (number j)) ∙ at_seam (ids_in past) c.id more in
    AllByRecursion-append (IsPosted ids) (live_callbacks past) (c ∷ []) (live_posted i p ids past (c.id ∷ more) is' parts.0) (mine, tt)
live_posted i p ids (Removed phase id token n ∷ past) more is h = AllByRecursion-filter (IsPosted ids) (is_unmatched phase id token) (live_callbacks past)
    (live_posted i p ids past more (is ∙ ap (λ l. l ++ more) (unposted (Removed phase id token n) past refl)) (and_parts _ _ h).0)
live_posted i p ids (Begin v s t ∷ past) more is h = live_posted i p ids past more (is ∙ ap (λ l. l ++ more) (unposted (Begin v s t) past refl)) (and_parts _ _ h).0
live_posted i p ids (Take phase now t ∷ past) more is h = AllByRecursion-filter (IsPosted ids) (is_undue phase (now / 1000000)) (live_callbacks past)
    (live_posted i p ids past more (is ∙ ap (λ l. l ++ more) (unposted (Take phase now t) past refl)) (and_parts _ _ h).0)
live_posted i p ids (Ran n ∷ past) more is h = live_posted i p ids past more (is ∙ ap (λ l. l ++ more) (unposted (Ran n) past refl)) (and_parts _ _ h).0

ids_of_numbers : (ids : List ℕ) (cs : List Callback) → AllByRecursion (IsPosted ids) cs → filter_map (slice_get ids) (map callback_number cs) ≡ map (λ (c : Callback). c.id) cs
ids_of_numbers ids [] h = refl
ids_of_numbers ids (c ∷ cs) h = ap (λ o. cons_option o (filter_map (slice_get ids) (map callback_number cs))) h.0 ∙ ap (λ l. c.id ∷ l) (ids_of_numbers ids cs h.1)

-- ---- what a phase runs

-- behind these entries the phase took these callbacks, all of which stand as run right behind
module _ (interval phases phase now time : ℕ) (cs : List Callback) (xs fs : List FrameEntry) (law : lawful interval phases fs ≡ true) (begins : IsPrefix (xs ++ Take phase now time ∷ map ran cs) fs)
    (next : next_phase phases (reverse xs) ≡ Some phase) (taken : cs ≡ taken_callbacks (reverse xs) phase now) (settled : owed_callbacks (reverse (xs ++ Take phase now time ∷ map ran cs)) ≡ []) where
  abbrev behind : List FrameEntry
  behind = Take phase now time ∷ (map ran cs ++ begins.0)

  fs_are : fs ≡ xs ++ behind
  fs_are = sym begins.1 ∙ append_assoc xs (Take phase now time ∷ map ran cs) begins.0

  all_allowed_then : all_allowed interval phases (reverse fs) ≡ true
  unfolding lawful
  all_allowed_then = (and_parts _ _ law).0

  allowed : all_allowed interval phases (reverse xs) ≡ true
  allowed = allowed_before interval phases xs behind (subst (λ (l : List FrameEntry). all_allowed interval phases (reverse l) ≡ true) fs_are all_allowed_then)

  frame : IsInFrame phase (reverse xs)
  frame = in_frame interval phases phase (reverse xs) allowed next

  handed : handed_in phase (before_first is_begin (drop (begin_place (reverse xs) + 1) fs)) ≡ map callback_number cs
  handed =
      let place : ℕ = begin_place (reverse xs) in
      let near = frame.within in
      let long = length-reverse xs in
      let ys : List FrameEntry = map ran cs ++ begins.0 in
      let split : drop (place + 1) fs ≡ drop (place + 1) xs ++ behind = ap (drop (place + 1)) fs_are ∙ drop-append-le (place + 1) xs behind (omega (arith, near, long)) in
      let below : AllByRecursion (IsBelow phase) (drop (place + 1) xs) = subst (λ (l : List FrameEntry). AllByRecursion (IsBelow phase) (drop (place + 1) l)) (reverse-reverse xs) frame.below in
      let none = none_handed interval phases (xs ++ Take phase now time ∷ map ran cs) begins.0 settled (subst (λ (l : List FrameEntry). all_allowed interval phases (reverse l) ≡ true) (sym begins.1) all_allowed_then) in
      ap (λ l. handed_in phase (before_first is_begin l)) split
      ∙ (handed_behind phase (drop (place + 1) xs) behind below
      ∙ (ap (handed_in phase) (before_first-step is_begin (Take phase now time) ys refl)
      ∙ (ap (λ b. if b then handed_first (before_first is_begin ys) else handed_in phase (before_first is_begin ys)) (eq-eqb phase phase refl) ∙ handed_ran cs begins.0 none)))

  posted : AllByRecursion (IsPosted (filter_map posted_id fs)) cs
  posted =
      let ids : List ℕ = filter_map posted_id fs in
      let ids_are : ids ≡ ids_in (reverse xs) ++ filter_map posted_id behind = ap (filter_map posted_id) fs_are ∙ (filter_map-append posted_id xs behind
      ∙ ap (λ l. filter_map posted_id l ++ filter_map posted_id behind) (sym (reverse-reverse xs))) in
      subst (AllByRecursion (IsPosted ids)) (sym taken) (all-in_due_order (IsPosted ids) _ (AllByRecursion-filter (IsPosted ids) (is_due phase (now / 1000000)) (live_callbacks (reverse xs))
      (live_posted interval phases ids (reverse xs) (filter_map posted_id behind) ids_are allowed)))

  -- it runs what it took, however the record goes on
  pub phase_told : phase_ids fs (begin_place (reverse xs)) phase ≡ map (λ (c : Callback). c.id) cs
  phase_told = ap (filter_map (slice_get (filter_map posted_id fs))) handed ∙ ids_of_numbers (filter_map posted_id fs) cs posted
