-- The controller's posters and passes, and the parts that it keeps.
use Rattle.std.proofs.Common.{◌≡◌, ◌<◌, zero, suc, ℕ, List, [], ◌∷◌, length, set, get_or, drop, refl, sym, ap, ◌∙◌, subst, arith, ◌+◌, ◌++◌, append-nil, Bool, true, ◌≢◌, ◌≤◌, false}
use Rattle.std.specs.Prelude.{slice_index_or, replicate, Result, Ok, Err, IfOk, OnErr}
use Rattle.std.specs.Global.{Vec}
use Rattle.std.proofs.lemmas.List.{get_or-set_same, get_or-set_other, length-set, get_or-map, get_or_default}
use mathlib.Core.Logic.{dite}
use native.Mathlib.Decide.{ℕ_discrete}
use Rattle.frame_phases.specs.declared.entry.FrameEntry.{FrameEntry}
use Rattle.choreographer.specs.Known.{Pass, SharedFrames, IsPassOf, IsFrameTurn}
use Rattle.choreographer.specs.Ends.{HasHandedOut, entries_in}
use Rattle.loop_model.proofs.Prefixes.{prefix_trans}
use Rattle.dash_hall.specs.Hearing.{PassesHaveHeard}
use Rattle.dash_stage.specs.Controllers.{HaveHandedOut, parts_in, IsControllerIn, CanTurn, parts_handed_out, IsController, HandsOutFrames, OtherPostersStay}
use Rattle.std.proofs.Math.Seq.{map-set_same}
use Rattle.choreographer.proofs.Counting.{drop_prefix}
use Rattle.std.specs.Vec.{vec_len, with_item}
use Rattle.atomic_table.specs.Seated.{TableId}
use Rattle.dash_script.specs.declared.script.Script.{Script}
use Rattle.shared_queue.specs.Constants.{Constants}
use Rattle.shared_queue.specs.Known.{Shared, IsOf, IsTurn, IsSamePoster}
use Rattle.looper_run.specs.Holding.{Sender, State}
use Rattle.message_pool.specs.Passes.{Tally}
use Rattle.dash_hall.specs.Growth.{GoesOn, own, QuitsOf}
use Rattle.choreographer.specs.declared.state.StampedFrames.{StampedFrames}
use Rattle.run_model.specs.Planned.{controller, entries_by}
use Rattle.dash_hall.specs.declared.hall.Hall.{Hall}
use Rattle.dash_stage.specs.declared.control.Controller.{Controller}
use Rattle.dash_hall.specs.Kits.{badge_of, badge_for, frame_badge_of, frame_badge_for, IsHall, FrameBadge}
use Rattle.choreographer.proofs.Handing.{hands_same, hands_part}
use Rattle.dash_hall.proofs.Badges.{alike_length, queue_count, choreographer_count, poster_is, pass_is, queue_is, posters_kept, passes_kept, turn_badge, gone_badge, frame_turn_badge, choreographer_at}
use Rattle.choreographer.specs.declared.view.Constants.{Constants as FrameConstants}
use Rattle.loop_model.specs.declared.memory.NoMemory.{NoMemory}
use Rattle.choreographer.specs.Calls.{SealedBy}
use Rattle.choreographer.proofs.Joining.{entries_behind}
use Rattle.frame_phases.specs.State.{Frames as FrameState, Seals}
use Rattle.dash_stage.specs.GivingUp.{rings, AreQuitBelow, AreRung, HaveBeenRung, IsNudged, IsRung, RingsNone, RingsNoLess}

-- ==== passes with the lists of what they handed out

-- as many lists as passes
pub lists_count : (ps : List Pass) (lists : List (Vec (List FrameEntry))) → HaveHandedOut ps lists → length lists ≡ length ps
lists_count [] [] h = refl
lists_count [] (v ∷ lists) h = absurd h
lists_count (p ∷ ps) [] h = absurd h
lists_count (p ∷ ps) (v ∷ lists) h = ap suc (lists_count ps lists h.1)

-- passes that heard others have handed out what they had
pub handed_heard : (ps qs : List Pass) (lists : List (Vec (List FrameEntry))) → PassesHaveHeard ps qs → HaveHandedOut ps lists → HaveHandedOut qs lists
handed_heard [] [] [] e h = tt
handed_heard [] (q ∷ qs) lists e h = absurd (let long = e.long in omega (arith, long))
handed_heard (p ∷ ps) [] lists e h = absurd (let long = e.long in omega (arith, long))
handed_heard [] [] (v ∷ lists) e h = absurd h
handed_heard (p ∷ ps) (q ∷ qs) [] e h = absurd h
handed_heard (p ∷ ps) (q ∷ qs) (v ∷ lists) e h =
    let long = e.long in
    let first = e.each 0 p (omega arith) in
    let rest : PassesHaveHeard ps qs = record { long = omega (arith, long); each = λ k d lt. e.each (suc k) d (omega (arith, lt)) } in
    ((h.0.0 ∙ sym first.same.handed, prefix_trans (entries_in v.items) p.view.seen q.view.seen h.0.1 first.seen), handed_heard ps qs lists rest h.1)

-- one pass, and its list, goes on
pub handed_more : (ps : List Pass) (lists : List (Vec (List FrameEntry))) (i : ℕ) (p p' : Pass) (v v' : Vec (List FrameEntry)) → p ≡ get_or ps i p → v ≡ get_or lists i v → i < length ps
    → (HasHandedOut p (entries_in v.items) → HasHandedOut p' (entries_in v'.items)) → HaveHandedOut ps lists → HaveHandedOut (set ps i p') (set lists i v')
handed_more [] lists i p p' v v' is_p is_v lt more h = absurd (omega (arith, lt))
handed_more (q ∷ ps) [] i p p' v v' is_p is_v lt more h = absurd h
handed_more (q ∷ ps) (u ∷ lists) zero p p' v v' is_p is_v lt more h =
    (more (subst (λ (z : Pass × Vec (List FrameEntry)). HasHandedOut z.0 (entries_in z.1.items)) (λ j. (sym is_p j, sym is_v j)) h.0), h.1)
handed_more (q ∷ ps) (u ∷ lists) (suc i) p p' v v' is_p is_v lt more h = (h.0, handed_more ps lists i p p' v v' is_p is_v (omega (arith, lt)) more h.1)

-- one pass handed nothing more out
pub handed_same : (ps : List Pass) (lists : List (Vec (List FrameEntry))) (i : ℕ) (p p' : Pass) → p ≡ get_or ps i p → i < length ps
    → ((entries : List FrameEntry) → HasHandedOut p entries → HasHandedOut p' entries) → HaveHandedOut ps lists → HaveHandedOut (set ps i p') lists
handed_same [] lists i p p' is lt keeps h = absurd (omega (arith, lt))
handed_same (q ∷ ps) [] i p p' is lt keeps h = absurd h
handed_same (q ∷ ps) (v ∷ lists) zero p p' is lt keeps h = (keeps (entries_in v.items) (subst (λ (z : Pass). HasHandedOut z (entries_in v.items)) (sym is) h.0), h.1)
handed_same (q ∷ ps) (v ∷ lists) (suc i) p p' is lt keeps h = (h.0, handed_same ps lists i p p' is (omega (arith, lt)) keeps h.1)

-- passes that handed nothing out, with empty lists
pub nothing_handed_out : (ps : List Pass) (lists : List (Vec (List FrameEntry))) → parts_in lists ≡ replicate (length ps) [] → ((q : ℕ) (p : Pass) → q < length ps → (slice_index_or ps q p).view.handed ≡ 0)
    → HaveHandedOut ps lists
nothing_handed_out [] [] none unused = tt
nothing_handed_out [] (v ∷ lists) none unused = absurd (cc (none))
nothing_handed_out (p ∷ ps) [] none unused = absurd (cc (none))
nothing_handed_out (p ∷ ps) (v ∷ lists) none unused = (
  subst (λ (l : List (List FrameEntry)). HasHandedOut p (entries_in l)) (sym (ap (λ l. get_or l 0 []) none)) (sym (unused 0 p (omega arith)), (p.view.seen, refl)),
  nothing_handed_out ps lists (ap (drop 1) none) (λ q d lt. unused (suc q) d (omega (arith, lt))),
)

-- a pass at one place recorded nothing
pub idle_kept : (ps : List Pass) (i : ℕ) (p p' : Pass) → p ≡ slice_index_or ps i p → i < length ps → p'.view.own ≡ p.view.own → ((q : ℕ) (d : Pass) → q < length ps → (slice_index_or ps q d).view.own ≡ [])
    → (q : ℕ) (d : Pass) → q < length (set ps i p') → (slice_index_or (set ps i p') q d).view.own ≡ []
idle_kept ps i p p' is lt same idle q d below = dite (ℕ_discrete q i)
    (λ here. ap (λ m. (get_or (set ps i p') m d).view.own) here ∙ (ap (λ (z : Pass). z.view.own) (get_or-set_same ps i p' d lt) ∙ (same ∙ (ap (λ (z : Pass). z.view.own) is ∙ idle i p lt))))
    (λ there. ap (λ (z : Pass). z.view.own) (get_or-set_other ps i q p' d there) ∙ idle q d (let long = length-set ps i p' in omega (arith, below, long)))

-- ==== the controller's posters and passes, and what its calls leave of them

-- the controller has a poster for each looper
pub poster_count : {lockstep : Bool} (s : Script) (hall : Hall) (c : Controller) → IsHall s hall → IsControllerIn lockstep s hall c → length c.kit.posters.items ≡ s.loopers
poster_count s hall c h k = alike_length badge_of (badge_for (controller s)) c.kit.posters.items hall.queues.items k.posters ∙ queue_count hall.lockstep s hall.pool hall.queues.items h.queues

-- it may take a turn on the queue of each looper
pub turns_on : {lockstep : Bool} {s : Script} {hall : Hall} {c : Controller} → IsHall s hall → IsControllerIn lockstep s hall c → {i : ℕ} → i < s.loopers → CanTurn lockstep s hall i c
turns_on is_hall is known = record { is_hall = is_hall; controller = is; known = known }

module _ {lockstep : Bool} {s : Script} {hall : Hall} {i : ℕ} {c : Controller} (at : CanTurn lockstep s hall i c) where
  -- each looper has a queue and a choreographer
  pub in_queues : i < vec_len hall.queues
  in_queues = subst (λ n. i < n) (sym (hall.queues.ok.0 ∙ queue_count hall.lockstep s hall.pool hall.queues.items at.is_hall.queues)) at.known

  pub in_choreographers : i < vec_len hall.choreographers
  in_choreographers = subst (λ n. i < n) (sym (hall.choreographers.ok.0 ∙ choreographer_count s hall.choreographers.items at.is_hall.choreographers)) at.known

  pub has_poster : i < length c.kit.posters.items
  has_poster = subst (λ n. i < n) (sym (poster_count s hall c at.is_hall at.controller)) at.known

  pub pass_count : length c.kit.frames.items ≡ s.loopers
  pass_count = alike_length frame_badge_of (frame_badge_for (s.threads + 1)) c.kit.frames.items hall.choreographers.items at.controller.frames ∙ choreographer_count s hall.choreographers.items at.is_hall.choreographers

  -- it has a poster and a pass for each looper
  pub in_posters : i < vec_len c.kit.posters
  in_posters = subst (λ n. i < n) (sym c.kit.posters.ok.0) has_poster

  pub in_passes : i < vec_len c.kit.frames
  in_passes = subst (λ n. i < n) (sym (c.kit.frames.ok.0 ∙ pass_count)) at.known

  -- its poster for a looper
  pub own_poster : {p : Sender} {q : Shared TableId} → p ≡ slice_index_or c.kit.posters.items i p → q ≡ slice_index_or hall.queues.items i q → IsOf p q × (p.sender ≡ controller s)
  own_poster {p} {q} is_p is_q =
      poster_is (controller s) hall.queues.items c.kit.posters.items at.controller.posters i p q has_poster is_p is_q

  pub own_pass : {p : Pass} {f : SharedFrames} → p ≡ slice_index_or c.kit.frames.items i p → f ≡ slice_index_or hall.choreographers.items i f → IsPassOf p f
  own_pass {p} {f} is_p is_f = pass_is (s.threads + 1) hall.choreographers.items c.kit.frames.items at.controller.frames i p f (subst (λ n. i < n) (sym pass_count) at.known) is_p is_f

  -- it is the last sender of a queue in lockstep
  pub is_last : {p : Sender} {q : Shared TableId} → p ≡ slice_index_or c.kit.posters.items i p → q ≡ slice_index_or hall.queues.items i q → p.sender + 1 ≡ q.constants.setting.senders
  is_last {p} {q} is_p is_q =
      ap (λ n. n + 1) (own_poster is_p is_q).1 ∙ sym (ap (λ (z : Constants TableId). z.setting.senders) (queue_is hall.lockstep s hall.pool hall.queues.items at.is_hall.queues i q at.known is_q))

  pub in_step : {q : Shared TableId} → q ≡ slice_index_or hall.queues.items i q → q.constants.setting.lockstep ≡ lockstep
  in_step {q} is_q = ap (λ (z : Constants TableId). z.setting.lockstep) (queue_is hall.lockstep s hall.pool hall.queues.items at.is_hall.queues i q at.known is_q) ∙ at.controller.mode

  -- the queue's messages are of the pool
  pub in_pool : {q : Shared TableId} → q ≡ slice_index_or hall.queues.items i q → q.constants.home ≡ hall.pool
  in_pool {q} is_q = ap (λ (z : Constants TableId). z.home) (queue_is hall.lockstep s hall.pool hall.queues.items at.is_hall.queues i q at.known is_q)

  -- a poster that handed nothing out keeps the parts that it handed out
  parts_kept : (p p' : Sender) → p ≡ slice_index_or c.kit.posters.items i p → p'.view.sealed ≡ p.view.sealed → parts_handed_out (set c.kit.posters.items i p') ≡ parts_in c.sealed.items
  parts_kept p p' is_p same = map-set_same (λ (z : Sender). z.view.sealed) c.kit.posters.items i p' p (same ∙ ap (λ (z : Sender). z.view.sealed) is_p) ∙ at.controller.sealed

  -- a call of one of its posters, with its pass of the pool, leaves it the controller
  pub after_call : {p p' : Sender} {pass' : Tally} → p ≡ slice_index_or c.kit.posters.items i p → GoesOn p p' c.kit.pass pass'
      → IsControllerIn lockstep s hall (record { kit = record { posters = with_item c.kit.posters i p'; pass = pass'; frames = c.kit.frames }; sealed = c.sealed; sealed_frames = c.sealed_frames })
  after_call {p} {p'} {pass'} is_p on = record {
    posters = posters_kept (controller s) hall.queues.items c.kit.posters.items at.controller.posters i p' p (gone_badge p p' c.kit.pass pass' on ∙ ap badge_of is_p);
    frames = at.controller.frames;
    pass = on.home ∙ at.controller.pass;
    mode = at.controller.mode;
    idle = at.controller.idle;
    sealed = parts_kept p p' is_p on.sealed;
    sealed_frames = at.controller.sealed_frames;
  }

  -- a turn of one of its posters leaves it the controller
  pub after_turn : {p p' : Sender} {x y : State} → p ≡ slice_index_or c.kit.posters.items i p → IsTurn p p' x y
      → IsControllerIn lockstep s hall (record { kit = record { posters = with_item c.kit.posters i p'; pass = c.kit.pass; frames = c.kit.frames }; sealed = c.sealed; sealed_frames = c.sealed_frames })
  after_turn {p} {p'} {x} {y} is_p t = record {
    posters = posters_kept (controller s) hall.queues.items c.kit.posters.items at.controller.posters i p' p (turn_badge p p' x y t ∙ ap badge_of is_p);
    frames = at.controller.frames;
    pass = at.controller.pass;
    mode = at.controller.mode;
    idle = at.controller.idle;
    sealed = parts_kept p p' is_p t.sealed;
    sealed_frames = at.controller.sealed_frames;
  }

  -- and so does a turn of one of its passes that changes nothing
  pub after_frame_turn : {p p' : Pass} {x : StampedFrames} → p ≡ slice_index_or c.kit.frames.items i p → IsFrameTurn p p' x x
      → IsControllerIn lockstep s hall (record { kit = record { posters = c.kit.posters; pass = c.kit.pass; frames = with_item c.kit.frames i p' }; sealed = c.sealed; sealed_frames = c.sealed_frames })
  after_frame_turn {p} {p'} {x} is_p t = record {
    posters = at.controller.posters;
    frames = passes_kept (s.threads + 1) hall.choreographers.items c.kit.frames.items at.controller.frames i p' p (frame_turn_badge p p' x x t ∙ ap frame_badge_of is_p);
    pass = at.controller.pass;
    mode = at.controller.mode;
    sealed = at.controller.sealed;
    sealed_frames = handed_same c.kit.frames.items c.sealed_frames.items i p p' is_p has_pass (λ entries. hands_same p p' x x t (omega arith) entries) at.controller.sealed_frames;
    idle = idle_kept c.kit.frames.items i p p' is_p has_pass still at.controller.idle;
  }
    where
      has_pass : i < length c.kit.frames.items
      has_pass = subst (λ n. i < n) (sym pass_count) at.known

      still : p'.view.own ≡ p.view.own
      still =
          let es = x.frames.entries in
          let none : drop (length es) es ≡ [] = drop_prefix es [] es (append-nil es) in
          t.own ∙ (ap (λ l. p.view.own ++ l) none ∙ append-nil p.view.own)

-- ==== the controller hands entries out of the frame records, and keeps the parts

-- by a sealing the pass records nothing
recorded_none : (before after : Pass) (result : Result (List FrameEntry) NoMemory) → SealedBy before after result → after.view.own ≡ before.view.own
recorded_none before after result h = h.2.own ∙ nothing_behind before.view.own h.0.frames.entries h.1.frames.entries (entries_kept result h.3)
  where
    nothing_behind : (own xs ys : List FrameEntry) → ys ≡ xs → own ++ drop (length xs) ys ≡ own
    nothing_behind own xs ys same = ap (λ l. own ++ l) (ap (drop (length xs)) same ∙ drop_prefix xs [] xs (append-nil xs)) ∙ append-nil own

    entries_kept : (r : Result (List FrameEntry) NoMemory) → Seals h.0.frames r h.1.frames → h.1.frames.entries ≡ h.0.frames.entries
    entries_kept (Ok part) seals = ap (λ (f : FrameState). f.entries) seals.1
    entries_kept (Err e) seals = ap (λ (f : FrameState). f.entries) seals

-- one sealing, which hands a part out or nothing
pub frames_handed : (p p' : Pass) (result : Result (List FrameEntry) NoMemory) (had : List (List FrameEntry)) → SealedBy p p' result
    → IfOk result (λ part. HandsOutFrames p p' had (had ++ part ∷ [])) × OnErr result (HandsOutFrames p p' had had)
frames_handed p p' (Ok part) had h = (
  record {
    badge = λ i. record { table = h.2.table i; constants = h.2.constants i; number = h.2.number i };
    own = recorded_none p p' (Ok part) h;
    parts = λ out. subst (HasHandedOut p') (sym (entries_behind had part)) (hands_part p p' (Ok part) h (entries_in had) out).0;
  },
  tt,
)
frames_handed p p' (Err e) had h = (
  tt,
  record {
    badge = λ i. record { table = h.2.table i; constants = h.2.constants i; number = h.2.number i };
    own = recorded_none p p' (Err e) h;
    parts = λ out. (hands_part p p' (Err e) h (entries_in had) out).1;
  },
)

-- the controller whose pass of one choreographer handed a part out, which it keeps
module _ {s : Script} {hall : Hall} {i : ℕ} {c : Controller} (at : CanTurn true s hall i c) {p p' : Pass} {v : Vec (List FrameEntry)} (v' : Vec (List FrameEntry))
    (is_p : p ≡ slice_index_or c.kit.frames.items i p) (is_v : v ≡ slice_index_or c.sealed_frames.items i v) (out : HandsOutFrames p p' v.items v'.items) where
  has_pass : i < length c.kit.frames.items
  has_pass = let many = pass_count at in let lt = at.known in omega (arith, many, lt)

  abbrev pub after_frames : Controller
  after_frames = record { kit = record { posters = c.kit.posters; pass = c.kit.pass; frames = with_item c.kit.frames i p' }; sealed = c.sealed; sealed_frames = with_item c.sealed_frames i v' }

  pub frames_controller : IsController s hall after_frames
  frames_controller = record {
    posters = at.controller.posters;
    frames = passes_kept (s.threads + 1) hall.choreographers.items c.kit.frames.items at.controller.frames i p' p (out.badge ∙ ap frame_badge_of is_p);
    pass = at.controller.pass;
    mode = at.controller.mode;
    idle = idle_kept c.kit.frames.items i p p' is_p has_pass out.own at.controller.idle;
    sealed = at.controller.sealed;
    sealed_frames = handed_more c.kit.frames.items c.sealed_frames.items i p p' v v' is_p is_v has_pass out.parts at.controller.sealed_frames;
  }

-- the controller's pass of a choreographer is the last one
pub last_pass : {s : Script} {hall : Hall} {i : ℕ} {c : Controller} → CanTurn true s hall i c → {p : Pass} {f : SharedFrames} → p ≡ slice_index_or c.kit.frames.items i p
    → f ≡ slice_index_or hall.choreographers.items i f → p.number + 1 ≡ f.constants.passes
last_pass {s} {hall} {i} {c} at {p} {f} is_p is_f =
    let lt = at.known in
    let many = pass_count at in
    let few = choreographer_count s hall.choreographers.items at.is_hall.choreographers in
    let mine : frame_badge_of p ≡ frame_badge_for (s.threads + 1) f =
    ap frame_badge_of is_p ∙ (sym (get_or-map frame_badge_of c.kit.frames.items i p (frame_badge_of p) (omega (arith, lt, many)))
    ∙ (ap (λ l. get_or l i (frame_badge_of p)) at.controller.frames
    ∙ (get_or-map (frame_badge_for (s.threads + 1)) hall.choreographers.items i f (frame_badge_of p) (omega (arith, lt, few)) ∙ ap (frame_badge_for (s.threads + 1)) (sym is_f)))) in
    let number : p.number ≡ s.threads + 1 = ap (λ (b : FrameBadge). b.number) mine in
    let passes : f.constants.passes ≡ s.threads + 2 =
    ap (λ (z : SharedFrames). z.constants.passes) is_f ∙ ap (λ (z : FrameConstants). z.passes) (choreographer_at s hall.choreographers.items at.is_hall.choreographers i f lt) in
    omega (arith, number, passes)

-- the controller has a list of parts for each looper
pub in_frame_lists : {s : Script} {hall : Hall} {i : ℕ} {c : Controller} → CanTurn true s hall i c → i < vec_len c.sealed_frames
in_frame_lists {s} {hall} {i} {c} at =
    let lt = at.known in
    let many = pass_count at in
    let lists = lists_count c.kit.frames.items c.sealed_frames.items at.controller.sealed_frames in
    let all = c.sealed_frames.ok.0 in
    omega (arith, many, lists, all, lt)

-- ==== what the controller leaves of its posters as it gives a run up

-- a poster at a place, and another one there
module _ (xs : List Sender) (i : ℕ) (p p' : Sender) (within : i < length xs) (is_p : p ≡ slice_index_or xs i p) where
  -- what holds between the two holds between what stands there
  pub stands_there : (R : Sender → Sender → Type 0) → R p p' → (d : Sender) → R (slice_index_or xs i d) (slice_index_or (set xs i p') i d)
  stands_there R h d =
      subst (λ (z : Sender). R z (slice_index_or (set xs i p') i d)) (is_p ∙ get_or_default xs i p d within)
      (subst (R p) (sym (get_or-set_same xs i p' d within)) h)

-- a poster of the controller that called nothing, and handed nothing out, leaves it the controller
pub after_bell : {lockstep : Bool} (s : Script) (hall : Hall) (i : ℕ) (c : Controller) (p p' : Sender) → IsControllerIn lockstep s hall c → p ≡ slice_index_or c.kit.posters.items i p → IsSamePoster p p'
    → IsControllerIn lockstep s hall (record { kit = record { posters = with_item c.kit.posters i p'; pass = c.kit.pass; frames = c.kit.frames }; sealed = c.sealed; sealed_frames = c.sealed_frames })
after_bell s hall i c p p' k is_p same = record {
  posters = posters_kept (controller s) hall.queues.items c.kit.posters.items k.posters i p' p ((λ j. record { table = same.table j; constants = same.constants j; sender = same.sender j }) ∙ ap badge_of is_p);
  frames = k.frames;
  pass = k.pass;
  mode = k.mode;
  idle = k.idle;
  sealed_frames = k.sealed_frames;
  sealed = map-set_same (λ (z : Sender). z.view.sealed) c.kit.posters.items i p' p (same.sealed ∙ ap (λ (z : Sender). z.view.sealed) is_p) ∙ k.sealed;
}

-- the same calls stand behind it
pub none_by_bell : (p p' : Sender) → IsSamePoster p p' → p'.view.seen ≡ p.view.seen → own p' ≡ own p
none_by_bell p p' same seen = ap (λ (n : ℕ). entries_by n p'.view.seen) same.sender ∙ ap (entries_by p.sender) seen

-- one queue more was quit, and those behind it are as they were
module _ (now n : ℕ) (a b c : Controller) (rest : (q : ℕ) (d : Sender) → n ≤ q → slice_index_or b.kit.posters.items q d ≡ slice_index_or a.kit.posters.items q d)
    (elsewhere : (q : ℕ) (d : Sender) → q ≢ n → slice_index_or c.kit.posters.items q d ≡ slice_index_or b.kit.posters.items q d) where
  pub quit_more : AreQuitBelow n now a b → ((d : Sender) → QuitsOf (slice_index_or b.kit.posters.items n d) (slice_index_or c.kit.posters.items n d) false now) → AreQuitBelow (n + 1) now a c
  quit_more quit here q d some below = dite (ℕ_discrete q n)
      (λ at. subst (λ (m : ℕ). QuitsOf (slice_index_or a.kit.posters.items m d) (slice_index_or c.kit.posters.items m d) false now) (sym at)
      (subst (λ (z : Sender). QuitsOf z (slice_index_or c.kit.posters.items n d) false now) (rest n d (omega arith)) (here d)))
      (λ apart. subst (λ (z : Sender). QuitsOf (slice_index_or a.kit.posters.items q d) z false now) (sym (elsewhere q d apart)) (quit q d some (omega (arith, apart, below))))

  pub rest_less : (q : ℕ) (d : Sender) → n + 1 ≤ q → slice_index_or c.kit.posters.items q d ≡ slice_index_or a.kit.posters.items q d
  rest_less q d le = elsewhere q d (λ e. absurd (omega (arith, e, le))) ∙ rest q d (omega (arith, le))

-- a looper that was rung is so where its poster is as it was
rung_kept : (q : ℕ) (a b c : Controller) → IsRung q a b → ((d : Sender) → slice_index_or c.kit.posters.items q d ≡ slice_index_or b.kit.posters.items q d) → IsRung q a c
rung_kept q a b c h same = record {
  rung = λ d. ap (λ (z : Sender). z.view.rung) (same d) ∙ h.rung d;
  none = λ d. ap own (same d) ∙ h.none d;
}

-- as main
pub nudged_kept : (a b c : Controller) → IsNudged a b → ((d : Sender) → slice_index_or c.kit.posters.items 0 d ≡ slice_index_or b.kit.posters.items 0 d) → IsNudged a c
nudged_kept = rung_kept 0

-- one looper more was rung, whose poster was as it had been
pub rung_more : (n : ℕ) (a b c : Controller) → ((q : ℕ) (d : Sender) → n ≤ q → slice_index_or b.kit.posters.items q d ≡ slice_index_or a.kit.posters.items q d)
    → ((q : ℕ) (d : Sender) → q ≢ n → slice_index_or c.kit.posters.items q d ≡ slice_index_or b.kit.posters.items q d) → AreRung n a b → IsRung n b c → AreRung (n + 1) a c
rung_more n a b c rest elsewhere rung here q below = dite (ℕ_discrete q n)
    (λ at. subst (λ (m : ℕ). IsRung m a c) (sym at) (record {
      rung = λ d. here.rung d ∙ ap (λ (z : Sender). z.view.rung + 1) (rest n d (omega arith));
      none = λ d. here.none d ∙ ap own (rest n d (omega arith));
    }))
    (λ apart. rung_kept q a b c (rung q (omega (arith, apart, below))) (λ d. elsewhere q d apart))

-- one poster changed
module _ (place : ℕ) (a b : Controller) (elsewhere : OtherPostersStay place a b) where
  -- and rang as often as before
  pub none_rung : ((d : Sender) → rings b place d ≡ rings a place d) → RingsNone a b
  none_rung here q d = dite (ℕ_discrete q place)
      (λ at. subst (λ (m : ℕ). rings b m d ≡ rings a m d) (sym at) (here d))
      (λ apart. ap (λ (z : Sender). z.view.rung) (elsewhere q d apart))

  -- and rang once
  pub one_rung : IsRung place a b → RingsNoLess a b
  one_rung here q d = dite (ℕ_discrete q place)
      (λ at. subst (λ (m : ℕ). rings a m d ≤ rings b m d) (sym at) (omega (arith, here.rung d)))
      (λ apart. omega (arith, ap (λ (z : Sender). z.view.rung) (elsewhere q d apart)))

-- no bell rings less often by a call that rings none
pub still_no_less : (a b c : Controller) → RingsNoLess a b → RingsNone b c → RingsNoLess a c
still_no_less a b c less none q d = omega (arith, less q d, none q d)

-- where each of the first n bells rang once more, and none less often before
pub all_rung : (n : ℕ) (a b c : Controller) → RingsNoLess a b → AreRung n b c → HaveBeenRung n a c
all_rung n a b c less rung q d below = omega (arith, less q d, (rung q below).rung d)
