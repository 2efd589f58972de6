-- What the steps of a frame show, one after another.
use Rattle.std.proofs.Common.{◌≡◌, ℕ, ◌+◌, Bool, true, false, List, [], ◌∷◌, ◌++◌, map, take, get_or, length, ◌<◌, Result, Ok, Err, OnOk, refl, sym, ap, ◌∙◌, subst, arith}
use Rattle.std.specs.Prelude.{fold, Some, None, if◌then◌else◌}
use Rattle.std.specs.List.{enumerate_from}
use Rattle.std.proofs.lemmas.List.{map-append, map_more}
use Rattle.std.proofs.lemmas.List.Sums.{fold-append}
use Rattle.loop_model.specs.declared.entry.Entry.{Entry}
use Rattle.loop_model.specs.declared.memory.NoMemory.{NoMemory}
use Rattle.frame_phases.specs.declared.entry.Callback.{Callback}
use Rattle.frame_phases.specs.declared.entry.Beginning.{Beginning}
use Rattle.frame_phases.specs.declared.entry.Beginning.TheVariants as begin
use Rattle.frame_phases.specs.declared.entry.Took.{Took}
use Rattle.frame_phases.specs.declared.entry.Took.TheVariants as took
use Rattle.choreographer.specs.Frame.{Batch}
use Rattle.choreographer.specs.Known.{SharedFrames, Pass, IsPassOf, MayDeliver, MayBegin}
use Rattle.choreographer.specs.Within.{InFrame, MayTake, BegunAt, TakenAt}
use Rattle.choreographer.proofs.Recorded.{unscheduled_records, backwards_records}
use Rattle.dash_script.specs.declared.script.Script.{Script}
use Rattle.run_model.specs.FrameRecords.{FrameAsk, Begins, Takes, as_told, asks_in, nanos_of}
use Rattle.run_model.specs.Loopers.{LooperState, and_asks, callback_ran, phase_ran as phase_ran_as}
use Rattle.run_model.specs.Loopers.{frame_ran as frame_ran_as}
use Rattle.dash_hall.specs.declared.host.Host.{Host}
use Rattle.dash_hall.specs.Kits.{FrameBadge, frame_badge_of}
use Rattle.dash_hall.specs.Hosts.{pass_asks, IsHostNow, IsSameHost}
use Rattle.dash_hall.proofs.Badges.{frame_turn_badge}
use Rattle.dash_loopers.specs.declared.view_root.ViewRoot.{ViewRoot}
use Rattle.dash_loopers.specs.FrameParts.{ShowsBatch, ShowsPhase, ShowsPhases}
use Rattle.dash_loopers.specs.Places.{ShowsOn, ShowsFrameOn, RootRuns}
use Rattle.dash_loopers.specs.Played.{calls_of, PassHasAsked, IsShown, RanFrame, EndsLatest}
use Rattle.dash_loopers.specs.Steps.{ShowsBy, PostsOn}
use Rattle.dash_loopers.proofs.FrameTurns.{took_asks, phase_ran, phases_more, frame_asks, frame_ran, frame_ends_latest, ran_unscheduled, ran_backwards}

-- one callback more ran
pub batch_more : {R U : Type 0} (host middle after : Host R U) (cs : List Callback) (i : ℕ) (d : Callback) (p p' p'' : Pass) (root root' root'' : ViewRoot) → i < length cs → middle.now ≡ host.now
    → ShowsBatch (map (λ (c : Callback). c.id) (take i cs)) host middle p p' root root' → ShowsOn middle after (λ s q at a. callback_ran s q at a (get_or cs i d).id) p' p'' root' root''
    → ShowsBatch (map (λ (c : Callback). c.id) (take (i + 1) cs)) host after p p'' root root''
batch_more host middle after cs i d p p' p'' root root' root'' within same early late lockstep s q at may text a is =
    let ids : List ℕ = map (λ (c : Callback). c.id) (take i cs) in
    subst (λ (b : LooperState). IsShown lockstep s q (calls_of after.poster.now) p'' root'' b)
    (sym (ap (fold (callback_ran s q at) a) (map_more (λ (c : Callback). c.id) cs i d within) ∙ fold-append (callback_ran s q at) a ids ((get_or cs i d).id ∷ [])))
    (late lockstep s q at (λ e. may e ∙ sym same) text (fold (callback_ran s q at) a ids) (early lockstep s q at may text a is))

-- ---- what is asked

-- a moment is told alike in both modes, where in lockstep it is the one that the state tells
moment_told : (lockstep : Bool) (now at : ℕ) → (lockstep ≡ true → now ≡ at) → (if lockstep then now else 0) ≡ (if lockstep then at else 0)
moment_told true now at same = same refl
moment_told false now at same = refl

-- one ask more, told alike
asked_more : (lockstep : Bool) (p p' : Pass) (asks : List FrameAsk) (x y : FrameAsk) → pass_asks p' ≡ pass_asks p ++ x ∷ [] → as_told lockstep x ≡ as_told lockstep y → PassHasAsked lockstep p asks → PassHasAsked lockstep p' (asks ++ y ∷ [])
asked_more lockstep p p' asks x y more same is =
    ap (map (as_told lockstep)) more ∙ (map-append (as_told lockstep) (pass_asks p) (x ∷ [])
    ∙ ((λ i. is i ++ same i ∷ []) ∙ sym (map-append (as_told lockstep) asks (y ∷ []))))

-- the pass asked for this too, and all else is as it was
shown_asking : (lockstep : Bool) (s : Script) (q : ℕ) (made : List Entry) (p p' : Pass) (root : ViewRoot) (a : LooperState) (x y : FrameAsk) → pass_asks p' ≡ pass_asks p ++ x ∷ [] → as_told lockstep x ≡ as_told lockstep y
    → IsShown lockstep s q made p root a → IsShown lockstep s q made p' root (and_asks y a)
shown_asking lockstep s q made p p' root a x y more same is =
    let r = is.stands in
    record {
      calls = is.calls;
      asked = asked_more lockstep p p' a.asked x y more same is.asked;
      stands = record { edition = r.edition; gauges = r.gauges; lines = r.lines; barrier = r.barrier; barriers = r.barriers; painted = r.painted };
    }

-- ---- phases

-- a phase was taken and its batch ran
pub phase_shown : {R U : Type 0} (is_moment : ℕ → Bool) (host host' : Host R U) (phase now : ℕ) (ids : List ℕ) (p p' p'' : Pass) (root root' : ViewRoot) → is_moment now ≡ true → pass_asks p' ≡ pass_asks p ++ Takes phase now ∷ []
    → ShowsBatch ids host host' p' p'' root root' → ShowsFrameOn is_moment host host' (λ s q at a. phase_ran_as s q at a (phase, ids)) p p'' root root'
phase_shown is_moment host host' phase now ids p p' p'' root root' moment more batch lockstep s q at may all text a is =
    batch lockstep s q at may text (and_asks (Takes phase (nanos_of at)) a)
    (shown_asking lockstep s q (calls_of host.poster.now) p p' root a (Takes phase now) (Takes phase (nanos_of at)) more (ap (Takes phase) (moment_told lockstep now (nanos_of at) (λ e. all e now moment))) is)

enumerate_more : {X : Type 0} (n : ℕ) (xs : List X) (x : X) → enumerate_from n (xs ++ x ∷ []) ≡ enumerate_from n xs ++ (n + length xs, x) ∷ []
enumerate_more n [] x = ap (λ k. (k, x) ∷ []) (omega arith)
enumerate_more n (y ∷ xs) x = ap (λ l. (n, y) ∷ l) (enumerate_more (n + 1) xs x ∙ ap (λ k. enumerate_from (n + 1) xs ++ (k, x) ∷ []) (omega arith))

-- one phase more was taken and ran
pub phases_shown : {R U : Type 0} (is_moment : ℕ → Bool) (host middle after : Host R U) (count : ℕ) (ids : List (List ℕ)) (one : List ℕ) (p p' p'' : Pass) (root root' root'' : ViewRoot) → middle.now ≡ host.now → length ids ≡ count
    → ShowsFrameOn is_moment host middle (λ s q at a. fold (phase_ran_as s q at) a (enumerate_from 0 ids)) p p' root root' → ShowsFrameOn is_moment middle after (λ s q at a. phase_ran_as s q at a (count, one)) p' p'' root' root''
    → ShowsFrameOn is_moment host after (λ s q at a. fold (phase_ran_as s q at) a (enumerate_from 0 (ids ++ one ∷ []))) p p'' root root''
phases_shown is_moment host middle after count ids one p p' p'' root root' root'' same each early late lockstep s q at may all text a is =
    let numbered : enumerate_from 0 (ids ++ one ∷ []) ≡ enumerate_from 0 ids ++ (count, one) ∷ [] = enumerate_more 0 ids one ∙ ap (λ n. enumerate_from 0 ids ++ (n, one) ∷ []) (omega (arith, each)) in
    subst (λ (b : LooperState). IsShown lockstep s q (calls_of after.poster.now) p'' root'' b)
    (sym (ap (fold (phase_ran_as s q at) a) numbered ∙ fold-append (phase_ran_as s q at) a (enumerate_from 0 ids) ((count, one) ∷ [])))
    (late lockstep s q at (λ e. may e ∙ sym same) all text (fold (phase_ran_as s q at) a (enumerate_from 0 ids)) (early lockstep s q at may all text a is))

-- a frame began and its phases ran
pub frame_shown : {R U : Type 0} (is_moment : ℕ → Bool) (host host' : Host R U) (start : ℕ) (ids : List (List ℕ)) (p p' p'' : Pass) (root root' : ViewRoot) → is_moment start ≡ true → pass_asks p' ≡ pass_asks p ++ Begins start ∷ []
    → ShowsFrameOn is_moment host host' (λ s q at a. fold (phase_ran_as s q at) a (enumerate_from 0 ids)) p' p'' root root' → ShowsFrameOn is_moment host host' (λ s q at. frame_ran_as s q at (Some ids)) p p'' root root'
frame_shown is_moment host host' start ids p p' p'' root root' moment more phases lockstep s q at may all text a is =
    phases lockstep s q at may all text (and_asks (Begins (nanos_of at)) a)
    (shown_asking lockstep s q (calls_of host.poster.now) p p' root a (Begins start) (Begins (nanos_of at)) more (ap Begins (moment_told lockstep start (nanos_of at) (λ e. all e start moment))) is)

-- none began, and nothing was asked for
pub no_frame_shown : {R U : Type 0} (is_moment : ℕ → Bool) (host : Host R U) (p p' : Pass) (root : ViewRoot) → pass_asks p' ≡ pass_asks p → ShowsFrameOn is_moment host host (λ s q at. frame_ran_as s q at None) p p' root root
no_frame_shown is_moment host p p' root same lockstep s q at may all text a is = record { calls = is.calls; asked = ap (map (as_told lockstep)) same ∙ is.asked; stands = is.stands }

-- ---- what the code leaves, call by call

module _ (c : SharedFrames) (before after : Pass) (badge : frame_badge_of after ≡ frame_badge_of before) where
  is_pass_on : IsPassOf before c → IsPassOf after c
  is_pass_on is = (ap (λ (b : FrameBadge). b.table) badge ∙ is.0, ap (λ (b : FrameBadge). b.constants) badge ∙ is.1)

  -- the code goes on by the same host and the same pass
  pub by_on : {R U : Type 0} (host host' : Host R U) → ShowsBy c host before → IsHostNow host' → ShowsBy c host' after
  by_on host host' by ready = record { ready = ready; pass_of = (is_pass_on by.pass_of.0, by.pass_of.1) }

  -- the pass may take the phase that is next now
  pub may_take_on : (phase : ℕ) → IsPassOf before c → MayDeliver before c → InFrame c.constants.phases after (Some phase) → MayTake c phase after
  may_take_on phase is delivers inside = record { pass = is_pass_on is; frame = inside; delivers = λ n named. ap (λ (b : FrameBadge). b.number) badge ∙ delivers n named }

-- the turn that took a phase, or found no memory, is of the same pass
pub taken_badge : (is_moment : ℕ → Bool) (phases phase : ℕ) (before after : Pass) (r : Took) → TakenAt is_moment phases phase before after r → frame_badge_of after ≡ frame_badge_of before
taken_badge is_moment phases phase before after (took.Batch time cs) t = let d = t.3.2 in frame_turn_badge before after d.0 d.1 d.2
taken_badge is_moment phases phase before after (took.Elsewhere next) t = absurd t
taken_badge is_moment phases phase before after took.NoMemory t = let d = t.2 in frame_turn_badge before after d.0 d.1 d.2

-- and so is the turn that began a frame, or didn't
pub begun_badge : (is_moment : ℕ → Bool) (before after : Pass) (r : Beginning) → BegunAt is_moment before after r → frame_badge_of after ≡ frame_badge_of before
begun_badge is_moment before after r t = let d = t.2 in frame_turn_badge before after d.0 d.1 d.2

module _ {R U : Type 0} (is_moment : U → ℕ → Bool) (c : SharedFrames) where
  -- the phase that was taken ran its batch
  pub phase_runs : (r : Result Unit NoMemory) (phase time : ℕ) (cs given : List Callback) (host taken after : Host R U) (p p' p'' : Pass) (root root' : ViewRoot) → MayTake c phase p → taken ≡ host → given ≡ cs
      → TakenAt (is_moment host.uptime.now) c.constants.phases phase p p' (took.Batch time cs) → PostsOn p' p'' → OnOk r (ShowsBatch (map (λ (d : Callback). d.id) given) taken after p' p'' root root')
      → OnOk r (ShowsPhase c (is_moment host.uptime.now) phase p p'' host after root root')
  phase_runs (Err e) phase time cs given host taken after p p' p'' root root' may same is t posts ran = tt
  phase_runs (Ok u) phase time cs given host taken after p p' p'' root root' may same is t posts ran =
      let m : ℕ → Bool = is_moment host.uptime.now in
      let b : Batch = t.0 in
      let ids : List ℕ = map (λ (d : Callback). d.id) b.callbacks in
      let batch : ShowsBatch ids host after p' p'' root root' = subst (λ (h : Host R U). ShowsBatch ids h after p' p'' root root') same
      (subst (λ (l : List Callback). ShowsBatch (map (λ (d : Callback). d.id) l) taken after p' p'' root root') (is ∙ sym t.2) ran) in (
        ids,
        phase_ran m c.constants phase b p p' may.frame t.3 c.constants.interval p'' posts,
        phase_shown m host after phase b.now ids p p' p'' root root' t.3.0.0 (took_asks m c.constants phase b p p' may.frame t.3) batch,
      )

  -- one phase more
  pub phases_run_more : (count : ℕ) (host middle after : Host R U) (p p' p'' : Pass) (root root' root'' : ViewRoot) → IsSameHost host middle → count < c.constants.phases → frame_badge_of p' ≡ frame_badge_of p
      → ShowsPhases c (is_moment host.uptime.now) count p p' host middle root root' → ShowsPhase c (is_moment middle.uptime.now) count p' p'' middle after root' root''
      → ShowsPhases c (is_moment host.uptime.now) (count + 1) p p'' host after root root''
  phases_run_more count host middle after p p' p'' root root' root'' same within badge h t =
      let m : ℕ → Bool = is_moment host.uptime.now in
      let one : ShowsPhase c m count p' p'' middle after root' root'' = subst (λ (u : U). ShowsPhase c (is_moment u) count p' p'' middle after root' root'') (ap (λ o. o.uptime) same) t in (
        h.0 ++ one.0 ∷ [],
        phases_more c.constants.interval c.constants.phases m count p p' p'' h.0 one.0 within badge h.1 one.1,
        phases_shown m host middle after count h.0 one.0 p p' p'' root root' root'' (ap (λ o. o.now) same) h.1.each h.2 one.2,
      )

  -- the frame that began ran its phases
  pub frame_runs : (r : Result Unit NoMemory) (time : ℕ) (host begun after : Host R U) (p p' p'' : Pass) (root root' : ViewRoot) → begun ≡ host → BegunAt (is_moment host.uptime.now) p p' (begin.Began time)
      → OnOk r (ShowsPhases c (is_moment begun.uptime.now) c.constants.phases p' p'' begun after root root') → OnOk r (RootRuns c (is_moment host.uptime.now) p p'' host after root root')
  frame_runs (Err e) time host begun after p p' p'' root root' same t ran = tt
  frame_runs (Ok u) time host begun after p p' p'' root root' same t ran =
      let m : ℕ → Bool = is_moment host.uptime.now in
      let phases : ShowsPhases c m c.constants.phases p' p'' host after root root' = subst (λ (h : Host R U). ShowsPhases c (is_moment h.uptime.now) c.constants.phases p' p'' h after root root') same ran in (
        Some phases.0,
        frame_ran c.constants.interval t.0 time c.constants m p p' p'' phases.0 t.1 t.2 phases.1,
        frame_ends_latest c.constants.interval t.0 time c.constants m p p' p'' phases.0 t.1 t.2 phases.1,
        frame_shown m host after t.0 phases.0 p p' p'' root root' t.1 (frame_asks c.constants.interval t.0 time c.constants m p p' p'' phases.0 t.1 t.2 phases.1) phases.2,
      )

  none_runs : (host begun : Host R U) (p p' : Pass) (root : ViewRoot) → begun ≡ host → pass_asks p' ≡ pass_asks p
      → RanFrame c.constants.interval c.constants.phases (is_moment host.uptime.now) p p' None × EndsLatest p p' → RootRuns c (is_moment host.uptime.now) p p' host begun root root
  none_runs host begun p p' root same asks ran =
      let m : ℕ → Bool = is_moment host.uptime.now in (
        None,
        ran.0,
        ran.1,
        subst (λ (h : Host R U). ShowsFrameOn m host h (λ s q at. frame_ran_as s q at None) p p' root root) (sym same) (no_frame_shown m host p p' root asks),
      )

  -- or none began
  pub unscheduled_runs : (host begun : Host R U) (p p' : Pass) (root : ViewRoot) → begun ≡ host → MayBegin p c → BegunAt (is_moment host.uptime.now) p p' begin.Unscheduled
      → RootRuns c (is_moment host.uptime.now) p p' host begun root root
  unscheduled_runs host begun p p' root same may t = none_runs host begun p p' root same (ap asks_in (unscheduled_records p p' t.0 t.2))
      (ran_unscheduled c.constants.interval c.constants.phases (is_moment host.uptime.now) c p p' t.0 may t.2)

  pub backwards_runs : (last : ℕ) (host begun : Host R U) (p p' : Pass) (root : ViewRoot) → begun ≡ host → BegunAt (is_moment host.uptime.now) p p' (begin.Backwards last)
      → RootRuns c (is_moment host.uptime.now) p p' host begun root root
  backwards_runs last host begun p p' root same t = none_runs host begun p p' root same (ap asks_in (backwards_records p p' t.0 last t.2))
      (ran_backwards c.constants.interval c.constants.phases (is_moment host.uptime.now) p p' t.0 last t.1 t.2 t.3)
