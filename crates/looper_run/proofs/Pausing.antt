-- How a loop by a clock ends.
use Rattle.std.proofs.Common.{◌≡◌, ◌⊎◌, ℕ, Bool, true, false, List, [], ◌++◌, map, Option, Some, None, refl, sym, ap, ◌∙◌, subst, inl, inr, arith}
use Rattle.atomic_table.specs.Seated.{TableId}
use Rattle.loop_io.specs.Moments.{IsMoment}
use Rattle.message_pool.specs.Passes.{Claimed, Tally, Node}
use Rattle.queue_state.specs.declared.answers.Nexted.{Nexted}
use Rattle.queue_state.specs.declared.answers.Nexted.TheVariants as nexted
use Rattle.shared_queue.specs.declared.waiting.Waited.{Waited}
use Rattle.shared_queue.specs.declared.waiting.Waited.TheVariants as waited
use Rattle.shared_queue.specs.Known.{Shared, IsOf}
use Rattle.shared_queue.specs.Waiting.{IsCap, HasLooked, HasNudged, Slept, WaitedBy}
use Rattle.looper_run.specs.declared.step.Step.{Step}
use Rattle.looper_run.specs.declared.step.Step.TheVariants as step
use Rattle.looper_run.specs.declared.by_clock.Loop.{Loop}
use Rattle.looper_run.specs.declared.by_clock.Loop.TheVariants as loop
use Rattle.looper_run.specs.declared.by_clock.Pause.{Pause}
use Rattle.looper_run.specs.declared.by_clock.Pause.TheVariants as pause
use Rattle.looper_run.specs.Holding.{Sender, Holding, Looping, IsAt}
use Rattle.looper_run.specs.Asked.{Asked, Listening, Listen, with_asked, asked_by_round}
use Rattle.looper_run.specs.Tests.{Test, Passes}
use Rattle.looper_run.specs.Looks.{looked_by, by_poster, HasAnswer, HasEnded, IsBegun, WaitsAsTold}
use Rattle.looper_run.specs.Loops.{IsLoopPart, HasStepped, HasPaused, Stepped, IsClosed, StepsUntil, IsLoop, LastWait, LoopBy, LoopsOrGoes, StepsOrGoes, IsLoopOrGoes, Pauses, loop_of, pace_of, HasPaced, UnlessHalted, UnlessLost, has_ended_looper, IsNoWait}
use Rattle.looper_run.specs.Round.{UnlessStopped}
use Rattle.looper_run.proofs.Asking.{tells_as, with_more}
use Rattle.looper_run.proofs.Quiet.{quiet_events}
use Rattle.looper_run.proofs.Rounds.{begun_any, ends_marked}
use Rattle.looper_run.proofs.Steps.{KeepsOthers, KeepsQuiet, works_acts}
use Rattle.looper_run.proofs.Looking.{works_ending}
use Rattle.looper_run.proofs.Sleeping.{of_still, works_on_then, Goes, goes_then, goes_by, listening, looking, waits_long, sleeps_on, passes_slept, passes_look, passes_listening}

module _ (shows : ℕ → Bool) (start : ℕ) (cap : Option ℕ) (q : Shared TableId) where
  -- a wait that goes on from here, as one that began earlier
  last_wait : (a b : Holding) (idle : Bool) (c : Sender) (answer : Waited Claimed TableId) → Goes shows start q.constants.setting a b → WaitedBy shows start idle cap b.poster c answer → LastWait shows start cap a.poster c answer
  last_wait a b idle c answer g w = (b.poster, idle, g.works.still.turns, g.heard, w)

  ends_from : (a l : Looping) (p : Sender) (n now : ℕ) (c : Looping) → Goes shows start q.constants.setting a.held l.held → Slept shows start l.idle_owed cap n l.held.poster p → IsMoment shows start now → HasEnded now (by_poster l p) c
      → ((left : List Node) × LastWait shows start cap a.held.poster c.held.poster (waited.End left)) ⊎ LastWait shows start cap a.held.poster c.held.poster waited.Over
  ends_from a l p n now c g s m h = elim h.look [
    | inl end ↦ inl (end.0, last_wait a.held l.held l.idle_owed c.held.poster (waited.End end.0) g (n, p, s, (now, record { moment = m; look = end.1 })))
    | inr over ↦ inr (last_wait a.held l.held l.idle_owed c.held.poster waited.Over g (n, p, s, (now, record { moment = m; look = over.0 })))
  ]

  -- the queue is over
  pub loop_ends : (a l c : Looping) → IsOf a.held.poster q → Goes shows start q.constants.setting a.held l.held → HasStepped shows start cap l c step.Ends → LoopBy shows start cap q.constants.setting a.held c.held loop.Ended
  loop_ends a l c of g h =
      let of_last = of_still q a.held l.held g.works.still of in
      let slept = waits_long shows start cap q l h.0 of_last h.1 in
      let ended = goes_by shows start q h.2 0 h.0.held c.held h.3 (works_ending q h.2 h.0 c (of_still q l.held h.0.held slept.works.still of_last) h.4) in (
        (goes_then shows start q a.held l.held c.held g (goes_then shows start q l.held h.0.held c.held slept ended)).works,
        ends_from a l h.1.0 h.1.1 h.2 c g h.1.2 h.3 (subst (λ (x : Looping). HasEnded h.2 x c) h.1.3 h.4),
      )

  -- events that were told behind a pause, at whose moment nothing more is looked for
  closes : (called : List Listening → Type 0) (now : ℕ) (b c : Looping) → IsMoment shows start now → IsClosed called b c → Goes shows start q.constants.setting b.held c.held
  closes called now b c m h =
      goes_by shows start q now 0 b.held c.held m (works_acts q.constants.setting now b.held c.held h.poster (ap (λ (t : Tally). t.home) h.pass) h.looper (quiet_events called b.held.journal.acts c.held.journal.acts h.told))

  -- nothing was due at the cap, or the bell was rung
  pub loop_pauses : (called : List Listening → Type 0) (p : Pause) (a l b c : Looping) → IsOf a.held.poster q → Goes shows start q.constants.setting a.held l.held → HasPaused shows start cap l b p → IsClosed called b c → LoopBy shows start cap q.constants.setting a.held c.held (loop_of p)
  loop_pauses called (pause.Cap now) a l b c of g h k =
      let of_last = of_still q a.held l.held g.works.still of in
      let slept = waits_long shows start cap q l h.0 of_last h.1 in
      let of_slept = of_still q l.held h.0.held slept.works.still of_last in
      let idle : h.0.idle_owed ≡ l.idle_owed = ap (λ (x : Looping). x.idle_owed) h.1.3 in
      let looked = looking shows start q h.0 h.0.held.poster h.2 now h.3 of_slept (subst (λ i. HasLooked shows start i now (nexted.Wait h.3) h.0.held.poster h.2) (sym idle) h.4) in
      let paused : Goes shows start q.constants.setting h.0.held b.held = subst (λ (x : Looping). Goes shows start q.constants.setting h.0.held x.held) (sym h.6) looked in
      let all = goes_then shows start q a.held l.held b.held g (goes_then shows start q l.held h.0.held b.held slept paused) in
      let here : b.held.poster ≡ h.2 = ap (λ (x : Looping). x.held.poster) h.6 in
      let at : h.0.held.poster ≡ h.1.0 = ap (λ (x : Looping). x.held.poster) h.1.3 in (
        (goes_then shows start q a.held b.held c.held all (closes called now b c h.4.moment k)).works,
        last_wait a.held l.held l.idle_owed c.held.poster (waited.Cap now) g (h.1.1, h.1.0, h.1.2, (h.3, subst (λ (x : Sender × Sender). HasLooked shows start l.idle_owed now (nexted.Wait h.3) x.0 x.1) (λ i. (at i, sym (k.poster ∙ here) i)) h.4, h.5)),
      )
  loop_pauses called pause.Nudged a l b c of g h k =
      let of_last = of_still q a.held l.held g.works.still of in
      let slept = waits_long shows start cap q l h.0 of_last h.1 in
      let of_slept = of_still q l.held h.0.held slept.works.still of_last in
      let idle : h.0.idle_owed ≡ l.idle_owed = ap (λ (x : Looping). x.idle_owed) h.1.3 in
      let n = h.3 in
      let looked = looking shows start q h.0 h.0.held.poster n.looked n.now n.until of_slept (subst (λ i. HasLooked shows start i n.now (nexted.Wait n.until) h.0.held.poster n.looked) (sym idle) n.look) in
      let heard = works_on_then shows start q.constants.setting h.0.held (by_poster h.0 n.looked).held (by_poster h.0 h.2).held looked.works (listening shows start q h.0 n.looked h.2 n.listened) in
      let paused : IsLoopPart shows start q.constants.setting h.0.held b.held = subst (λ (x : Looping). IsLoopPart shows start q.constants.setting h.0.held x.held) (sym h.4) heard in
      let all = works_on_then shows start q.constants.setting a.held h.0.held b.held (goes_then shows start q a.held l.held h.0.held g slept).works paused in
      let here : b.held.poster ≡ h.2 = ap (λ (x : Looping). x.held.poster) h.4 in
      let at : h.0.held.poster ≡ h.1.0 = ap (λ (x : Looping). x.held.poster) h.1.3 in (
        works_on_then shows start q.constants.setting a.held b.held c.held all (closes called n.now b c n.look.moment k).works,
        last_wait a.held l.held l.idle_owed c.held.poster waited.Nudged g (h.1.1, h.1.0, h.1.2, subst (λ (x : Sender × Sender). HasNudged shows start l.idle_owed cap x.0 x.1) (λ i. (at i, sym (k.poster ∙ here) i)) n),
      )

  earlier : (a b : Holding) (c : Sender) (answer : Waited Claimed TableId) → Goes shows start q.constants.setting a b → LastWait shows start cap b.poster c answer → LastWait shows start cap a.poster c answer
  earlier a b c answer g w = (w.0, w.1, (let one = g.works.still.turns in let two = w.2 in omega (arith, one, two)), w.3 ∙ g.heard, w.4)

  -- a loop goes on from its beginning
  pub loop_begun : (a b c : Holding) (r : Loop) → Goes shows start q.constants.setting a b → LoopBy shows start cap q.constants.setting b c r → LoopBy shows start cap q.constants.setting a c r
  loop_begun a b c loop.Ended g h = (
    works_on_then shows start q.constants.setting a b c g.works h.0,
    elim h.1 [
      | inl end ↦ inl (end.0, earlier a b c.poster (waited.End end.0) g end.1)
      | inr over ↦ inr (earlier a b c.poster waited.Over g over)
    ],
  )
  loop_begun a b c (loop.Cap now) g h = (works_on_then shows start q.constants.setting a b c g.works h.0, earlier a b c.poster (waited.Cap now) g h.1)
  loop_begun a b c loop.Nudged g h = (works_on_then shows start q.constants.setting a b c g.works h.0, earlier a b c.poster waited.Nudged g h.1)
  loop_begun a b c loop.NoMemory g h = tt

  -- the same, where the looper may be left after some steps
  pub some_begun : (a b c : Holding) (r : Option Loop) → Goes shows start q.constants.setting a b → LoopsOrGoes shows start cap q.constants.setting b c r → LoopsOrGoes shows start cap q.constants.setting a c r
  some_begun a b c None g h = works_on_then shows start q.constants.setting a b c g.works h
  some_begun a b c (Some r) g h = loop_begun a b c r g h

-- what is said of the listenings can be weakened
pub closed_as : (P Q : List Listening → Type 0) (a b : Looping) → ((heard : List Listening) → P heard → Q heard) → IsClosed P a b → IsClosed Q a b
closed_as P Q a b weaker h = record { poster = h.poster; pass = h.pass; looper = h.looper; told = tells_as P Q a.held.journal.acts b.held.journal.acts weaker h.told; idle_owed = h.idle_owed }

steps_as : (P Q : List Listening → Type 0) (shows : ℕ → Bool) (start : ℕ) (cap : Option ℕ) (a b : Looping) (r : Loop) → ((heard : List Listening) → P heard → Q heard) → StepsUntil P shows start cap a b r → StepsUntil Q shows start cap a b r
steps_as P Q shows start cap a b loop.Ended weaker h = (h.0, h.1, h.2, h.3, weaker [] h.4)
steps_as P Q shows start cap a b (loop.Cap now) weaker h = (h.0, h.1, h.2, h.3, h.4, closed_as P Q h.2 b weaker h.5)
steps_as P Q shows start cap a b loop.Nudged weaker h = (h.0, h.1, h.2, h.3, h.4, closed_as P Q h.2 b weaker h.5)
steps_as P Q shows start cap a b loop.NoMemory weaker h = h

-- the listeners that were asked at the start
begun_at : (P : List Listening → Type 0) (a b : Looping) (h : IsBegun P a b) → IsBegun (λ x. x ≡ h.told.0) a b
begun_at P a b h = record { left = h.left; lent = h.lent; poster = h.poster; pass = h.pass; looper = h.looper; told = (h.told.0, h.told.1, h.told.2, refl); idle_owed = h.idle_owed }

-- a beginning, and then steps
pub begins : (P : List Listening → Type 0) (Q : List Listening → Type 0) (C : ℕ → List Listening → List Listening → Type 0) (shows : ℕ → Bool) (start : ℕ) (cap : Option ℕ) (now : ℕ) (a b c : Looping) (r : Loop)
    → IsMoment shows start now → IsBegun P a b → ((heard more : List Listening) → P heard → Q more → C now heard more) → StepsUntil Q shows start cap b c r → IsLoop C shows start cap a c r
begins P Q C shows start cap now a b c loop.Ended m h both s =
    (now, m, h.told.0, b, begun_at P a b h, steps_as Q (C now h.told.0) shows start cap b c loop.Ended (λ more x. both h.told.0 more h.told.3 x) s)
begins P Q C shows start cap now a b c (loop.Cap at) m h both s =
    (now, m, h.told.0, b, begun_at P a b h, steps_as Q (C now h.told.0) shows start cap b c (loop.Cap at) (λ more x. both h.told.0 more h.told.3 x) s)
begins P Q C shows start cap now a b c loop.Nudged m h both s =
    (now, m, h.told.0, b, begun_at P a b h, steps_as Q (C now h.told.0) shows start cap b c loop.Nudged (λ more x. both h.told.0 more h.told.3 x) s)
begins P Q C shows start cap now a b c loop.NoMemory m h both s = (b, begun_any P a b h, inr s)

-- the same, where the looper may be left after some steps
pub some_begins : (P : List Listening → Type 0) (Q : List Listening → Type 0) (C : ℕ → List Listening → List Listening → Type 0) (shows : ℕ → Bool) (start : ℕ) (cap most : Option ℕ) (now : ℕ) (a b c : Looping) (r : Option Loop)
    → IsMoment shows start now → IsBegun P a b → ((heard more : List Listening) → P heard → Q more → C now heard more) → StepsOrGoes Q shows start cap most b c r → IsLoopOrGoes C shows start cap most a c r
some_begins P Q C shows start cap None now a b c None m h both s = absurd s
some_begins P Q C shows start cap (Some most) now a b c None m h both s = (now, m, h.told.0, b, begun_at P a b h, s.0, both h.told.0 [] h.told.3 s.1)
some_begins P Q C shows start cap None now a b c (Some r) m h both s = begins P Q C shows start cap now a b c r m h both s
some_begins P Q C shows start cap (Some most) now a b c (Some r) m h both s = begins P Q C shows start cap now a b c r m h both s

-- what was asked at the start and at the end
pub asks_both : (old mid new : Option (List Asked)) (now : ℕ) (heard more : List Listening) → mid ≡ with_asked old (asked_by_round now heard) → new ≡ with_asked mid (map Listen more) → new ≡ with_asked old (asked_by_round now heard ++ map Listen more)
asks_both old mid new now heard more first last = last ∙ (ap (λ t. with_asked t (map Listen more)) first ∙ with_more old (asked_by_round now heard) (map Listen more))

-- a wait that was answered, as what a looper may act on
pub may_act : (M : Test) (others : KeepsOthers M) (quiet : KeepsQuiet M) (shows : ℕ → Bool) (start : ℕ) (cap : Option ℕ) (q : Shared TableId) (pool : TableId) (l : Looping) (p : Sender) (n : ℕ) (between : Sender) (now : ℕ) (answer : Nexted Claimed TableId)
    → IsAt q pool l.held → Passes M l.held → Slept shows start l.idle_owed cap n l.held.poster between → HasLooked shows start l.idle_owed now answer between p → HasAnswer M (by_poster l p) answer
may_act M others quiet shows start cap q pool l p n between now answer at passes slept looked =
    let long = sleeps_on shows start cap q n l between at.poster slept in
    record {
      queue = q;
      poster = between;
      now = now;
      of = long;
      look = looked.look;
      passes = passes_slept M others quiet shows start l.idle_owed l.held cap n l.held.poster between slept passes;
    }

-- what a pause leaves of a test
pub passes_pause : (M : Test) (others : KeepsOthers M) (quiet : KeepsQuiet M) (shows : ℕ → Bool) (start : ℕ) (cap : Option ℕ) (l : Looping) (p : Sender) (w : Waited Claimed TableId) (r : Pause)
    → Passes M l.held → WaitedBy shows start l.idle_owed cap l.held.poster p w → Pauses w r → Passes M (looked_by l.held p)
passes_pause M others quiet shows start cap l p (waited.Cap at) r passes h is =
    passes_look M others quiet shows start l.idle_owed l.held h.1 p at h.3.0 h.3.1 (passes_slept M others quiet shows start l.idle_owed l.held cap h.0 l.held.poster h.1 h.2 passes)
passes_pause M others quiet shows start cap l p waited.Nudged r passes h is =
    let n = h.3 in
    passes_listening M others quiet shows start l.idle_owed l.held n.looked p n.listened
    (passes_look M others quiet shows start l.idle_owed l.held h.1 n.looked n.now n.until n.look (passes_slept M others quiet shows start l.idle_owed l.held cap h.0 l.held.poster h.1 h.2 passes))
passes_pause M others quiet shows start cap l p (waited.Taken n at node) r passes h is = absurd is
passes_pause M others quiet shows start cap l p waited.Idle r passes h is = absurd is
passes_pause M others quiet shows start cap l p (waited.End list) r passes h is = absurd is
passes_pause M others quiet shows start cap l p waited.Over r passes h is = absurd is

-- a pause, as a looper's
pub pauses : (shows : ℕ → Bool) (start : ℕ) (cap : Option ℕ) (l : Looping) (p : Sender) (w : Waited Claimed TableId) (r : Pause) → WaitedBy shows start l.idle_owed cap l.held.poster p w → Pauses w r → HasPaused shows start cap l (by_poster l p) r
pauses shows start cap l p (waited.Cap at) (pause.Cap now) h is =
    (by_poster l h.1, (h.1, h.0, h.2, refl), p, h.3.0, subst (λ (n : ℕ). HasLooked shows start l.idle_owed n (nexted.Wait h.3.0) h.1 p) (sym is) h.3.1, subst (IsCap cap) (sym is) h.3.2, refl)
pauses shows start cap l p (waited.Cap at) pause.Nudged h is = absurd is
pauses shows start cap l p waited.Nudged (pause.Cap now) h is = absurd is
pauses shows start cap l p waited.Nudged pause.Nudged h is = (by_poster l h.1, (h.1, h.0, h.2, refl), p, h.3, refl)
pauses shows start cap l p (waited.Taken n at node) r h is = absurd is
pauses shows start cap l p waited.Idle r h is = absurd is
pauses shows start cap l p (waited.End list) r h is = absurd is
pauses shows start cap l p waited.Over r h is = absurd is

-- a pause, and events behind it, end the steps
pub steps_pause : (called : List Listening → Type 0) (shows : ℕ → Bool) (start : ℕ) (cap : Option ℕ) (n : ℕ) (a l b c : Looping) (p : Pause) → Stepped shows start cap n a l → HasPaused shows start cap l b p → IsClosed called b c → StepsUntil called shows start cap a c (loop_of p)
steps_pause called shows start cap n a l b c (pause.Cap now) st h k = (n, l, b, st, h, k)
steps_pause called shows start cap n a l b c pause.Nudged st h k = (n, l, b, st, h, k)

-- what a step comes to, where its look was not answered to wait
pub paces : (shows : ℕ → Bool) (start : ℕ) (cap : Option ℕ) (a b : Looping) (answer : Nexted Claimed TableId) (r : Step) → IsNoWait answer → WaitsAsTold answer r → HasStepped shows start cap a b r → HasPaced shows start cap a b (pace_of r)
paces shows start cap a b answer step.Dispatched found told h = (step.Dispatched, tt, h)
paces shows start cap a b answer step.Idled found told h = (step.Idled, tt, h)
paces shows start cap a b answer (step.Waits until) found told h = absurd (subst IsNoWait told found)
paces shows start cap a b answer step.Ends found told h = h
paces shows start cap a b answer step.NoMemory found told h = h

pub unless_paced : (P : Type 0) (r : Step) → UnlessStopped r P → UnlessHalted (pace_of r) P
unless_paced P step.Dispatched h = h
unless_paced P step.Idled h = h
unless_paced P (step.Waits until) h = h
unless_paced P step.Ends h = h
unless_paced P step.NoMemory h = tt

pub unless_pauses : (P : Type 0) (r : Pause) → P → UnlessLost (loop_of r) P
unless_pauses P (pause.Cap now) h = h
unless_pauses P pause.Nudged h = h

-- a pause ends no looper
pub pause_goes_on : (r : Pause) → false ≡ has_ended_looper (loop_of r)
pause_goes_on (pause.Cap now) = refl
pause_goes_on pause.Nudged = refl

-- that the looper is marked as ended is no part of a step
pub steps_marked : (shows : ℕ → Bool) (start : ℕ) (cap : Option ℕ) (a b : Looping) → HasStepped shows start cap a b step.Ends → HasStepped shows start cap a (record { held = b.held; idle_owed = b.idle_owed; ended = true }) step.Ends
steps_marked shows start cap a b h = (h.0, h.1, h.2, h.3, ends_marked h.2 h.0 b h.4)
