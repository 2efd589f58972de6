-- A stage in a run by a clock.
use Rattle.std.proofs.Common.{◌≡◌, ◌<◌, ℕ, zero, suc, Bool, true, false, List, [], ◌∷◌, ◌++◌, length, set, Option, Some, None, inl, inr, refl, sym, ap, ◌∙◌, subst, arith, ◌≢◌, ◌≤◌, ◌+◌}
use Rattle.std.specs.Prelude.{slice_index_or, ◌==◌}
use mathlib.Core.List.{IsPrefix}
use Rattle.loop_model.specs.declared.journal.Journal.{Journal}
use Rattle.loop_model.proofs.Prefixes.{prefix_self, prefix_trans}
use Rattle.dash_script.specs.declared.script.Script.{Script}
use Rattle.looper_run.specs.Holding.{Looping, Sender}
use Rattle.looper_run.specs.Round.{is_ended}
use Rattle.looper_run.specs.declared.by_clock.Loop.TheVariants as loop
use Rattle.run_model.specs.Moments.{Mode, AreOfClockAfter}
use Rattle.dash_hall.specs.declared.hall.Hall.{Hall}
use Rattle.dash_hall.specs.Hearing.{AtEach, HaveHeard, HasHeard, AreKept, AreKnown, PassesHaveHeard}
use Rattle.dash_hall.specs.Kits.{IsHall, ArePostersOf, AreUnseen}
use Rattle.dash_loopers.specs.declared.looper.StageLooper.{StageLooper}
use Rattle.dash_loopers.specs.Loopers.{IsLooper, LooperKeeps, is_given_up, posters_of}
use Rattle.dash_loopers.specs.Looped.{GoesOnFrom, HasGoneRound, LoopsUntilStopped, StopsBy, HasLooped}
use Rattle.dash_loopers.proofs.LooperNext.{stopped_not, played_self, grown_self}
use Rattle.dash_stage.specs.ByClock.{LoopsFor, LoopsAlone, LoopsToEnd, LoopsOut, LoopSideBySide, HaveLooped, RunsByClock, EachIsThread, EachIsLooper, QuitsOthers, CanRunMain, CanQuitOthers}
use Rattle.dash_stage.specs.Playing.{HaveBegun, EachStandsBetweenLoops}
use Rattle.dash_stage.specs.Stages.{AreLoopers, OthersHaveEnded, LoopersGoOn, IsStageIn, AreThreads, HaveRunBy, GoOn}
use Rattle.dash_loopers.proofs.LooperShares.{own_kept}
use Rattle.std.specs.Global.{Vec}
use Rattle.std.proofs.lemmas.List.{nil_from_length, length-append, length-set, get_or-set_same, get_or-set_other, get_or_past, get_or_default}
use Rattle.std.proofs.lemmas.List.Elements.{filter-append}
use mathlib.Core.Logic.{dite}
use native.Mathlib.Decide.{ℕ_discrete, dec_lt}
use Rattle.loop_model.specs.declared.entry.Entry.{Entry}
use Rattle.loop_model.specs.declared.call.Call.TheVariants.{Quit}
use Rattle.queue_state.specs.Queue.{entry_of, moment_at}
use Rattle.run_model.specs.Planned.{entries_by, controller, lines_of}
use Rattle.run_model.specs.Control.{are_before_quit}
use Rattle.dash_hall.specs.Growth.{own}
use Rattle.choreographer.specs.Known.{Pass}
use Rattle.dash_hall.proofs.Clocking.{quits_enter, clocked_same, if_free}
use Rattle.dash_hall.proofs.Hearing.{heard_at, have_heard, have_heard_self, have_heard_then}
use Rattle.dash_hall.proofs.Sharing.{each_then, each_self}
use Rattle.dash_threads.specs.declared.thread.PostingThread.{PostingThread}
use Rattle.dash_threads.specs.Threads.{ThreadKeeps, IsUpTo, AreByClock}
use Rattle.dash_stage.specs.declared.control.Controller.{Controller}
use Rattle.dash_stage.specs.declared.stage.Stage.{Stage}
use Rattle.dash_stage.specs.BehindThreads.{SeesMore, HasHeardThreads, HasMadeAll, CallsBehindThreads}
use Rattle.dash_stage.proofs.Controller.ControlTurns.{MayQuit}
use Rattle.dash_stage.specs.Controllers.{IsControllerIn, CallsNothingOn, IsClosingBy, HasClosedIn}
use Rattle.dash_stage.specs.GivingUp.{rings, HaveBeenRung}
use Rattle.dash_stage.specs.Sharing.{OfThreads, ControllerKeeps, HaveSeenTheSame, OfLoopers, OfSenders, StageKeeps}
use Rattle.dash_stage.specs.Timeliness.{whole_on, TurnsOn, EachTurnsOn, IsHaltEntry}
use Rattle.dash_stage.proofs.Ends.HallEnds.{some_of}
use Rattle.dash_threads.proofs.ThreadShares.{thread_then, thread_self, thread_weaker, thread_kept, up_to_kept}
use Rattle.dash_stage.proofs.Sharing.{of_threads_then, run_kept, ended_kept, calls_none, controller_kept, of_senders_then}
use Rattle.dash_stage.proofs.Stages.StageWhole.{as_many, sender_at, entries_own, thread_entries}
use Rattle.dash_stage.proofs.Stages.Timely.{before_quit_more, before_quit_block}
use Rattle.std.specs.Option.{IsSomeAnd}
use Rattle.loop_model.specs.declared.journal.Act.{Act}
use Rattle.dash_script.specs.Reading.{HasText}
use Rattle.run_model.specs.Parts.{AreOfClock}
use Rattle.run_model.specs.Loopers.{LooperState, first_looper}
use Rattle.dash_hall.specs.ByClock.{is_by}
use Rattle.dash_loopers.specs.declared.player.Parts.{Parts}
use Rattle.dash_loopers.specs.Played.{StandsBy, StandsSomewhere}
use Rattle.dash_loopers.proofs.LooperPlayed.{comes_free}
use Rattle.dash_stage.specs.ControlSteps.{HasHaltedMain}
use Rattle.dash_stage.specs.Opening.{HasOpened}
use Rattle.dash_stage.specs.RunEnds.{HasRunByClock, HasBegunByClock, IsClosingByClock, HasEndedByClock}
use Rattle.dash_stage.proofs.Controller.Controls.{closing_by_kept, closed_kept, nothing_kept}
use Rattle.dash_stage.proofs.Played.PlayedStage.{heard_come_by}
use Rattle.dash_stage.proofs.Stages.StageTurns.{halted_stays, go_on_kept}

-- ==== how the loopers of a run by a clock have looped, each up to its end, and gone on from there

-- what is so at each place is so in another way
pub each_so : {X : Type 0} (R Q : X → X → Type 0) → ((x y : X) → R x y → Q x y) → (xs ys : List X) → AtEach R xs ys → AtEach Q xs ys
each_so R Q so xs ys a = record { long = a.long; each = λ k d lt. so (slice_index_or xs k d) (slice_index_or ys k d) (a.each k d lt) }

-- of one, that one was written
pub one_set : {X : Type 0} (R : X → X → Type 0) (xs : List X) (x y : X) → x ≡ slice_index_or xs 0 x → length xs ≡ 1 → R x y → AtEach R xs (set xs 0 y)
one_set R [] x y is one r = absurd (omega (arith, one))
one_set R (z ∷ w ∷ xs) x y is one r = absurd (omega (arith, one))
one_set R (z ∷ []) x y is one r = record { long = refl; each = at }
  where
    at : (k : ℕ) (d : _) → k < 1 → R (slice_index_or (z ∷ []) k d) (slice_index_or (y ∷ []) k d)
    at zero d lt = subst (λ a. R a y) is r
    at (suc k) d lt = absurd (omega (arith, lt))

module _ (m : Mode) (s : Script) where
  -- main's last loop came to the end, where it has neither ended nor given up
  pub looped_to_end : (a b : StageLooper) → LoopsUntilStopped m s (Some s.end) a b None → is_ended b.last ≡ false → is_given_up b.last ≡ false → LoopsToEnd m s a b
  looped_to_end a b l unended going = by l.stops
    where
      by : StopsBy m s (Some s.end) l.between b None → LoopsToEnd m s a b
      by (inl (stopped, same)) =
          absurd (stopped_not (is_ended l.between.last) (is_given_up l.between.last) (ap (λ (z : StageLooper). is_ended z.last) (sym same) ∙ unended)
          (ap (λ (z : StageLooper). is_given_up z.last) (sym same) ∙ going) stopped)
      by (inr (how, loops, at_end)) = record { count = l.count; between = l.between; rounds = l.rounds; how = how; loops = loops; at_end = at_end }

  -- a looper that looped without an end did so until its queue was over, where it has ended
  pub looped_out : (look : Option Bool) (a b : StageLooper) → LoopsUntilStopped m s None a b look → is_ended b.last ≡ true → LoopsOut m s a b
  looped_out look a b l ended = record { count = l.count; rounds = subst (λ (z : StageLooper). HasGoneRound m s None l.count a z) (sym (same look l.stops)) l.rounds; ended = ended }
    where
      same : (o : Option Bool) → StopsBy m s None l.between b o → b ≡ l.between
      same (Some look) (is, going, e) = e
      same None (inl (stopped, e)) = e
      same None (inr (loop.Ended, loops, at_end)) = absurd cc
      same None (inr (loop.Cap now, loops, at_end)) = absurd cc
      same None (inr (loop.Nudged, loops, at_end)) = absurd cc
      same None (inr (loop.NoMemory, loops, at_end)) = absurd cc

  -- main and the others, side by side
  pub side_by_side : (hall : Hall) (xs xs' ys ys' : List StageLooper) → length xs ≡ 1 → AtEach (LoopsFor m s hall (Some s.end) None) xs xs'
      → AtEach (LoopsAlone m s hall) ys ys' → LoopSideBySide m s (xs ++ ys) (xs' ++ ys')
  side_by_side hall [] xs' ys ys' one a b = absurd (omega (arith, one))
  side_by_side hall (x ∷ z ∷ xs) xs' ys ys' one a b = absurd (omega (arith, one))
  side_by_side hall (x ∷ []) [] ys ys' one a b = (let long = a.long in absurd (omega (arith, long)))
  side_by_side hall (x ∷ []) (x' ∷ z ∷ xs') ys ys' one a b = (let long = a.long in absurd (omega (arith, long)))
  side_by_side hall (x ∷ []) (x' ∷ []) ys ys' one a b = record { main = λ d lt. (a.each 0 d (omega arith)).loops; others = other }
    where
      other : (k : ℕ) (d : StageLooper) → 0 < k → k < length (x ∷ ys) → (look : Option Bool) × LoopsUntilStopped m s None (slice_index_or (x ∷ ys) k d) (slice_index_or (x' ∷ ys') k d) look
      other zero d some lt = absurd (omega (arith, some))
      other (suc k) d some lt = (let one = b.each k d (omega (arith, lt)) in (one.0, one.1.loops))

-- ---- going on from there

pub on_self : (l : Looping) → GoesOnFrom l l
on_self l = record { seen = prefix_self l.held.poster.view.seen; acts = prefix_self l.held.journal.acts }

pub on_then : (a b c : Looping) → GoesOnFrom a b → GoesOnFrom b c → GoesOnFrom a c
on_then a b c f g = record {
  seen = prefix_trans a.held.poster.view.seen b.held.poster.view.seen c.held.poster.view.seen f.seen g.seen;
  acts = prefix_trans a.held.journal.acts b.held.journal.acts c.held.journal.acts f.acts g.acts;
}

-- a looper that only heard others
pub on_heard : (s : Script) (hall : Hall) → IsHall s hall → (l : StageLooper) → IsLooper s hall l → (b : StageLooper) → LooperKeeps HaveHeard l b → GoesOnFrom l.looper b.looper
on_heard s hall is_hall l is b k = record {
  seen = (own_kept s hall is_hall l is b k).more;
  acts = subst (λ (j : Journal). IsPrefix l.looper.held.journal.acts j.acts) (sym k.beside.journal) (prefix_self l.looper.held.journal.acts);
}

abbrev pub GoOnFrom : List StageLooper → List StageLooper → Type 0
GoOnFrom before after = AtEach (λ before after. GoesOnFrom before.looper after.looper) before after

pub looped_on : (m : Mode) (s : Script) (ls ls' : List StageLooper) → HaveLooped m s ls → GoOnFrom ls ls' → HaveLooped m s ls'
looped_on m s ls ls' h on = record {
  began = h.began;
  looped = h.looped;
  long = h.long;
  nothing = h.nothing;
  main = h.main;
  others = h.others;
  on = record {
    long = on.long ∙ h.on.long;
    each = λ k d lt. on_then (slice_index_or h.looped k d).looper (slice_index_or ls k d).looper (slice_index_or ls' k d).looper (h.on.each k d lt)
        (on.each k d (subst (λ (n : ℕ). k < n) (sym h.on.long) lt));
  };
}

pub all_heard : (s : Script) (hall : Hall) → IsHall s hall → (ls ls' : List StageLooper) → AreLoopers s hall ls → AtEach (LooperKeeps HaveHeard) ls ls' → GoOnFrom ls ls'
all_heard s hall is_hall ls ls' are kept = record {
  long = kept.long;
  each = λ k d lt. on_heard s hall is_hall (slice_index_or ls k d) (are.1 k d lt).0 (slice_index_or ls' k d) (kept.each k d lt);
}

-- by a clock, unless memory ran out
pub all_grew : (m : Mode) (s : Script) (hall : Hall) (ls ls' : List StageLooper) → AtEach (HasLooped m s hall) ls ls' → LoopersGoOn ls' → GoOnFrom ls ls'
all_grew m s hall ls ls' ran on = record { long = ran.long; each = λ k d lt. (ran.each k d lt).grew (on k d (subst (λ (n : ℕ). k < n) (sym ran.long) lt)) }

-- they have looped from before the first act
pub looped_first : (m : Mode) (s : Script) (ls ls' : List StageLooper) → HaveBegun s ls → length ls' ≡ length ls → LoopSideBySide m s ls ls' → OthersHaveEnded ls'
    → LoopersGoOn ls' → ((d : StageLooper) → is_ended (slice_index_or ls' 0 d).last ≡ false) → HaveLooped m s ls'
looped_first m s ls ls' begun long side ended on going = record {
  began = ls;
  looped = ls';
  long = long;
  nothing = begun;
  main = λ d lt. looped_to_end m s (slice_index_or ls 0 d) (slice_index_or ls' 0 d) (side.main d lt) (going d) (on 0 d (subst (λ (n : ℕ). 0 < n) (sym long) lt));
  others = λ k d some lt. (let one = side.others k d some lt in
      looped_out m s one.0 (slice_index_or ls k d) (slice_index_or ls' k d) one.1 (ended k d some (subst (λ (n : ℕ). k < n) (sym long) lt)));
  on = record { long = refl; each = λ k d lt. on_self (slice_index_or ls' k d).looper };
}

-- ==== by a clock the controller's quits stand behind all that the threads have called

-- ---- what is seen

-- one entry more
more_by_one : (xs ys : List Entry) (e : Entry) → IsPrefix xs ys → IsPrefix xs (ys ++ e ∷ [])
more_by_one xs ys e p = prefix_trans xs ys (ys ++ e ∷ []) p (e ∷ [], refl)

-- a sender has as many entries in a history as in its beginning, or more
entries_grow : (n : ℕ) (xs ys : List Entry) → IsPrefix xs ys → length (entries_by n xs) ≤ length (entries_by n ys)
entries_grow n xs ys p =
    let split : entries_by n ys ≡ entries_by n xs ++ entries_by n p.0 = ap (entries_by n) (sym p.1) ∙ filter-append (λ (e : Entry). e.sender == n) xs p.0 in
    let long = ap length split in
    let sum = length-append (entries_by n xs) (entries_by n p.0) in
    omega (arith, long, sum)

pub sees_self : (c : Controller) → SeesMore c c
sees_self c = record { long = refl; each = λ q d lt. prefix_self (whole_on c q d) }

pub sees_heard : (a b : Controller) → HaveHeard a.kit.posters.items b.kit.posters.items → SeesMore a b
sees_heard a b h = record { long = h.long; each = λ q d lt. (h.each q d lt).more }

pub sees_then : (a b c : Controller) → SeesMore a b → SeesMore b c → SeesMore a c
sees_then a b c f g = record {
  long = g.long ∙ f.long;
  each = λ q d lt. prefix_trans (whole_on a q d) (whole_on b q d) (whole_on c q d) (f.each q d lt) (g.each q d (subst (λ (n : ℕ). q < n) (sym f.long) lt));
}

-- a turn of each poster
turned_more : (P : Entry → Type 0) (p p' : Sender) → TurnsOn P p p' → IsPrefix p.view.seen p'.view.seen
turned_more P p p' t = elim t.step [
  | inl same ↦ subst (IsPrefix p.view.seen) (sym same) t.begins
  | inr one ↦ subst (IsPrefix p.view.seen) (sym one.1) (more_by_one p.view.seen t.found one.0 t.begins)
]

pub sees_turned : (P : Entry → Type 0) (a b : Controller) → EachTurnsOn P a b → SeesMore a b
sees_turned P a b t = record {
  long = t.long;
  each = λ q d lt. turned_more P (slice_index_or a.kit.posters.items q d) (slice_index_or b.kit.posters.items q d) (t.each q d lt);
}

-- a quit
pub quits_see : (p p' : Sender) (now : ℕ) → MayQuit p p' now → IsPrefix p.view.seen p'.view.seen
quits_see p p' now (inl same) = subst (λ (z : Sender). IsPrefix p.view.seen z.view.seen) (sym same) (prefix_self p.view.seen)
quits_see p p' now (inr quits) =
    let enters = quits_enter p p' true now quits in
    let x = enters.0 in
    let t = enters.2 in
    let e = entry_of x p.sender (Quit true (moment_at x now)) enters.3 in
    subst (IsPrefix p.view.seen) (sym (t.seen ∙ enters.4)) (more_by_one p.view.seen x.entries e t.begins)

-- one poster alone did something
pub sees_one : (a b c : Controller) (i : ℕ) → length c.kit.posters.items ≡ length b.kit.posters.items → ((d : Sender) → IsPrefix (whole_on b i d) (whole_on c i d))
    → ((q : ℕ) (d : Sender) → q ≢ i → slice_index_or c.kit.posters.items q d ≡ slice_index_or b.kit.posters.items q d) → SeesMore a b → SeesMore a c
sees_one a b c i long here elsewhere more = record {
  long = long ∙ more.long;
  each = λ q d lt. dite (ℕ_discrete q i)
      (λ at. subst (λ (n : ℕ). IsPrefix (whole_on a n d) (whole_on c n d)) (sym at)
      (prefix_trans (whole_on a i d) (whole_on b i d) (whole_on c i d) (more.each i d (subst (λ (n : ℕ). n < length a.kit.posters.items) at lt)) (here d)))
      (λ apart. subst (λ (p : Sender). IsPrefix (whole_on a q d) p.view.seen) (sym (elsewhere q d apart)) (more.each q d lt));
}

-- ---- the controller hears the threads

-- threads whose posters are kept have run as they had
kept_heard : (x y : PostingThread) → ThreadKeeps AreKept x y → ThreadKeeps HaveHeard x y
kept_heard x y k = thread_weaker AreKept HaveHeard (λ a b same. subst (HaveHeard a) (sym same) (have_heard_self a)) x y k

pub runs_kept : (m : Mode) (s : Script) (hall : Hall) (ts us vs : List PostingThread) → AtEach (RunsByClock m s hall) ts us → AtEach (ThreadKeeps AreKept) us vs → AtEach (RunsByClock m s hall) ts vs
runs_kept m s hall ts us vs ran kept = each_then (RunsByClock m s hall) (ThreadKeeps AreKept) (RunsByClock m s hall) ts us vs (λ x y z r k. record {
  thread = thread_kept s hall y z (kept_heard y z k) r.thread;
  number = k.number ∙ r.number;
  made = λ on up. up_to_kept m s (lines_of x.number s.blocks) y z (kept_heard y z k) (r.made (sym k.gave_up ∙ on) up);
}) ran kept

-- threads of the script, whose posters are kept
pub threads_still : (s : Script) (hall : Hall) (ts us : List PostingThread) → EachIsThread s hall ts → AtEach (ThreadKeeps AreKept) ts us → EachIsThread s hall us
threads_still s hall ts us are kept k d lt =
    let within : k < length ts = subst (λ (n : ℕ). k < n) kept.long lt in
    let x : PostingThread = slice_index_or ts k d in
    let y : PostingThread = slice_index_or us k d in
    thread_kept s hall x y (kept_heard x y (kept.each k d within)) (are k d within)

-- the threads are kept through both
pub kept_then : (ts us vs : List PostingThread) → AtEach (ThreadKeeps AreKept) ts us → AtEach (ThreadKeeps AreKept) us vs → AtEach (ThreadKeeps AreKept) ts vs
kept_then ts us vs f g = each_then (ThreadKeeps AreKept) (ThreadKeeps AreKept) (ThreadKeeps AreKept) ts us vs (thread_then AreKept AreKept AreKept (λ a b c one two. two ∙ one)) f g

-- what is known of their posters stays known
known_still : (q : ℕ) (whole : List Entry) (us vs : List PostingThread) → AtEach (ThreadKeeps AreKept) us vs → OfThreads (AreKnown q whole) us → OfThreads (AreKnown q whole) vs
known_still q whole us vs kept = of_threads_then (AreKnown q whole) (AreKnown q whole) AreKept (λ ps qs same h. subst (AreKnown q whole) (sym same) h) us vs kept

-- of the first n queues the controller has seen all that the threads have
abbrev pub HasHeardOn : ℕ → List PostingThread → Controller → Type 0
HasHeardOn n ts c = (q : ℕ) (d : Sender) → q < n → q < length c.kit.posters.items → OfThreads (AreKnown q (whole_on c q d)) ts

-- one queue more, whose poster at the controller heard the threads'
module _ (n : ℕ) (us vs : List PostingThread) (b c : Controller) (p p' : Sender) (within : n < length b.kit.posters.items) (is_p : p ≡ slice_index_or b.kit.posters.items n p)
    (wrote : c.kit.posters.items ≡ set b.kit.posters.items n p') where
  pub hears_on : AtEach (ThreadKeeps AreKept) us vs → OfThreads (AreKnown n p'.view.seen) us → HasHeardOn n us b → HasHeardOn (n + 1) vs c
  hears_on kept told heard q d below lt =
      let long : length c.kit.posters.items ≡ length b.kit.posters.items = ap length wrote ∙ length-set b.kit.posters.items n p' in
      dite (ℕ_discrete q n)
      (λ at.
      let here : whole_on c n d ≡ p'.view.seen = ap (λ (xs : List Sender). (slice_index_or xs n d).view.seen) wrote ∙ ap (λ (z : Sender). z.view.seen) (get_or-set_same b.kit.posters.items n p' d within) in
      subst (λ (k : ℕ). OfThreads (AreKnown k (whole_on c k d)) vs) (sym at) (subst (λ (l : List Entry). OfThreads (AreKnown n l) vs) (sym here) (known_still n p'.view.seen us vs kept told)))
      (λ apart.
      let there : whole_on c q d ≡ whole_on b q d = ap (λ (xs : List Sender). (slice_index_or xs q d).view.seen) wrote ∙ ap (λ (z : Sender). z.view.seen) (get_or-set_other b.kit.posters.items n q p' d apart) in
      subst (λ (l : List Entry). OfThreads (AreKnown q l) vs) (sym there) (known_still q (whole_on b q d) us vs kept (heard q d (omega (arith, below, apart)) (omega (arith, lt, long)))))

  -- and its other posters are as they were
  pub hears_kept : (a : Controller) → c.kit.pass ≡ b.kit.pass → c.kit.frames ≡ b.kit.frames → c.sealed ≡ b.sealed → c.sealed_frames ≡ b.sealed_frames → HasHeard p p' → ControllerKeeps HaveHeard a b → ControllerKeeps HaveHeard a c
  hears_kept a pass frames sealed sealed_frames heard k =
      let one = have_heard n p'.view.seen b.kit.posters.items (set b.kit.posters.items n p') (heard_at b.kit.posters.items n p p' p'.view.seen within is_p heard refl) in
      record {
        posters = have_heard_then a.kit.posters.items b.kit.posters.items c.kit.posters.items k.posters (subst (HaveHeard b.kit.posters.items) (sym wrote) one);
        pass = pass ∙ k.pass;
        frames = subst (λ (v : Vec Pass). PassesHaveHeard a.kit.frames.items v.items) (sym frames) k.frames;
        sealed = sealed ∙ k.sealed;
        sealed_frames = sealed_frames ∙ k.sealed_frames;
      }

-- ---- the threads' calls come first

-- where the controller has seen all that the threads have, and called nothing
pub behind_first : (s : Script) (hall : Hall) (c : Controller) → IsControllerIn false s hall c → ((q : ℕ) → CallsNothingOn c q) → (ts : List PostingThread) → HasHeardThreads ts c → CallsBehindThreads s ts c
behind_first s hall c is none ts heard q d lt = record {
  past = whole_on c q d;
  begins = prefix_self (whole_on c q d);
  none = entries_own (controller s) hall.queues.items c.kit.posters.items c.kit.posters.items is.posters refl q d d lt ∙ none q d lt;
  threads = λ k t near p within. (let x = slice_index_or (slice_index_or ts k t).kit.posters.items q p in entries_grow x.sender x.view.seen (whole_on c q d) (heard q d lt k t near p));
}

made_all : (q : ℕ) (past : List Entry) (ps qs : List Sender) → HaveHeard ps qs → ((p : Sender) → q < length ps → HasMadeAll past (slice_index_or ps q p)) → (p : Sender) → q < length qs → HasMadeAll past (slice_index_or qs q p)
made_all q past ps qs heard made p lt =
    let within : q < length ps = subst (λ (n : ℕ). q < n) heard.long lt in
    let x = slice_index_or ps q p in
    let y = slice_index_or qs q p in
    let one = heard.each q p within in
    subst (λ (n : ℕ). length (own y) ≤ length (entries_by n past)) (sym one.same.sender)
    (subst (λ (l : List Entry). length l ≤ length (entries_by x.sender past)) (sym one.called) (made p within))

-- they stay there, whatever the controller does next
pub behind_on : (s : Script) (ts ts' : List PostingThread) (c c' : Controller) → AtEach (ThreadKeeps HaveHeard) ts ts' → SeesMore c c' → CallsBehindThreads s ts c → CallsBehindThreads s ts' c'
behind_on s ts ts' c c' kept more behind q d lt =
    let within : q < length c.kit.posters.items = subst (λ (n : ℕ). q < n) more.long lt in
    let was = behind q d within in
    let P : List Sender → Type 0 = λ posters. (p : Sender) → q < length posters → HasMadeAll was.past (slice_index_or posters q p) in
    record {
      past = was.past;
      begins = prefix_trans was.past (whole_on c q d) (whole_on c' q d) was.begins (more.each q d within);
      none = was.none;
      threads = of_threads_then P P HaveHeard (made_all q was.past) ts ts' kept was.threads;
    }

pub same_threads : (ts : List PostingThread) → AtEach (ThreadKeeps HaveHeard) ts ts
same_threads ts = each_self (ThreadKeeps HaveHeard) ts (thread_self HaveHeard have_heard_self)

-- a controller that hears rings no bell
rings_heard : (a b : Controller) → ControllerKeeps HaveHeard a b → (q : ℕ) (d : Sender) → rings b q d ≡ rings a q d
rings_heard a b kept q d = dite (dec_lt q (length a.kit.posters.items))
    (λ lt. (kept.posters.each q d lt).rung)
    (λ not.
    let long = kept.posters.long in
    let past : length a.kit.posters.items ≤ q = omega arith in
    let past' : length b.kit.posters.items ≤ q = omega (arith, past, long) in
    ap (λ (z : Sender). z.view.rung) (get_or_past b.kit.posters.items q d past' ∙ sym (get_or_past a.kit.posters.items q d past)))

pub rung_heard : (n : ℕ) (a b c : Controller) → ControllerKeeps HaveHeard a b → HaveBeenRung n b c → HaveBeenRung n a c
rung_heard n a b c kept rung q d below =
    let same = rings_heard a b kept q d in
    let more = rung q d below in
    omega (arith, same, more)

none_before : (threads n : ℕ) → are_before_quit threads n [] ≡ true
unfolding are_before_quit
none_before threads n = refl

-- a sender that has made all its calls by then makes none behind it
none_behind : (k : ℕ) (past more whole mine : List Entry) → past ++ more ≡ whole → entries_by k whole ≡ mine → length mine ≤ length (entries_by k past) → entries_by k more ≡ []
none_behind k past more whole mine is made all =
    let split : entries_by k past ++ entries_by k more ≡ mine = sym (filter-append (λ (e : Entry). e.sender == k) past more) ∙ (ap (entries_by k) is ∙ made) in
    let long = ap length split in
    let sum = length-append (entries_by k past) (entries_by k more) in
    nil_from_length (entries_by k more) (omega (arith, long, sum, all))

-- so the controller's quits stand behind the threads' calls
pub quits_behind : {lockstep : Bool} (s : Script) (st : Stage) → IsStageIn lockstep s st → HaveSeenTheSame st → CallsBehindThreads s st.threads.items st.controller
    → (q : ℕ) (d : Sender) → q < length st.controller.kit.posters.items → are_before_quit s.threads (controller s) (whole_on st.controller q d) ≡ true
quits_behind s st is same behind q d lt =
    let b = behind q d lt in
    let past : List Entry = b.past in
    let more : List Entry = b.begins.0 in
    let whole : List Entry = whole_on st.controller q d in
    let together : past ++ more ≡ whole = b.begins.1 in
    let cs = st.controller.kit.posters.items in
    subst (λ (l : List Entry). are_before_quit s.threads (controller s) l ≡ true) together
    (before_quit_more s.threads (controller s) past more (λ k below.
    let near : k < length st.threads.items = subst (λ (n : ℕ). k < n) (sym is.threads.0) below in
    let t = some_of st.threads.items k near in
    let one = is.threads.1 k t near in
    let x : PostingThread = slice_index_or st.threads.items k t in
    let there : q < length x.kit.posters.items = subst (λ (n : ℕ). q < n) (sym (as_many x.kit.posters.items cs (same.threads k t near))) lt in
    let sender = sender_at k st.hall.queues.items x.kit.posters.items (subst (λ (n : ℕ). ArePostersOf n st.hall.queues.items x.kit.posters.items) one.1 one.0.posters) q d there in
    let all = b.threads k t near d there in
    none_behind k past more whole (own (slice_index_or x.kit.posters.items q d)) together (thread_entries s st is same k q t d d near lt)
    (subst (λ (n : ℕ). length (own (slice_index_or x.kit.posters.items q d)) ≤ length (entries_by n past)) sender all))
    (before_quit_block s.threads (controller s) [] past b.none refl (none_before s.threads (controller s))))

-- ==== a stage in a run by a clock, from its beginning to its end

-- ---- the free mode of a controller's hall

pub in_free : (s : Script) (hall : Hall) (c : Controller) → hall.lockstep ≡ false → IsControllerIn hall.lockstep s hall c → IsControllerIn false s hall c
in_free s hall c mode k = subst (λ (b : Bool). IsControllerIn b s hall c) mode k

pub in_its_mode : (s : Script) (hall : Hall) (c : Controller) → hall.lockstep ≡ false → IsControllerIn false s hall c → IsControllerIn hall.lockstep s hall c
in_its_mode s hall c mode k = subst (λ (b : Bool). IsControllerIn b s hall c) (sym mode) k

-- ---- lists of senders

-- what is so of both parts of a list, before and after
pub each_append : {X : Type 0} (R : X → X → Type 0) (xs xs' ys ys' : List X) → AtEach R xs xs' → AtEach R ys ys' → AtEach R (xs ++ ys) (xs' ++ ys')
each_append R [] [] ys ys' a b = b
each_append R [] (x' ∷ xs') ys ys' a b = absurd (omega (arith, a.long))
each_append R (x ∷ xs) [] ys ys' a b = absurd (omega (arith, a.long))
each_append R (x ∷ xs) (x' ∷ xs') ys ys' a b =
    let long = a.long in
    let rest = each_append R xs xs' ys ys' (record { long = omega (arith, long); each = λ k d lt. a.each (suc k) d (omega (arith, lt)) }) b in
    let more = rest.long in
    record {
      long = omega (arith, more);
      each = each_of (a.each 0 x (omega arith)) rest;
    }
  where
    each_of : R x x' → AtEach R (xs ++ ys) (xs' ++ ys') → (k : ℕ) (d : _) → k < length (x ∷ (xs ++ ys)) → R (slice_index_or (x ∷ (xs ++ ys)) k d) (slice_index_or (x' ∷ (xs' ++ ys')) k d)
    each_of first rest zero d lt = first
    each_of first rest (suc k) d lt = rest.each k d (omega (arith, lt))

-- one of them was written
pub each_set : {X : Type 0} (R : X → X → Type 0) (xs : List X) (x y : X) → x ≡ slice_index_or xs 0 x → 0 < length xs → ((k : ℕ) (d : X) → k < length xs → R (slice_index_or xs k d) (slice_index_or xs k d)) → R x y → AtEach R xs (set xs 0 y)
each_set R xs x y is some still one = record {
  long = length-set xs 0 y;
  each = λ k d lt. dite (ℕ_discrete k 0)
      (λ at. subst (λ (n : ℕ). R (slice_index_or xs n d) (slice_index_or (set xs 0 y) n d)) (sym at)
      (subst (λ z. R z (slice_index_or (set xs 0 y) 0 d)) (is ∙ get_or_default xs 0 x d some) (subst (R x) (sym (get_or-set_same xs 0 y d some)) one)))
      (λ apart. subst (R (slice_index_or xs k d)) (sym (get_or-set_other xs 0 k y d apart)) (still k d lt));
}

-- a looper as it is
pub loops_still : (m : Mode) (s : Script) (hall : Hall) (ls : List StageLooper) → EachIsLooper s hall ls → (k : ℕ) (d : StageLooper) → k < length ls → HasLooped m s hall (slice_index_or ls k d) (slice_index_or ls k d)
loops_still m s hall ls are k d lt = record { looper = are k d lt; number = refl; plays = played_self s (slice_index_or ls k d); clocked = λ on by. by; grew = grown_self (slice_index_or ls k d) }

-- where a looper stands that has gone on
came_by : (s : Script) (q k : ℕ) (es : List Entry) (acts : List Act) (o : Option Parts) → IsSomeAnd o (StandsSomewhere s q k es acts)
    → (a : LooperState) × IsSomeAnd o (λ parts. StandsBy false s q k es acts parts a)
came_by s q k es acts None h = absurd h
came_by s q k es acts (Some parts) h = h

-- so many, each of its kind and with its place as its number
abbrev AreNumberedOf : {X : Type 0} → (X → Type 0) → (X → ℕ) → ℕ → List X → Type 0
AreNumberedOf {X} Is number n xs = (length xs ≡ n) × ((k : ℕ) (d : X) → k < length xs → Is (slice_index_or xs k d) × (number (slice_index_or xs k d) ≡ k))

-- they are so still where each is of its kind still, and has its number
numbered_still : {X : Type 0} (Is : X → Type 0) (number : X → ℕ) (n : ℕ) (R : X → X → Type 0) → ((x y : X) → R x y → Is y × (number y ≡ number x)) → (xs ys : List X)
    → AreNumberedOf Is number n xs → AtEach R xs ys → AreNumberedOf Is number n ys
numbered_still Is number n R still xs ys are each = (
  each.long ∙ are.0,
  λ k d lt. (
      let within : k < length xs = subst (λ (j : ℕ). k < j) each.long lt in
      let one = still (slice_index_or xs k d) (slice_index_or ys k d) (each.each k d within) in
      (one.0, one.1 ∙ (are.1 k d within).1)),
)

module _ (m : Mode) (s : Script) (hall : Hall) where
  pub threads_ran_all : (ts ts' : List PostingThread) → AreThreads s hall ts → AtEach (RunsByClock m s hall) ts ts' → GoOn ts' → HaveRunBy m s [] ts → HaveRunBy m s s.blocks ts'
  threads_ran_all ts ts' are ran going begun k d lt =
      let within : k < length ts = subst (λ (n : ℕ). k < n) ran.long lt in
      let number = (are.1 k d within).1 in
      subst (λ (n : ℕ). IsUpTo m s (lines_of n s.blocks) (slice_index_or ts' k d)) number ((ran.each k d within).made (going k d lt) (begun k d within))

  -- whose moments are the clock's
  pub threads_clocked : (ts : List PostingThread) → HaveRunBy m s s.blocks ts → OfThreads (AreByClock m) ts
  threads_clocked ts run k d lt = (run k d lt).clocked

  -- the loopers of the script, at moments of the clock
  pub loopers_ran : (ls ls' : List StageLooper) → AreLoopers s hall ls → AtEach (HasLooped m s hall) ls ls' → AreLoopers s hall ls'
  loopers_ran = numbered_still (IsLooper s hall) (λ l. l.number) s.loopers (HasLooped m s hall) (λ x y one. (one.looper, one.number))

  pub loopers_clocked : (ls ls' : List StageLooper) → AtEach (HasLooped m s hall) ls ls' → LoopersGoOn ls' → OfLoopers (AreByClock m) ls → OfLoopers (AreByClock m) ls'
  loopers_clocked ls ls' ran on by k d lt =
      let within : k < length ls = subst (λ (n : ℕ). k < n) ran.long lt in
      (ran.each k d within).clocked (on k d lt) (by k d within)

  -- which have played on from where they stood
  pub loopers_played : (ls ls' : List StageLooper) → HasText s → AreLoopers s hall ls → AtEach (HasLooped m s hall) ls ls' → LoopersGoOn ls' → EachStandsBetweenLoops s ls → EachStandsBetweenLoops s ls'
  loopers_played ls ls' text are ran on come k d lt =
      let within : k < length ls = subst (λ (n : ℕ). k < n) ran.long lt in
      let x : StageLooper = slice_index_or ls k d in
      let y : StageLooper = slice_index_or ls' k d in
      let one = ran.each k d within in
      let was = come k d within in
      let sender : y.sender ≡ x.sender = one.looper.sender ∙ (ap (λ (n : ℕ). s.threads + n) one.number ∙ sym (are.1 k d within).0.sender) in
      came_by s y.number y.sender y.looper.held.poster.view.seen y.looper.held.journal.acts y.parts
      (subst (λ (n : ℕ). IsSomeAnd y.parts (StandsSomewhere s n y.sender y.looper.held.poster.view.seen y.looper.held.journal.acts)) (sym one.number)
      (subst (λ (n : ℕ). IsSomeAnd y.parts (StandsSomewhere s x.number n y.looper.held.poster.view.seen y.looper.held.journal.acts)) (sym sender) (one.plays (on k d lt) text was.0 was.1)))

-- ---- before the first call

-- a poster that has seen nothing has called nothing
pub unseen_clocked : (m : Mode) (ps : List Sender) → AreUnseen ps → AreByClock m ps
unseen_clocked m ps unseen q d lt =
    let p = slice_index_or ps q d in
    subst (λ (es : List Entry). AreOfClock m (is_by p.sender) es) (sym (unseen q d lt)) (if_free m.lockstep (AreOfClockAfter m (is_by p.sender) [] []) (λ free. tt))

pub begins_by_clock : (m : Mode) (s : Script) (st : Stage) → 0 < s.loopers → HasOpened false s st → HasBegunByClock m s st
begins_by_clock m s st some opened =
    let unseen = opened.unseen in
    record {
      some = some;
      stage = opened.stage;
      begun = opened.run m;
      loopers = opened.loopers;
      clocked = record {
        threads = λ k d lt. unseen_clocked m (slice_index_or st.threads.items k d).kit.posters.items (unseen.threads k d lt);
        loopers = λ k d lt. unseen_clocked m (posters_of (slice_index_or st.loopers.items k d)) (unseen.loopers k d lt);
        controller = unseen_clocked m st.controller.kit.posters.items unseen.controller;
      };
      none = λ q d lt. ap (entries_by (slice_index_or st.controller.kit.posters.items q d).sender) (unseen.controller q d lt);
    }

-- the loopers stand at the state before the first act
pub begins_played : (s : Script) (ls : List StageLooper) → HaveBegun s ls → EachStandsBetweenLoops s ls
begins_played s ls begun k d lt = (first_looper s, comes_free s (slice_index_or ls k d) (first_looper s) (begun k d lt))

-- ---- all hear each other

heard_clocked : (m : Mode) (ps qs : List Sender) → HaveHeard ps qs → AreByClock m ps → AreByClock m qs
heard_clocked m ps qs heard by q d lt =
    let within : q < length ps = subst (λ (n : ℕ). q < n) heard.long lt in
    let h = heard.each q d within in
    clocked_same m (slice_index_or ps q d) (slice_index_or qs q d) h.same.sender h.more h.called (by q d within)

-- a controller that heard others before it quit
pub quits_heard : {m : Mode} {s : Script} {hall : Hall} {a b c : Controller} → ControllerKeeps HaveHeard a b → QuitsOthers m s hall b c → QuitsOthers m s hall a c
quits_heard {m} {s} {hall} {a} {b} {c} kept quits = record {
  more = sees_then a b c (sees_heard a b kept.posters) quits.more;
  controller = quits.controller;
  closing = quits.closing;
  clocked = λ by. quits.clocked (heard_clocked m a.kit.posters.items b.kit.posters.items kept.posters by);
}

-- it can quit the others then
pub can_quit : (s : Script) (hall : Hall) (ls : List StageLooper) (ts : List PostingThread) (a b : Controller) → CanRunMain s hall ls ts a → ControllerKeeps HaveHeard a b → CanQuitOthers s hall b
can_quit s hall ls ts a b can kept = record {
  some = can.some;
  hall = can.hall;
  controller = controller_kept s hall a b kept can.controller;
  none = λ q. nothing_kept s a b (calls_none a b kept) q (can.none q);
}

-- from a stage to one in which all have heard each other
module _ (m : Mode) (s : Script) (st st' : Stage) (is' : IsStageIn false s st') (same' : HaveSeenTheSame st') (kept : StageKeeps HaveHeard st st') where
  pub clocked_heard : OfSenders (AreByClock m) st → OfSenders (AreByClock m) st'
  clocked_heard = of_senders_then (AreByClock m) (AreByClock m) HaveHeard (heard_clocked m) st st' kept

  -- each looper stands where it stood
  played_heard : IsHall s st.hall → AreLoopers s st.hall st.loopers.items → EachStandsBetweenLoops s st.loopers.items → EachStandsBetweenLoops s st'.loopers.items
  played_heard is_hall are come k d lt =
      let within : k < length st.loopers.items = subst (λ (n : ℕ). k < n) kept.loopers.long lt in
      let was = come k d within in
      (was.0, heard_come_by s st.hall is_hall (slice_index_or st.loopers.items k d) (are.1 k d within).0 (slice_index_or st'.loopers.items k d) (kept.loopers.each k d within) was.0 was.1)

  -- the controller's calls stand where they stood
  behind_heard : CallsBehindThreads s st.threads.items st.controller → CallsBehindThreads s st'.threads.items st'.controller
  behind_heard = behind_on s st.threads.items st'.threads.items st.controller st'.controller kept.threads (sees_heard st.controller st'.controller kept.controller.posters)

  -- what was run was so still
  ran_heard : IsHall s st.hall → AreLoopers s st.hall st.loopers.items → HasRunByClock m s st → HasRunByClock m s st'
  ran_heard is_hall are ran = record {
    clocked = clocked_heard ran.clocked;
    run = run_kept m s s.blocks st.threads.items st'.threads.items kept.threads ran.run;
    ended = ended_kept HaveHeard st.loopers.items st'.loopers.items kept.loopers ran.ended;
    on = go_on_kept HaveHeard st.loopers.items st'.loopers.items kept.loopers ran.on;
    looped = looped_on m s st.loopers.items st'.loopers.items ran.looped (all_heard s st.hall is_hall st.loopers.items st'.loopers.items are kept.loopers);
    played = played_heard is_hall are ran.played;
    behind = behind_heard ran.behind;
  }

  -- main is still to be halted
  pub closing_heard : 0 < s.loopers → IsHall s st.hall → AreLoopers s st.hall st.loopers.items → HasRunByClock m s st → IsClosingBy s st.controller → IsClosingByClock m s st'
  closing_heard some is_hall are ran closing = record {
    some = some;
    stage = is';
    same = same';
    ran = ran_heard is_hall are ran;
    closing = closing_by_kept s st.controller st'.controller (calls_none st.controller st'.controller kept.controller) closing;
  }

  -- and main was halted
  pub ended_heard : (was : Stage) → IsStageIn false s was → HaveSeenTheSame was → was.threads ≡ st.threads → was.loopers ≡ st.loopers → m.lockstep ≡ false
      → IsHall s st.hall → AreLoopers s st.hall st.loopers.items → HasRunByClock m s st → EachTurnsOn IsHaltEntry was.controller st.controller → HasHaltedMain false s st.controller → HasEndedByClock m s st'
  ended_heard was is same threads loopers free is_hall are ran turns halted =
      let now = ran_heard is_hall are ran in
      record {
        free = free;
        out = record { stage = subst (λ (b : Bool). IsStageIn b s st') (sym free) is'; same = same'; clocked = now.clocked };
        ran = now;
        closed = subst (λ (b : Bool). HasClosedIn b s st'.controller) (sym free) (closed_kept s st.controller st'.controller (calls_none st.controller st'.controller kept.controller) halted.closed);
        halted = halted_stays (record {
          is = is;
          is' = is';
          same = same;
          same' = same';
          threads = subst (λ v. AtEach (ThreadKeeps HaveHeard) v.items st'.threads.items) (sym threads) kept.threads;
          loopers = subst (λ v. AtEach (LooperKeeps HaveHeard) v.items st'.loopers.items) (sym loopers) kept.loopers;
          heard = kept.controller.posters;
          turns = turns;
        }) halted.halted;
      }
