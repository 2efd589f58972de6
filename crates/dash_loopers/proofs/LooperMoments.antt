-- In a loop by a clock the moments of a looper's calls are the clock's, or the queue's time.
use Rattle.std.proofs.Common.{◌≡◌, ℕ, ◌<◌, ◌≤◌, Bool, true, false, List, [], ◌∷◌, ◌++◌, length, get_or, Option, Some, refl, sym, ap, ◌∙◌, subst, arith, append_assoc, eqb-true}
use Rattle.std.specs.Prelude.{◌==◌, ◌&&◌, not, MatchBool, is_ok, ◌⊎◌, Result, OnOk}
use Rattle.std.specs.List.{insert, slice_get}
use Rattle.std.specs.Option.{IsSomeAnd}
use Rattle.std.proofs.lemmas.Bool.{MatchBool-at_false, and_parts, and_from}
use Rattle.std.proofs.lemmas.List.{append-nil, append_cancel_left}
use Rattle.std.proofs.lemmas.List.Edits.{length-insert, get_or-insert_at}
use mathlib.Core.Logic.{dite}
use native.Mathlib.Decide.{ℕ_discrete}
use Rattle.atomic_table.specs.Seated.{TableId}
use Rattle.loop_io.specs.Moments.{IsMoment as IsShown}
use Rattle.loop_model.specs.declared.post.Post.{Post as PostData}
use Rattle.loop_model.specs.declared.call.Call.{Call}
use Rattle.loop_model.specs.declared.call.Call.TheVariants.{Post, Barrier, Unbarrier, Remove, Quit, Next, Advance, Halt}
use Rattle.loop_model.specs.declared.entry.Entry.{Entry}
use Rattle.loop_model.specs.declared.journal.Act.{Act}
use Rattle.loop_model.specs.declared.journal.Route.{Route}
use Rattle.loop_model.specs.declared.journal.Route.TheVariants.{Callback}
use Rattle.loop_model.specs.Entries.{is_next}
use Rattle.loop_model.specs.Base.{empty_base}
use Rattle.loop_model.specs.Answers.{Setting, clock}
use Rattle.message_slot.specs.Letter.{post_of}
use Rattle.message_pool.specs.Passes.{Node}
use Rattle.shared_queue.specs.Known.{Shared}
use Rattle.shared_queue.specs.Constants.{Constants}
use Rattle.looper_run.specs.declared.looper.Round.{Round}
use Rattle.looper_run.specs.declared.looper.Round.TheVariants.{Drained, Ended, NoMemory as NoRoom}
use Rattle.looper_run.specs.Round.{RoundBy}
use Rattle.looper_run.specs.declared.dispatcher.Did.{Did}
use Rattle.looper_run.specs.declared.dispatcher.Did.TheVariants.{Yes, No, NoMemory}
use Rattle.looper_run.specs.Holding.{Sender, Holding, Looping, workplace}
use Rattle.looper_run.specs.Acts.{moment_on, IsLookAt, AreLooksAt}
use Rattle.looper_run.specs.Loops.{IsLookBy, AreLooksBy}
use Rattle.looper_run.proofs.Working.{lent_self}
use Rattle.looper_run.specs.Tests.{Passes, PassesWith, IsLent, HasTakenMessage, Unless}
use Rattle.dash_script.specs.declared.script.Script.{Script}
use Rattle.run_model.specs.Moments.{Mode, IsMomentOf, IsOfClock, AreOfClockAfter}
use Rattle.run_model.specs.ByClock.{in_free_mode}
use Rattle.dash_hall.specs.declared.hall.Hall.{Hall}
use Rattle.dash_hall.specs.ByClock.{is_by, IsByClock, IsInMode, AddsByClock}
use Rattle.dash_hall.specs.Uptimes.{is_shown}
use Rattle.dash_hall.proofs.Clocking.{if_free, where_true, clock_more, of_either, clock_same, taken}
use Rattle.dash_loopers.specs.declared.player.Parts.{Parts}
use Rattle.dash_loopers.specs.declared.looper.StageLooper.{StageLooper}
use Rattle.dash_loopers.specs.Loopers.{IsLooperOf, IsPlaceOf, others_in, is_given_up, goes_to_rules}
use Rattle.dash_loopers.specs.Played.{calls_of, Delivers, StandsBy, IsPlayingBy}
use Rattle.dash_loopers.specs.Clocked.{ServesFree, AddsUntimed, AreUntimed, CallsUntimed, DeliversAt, is_call_by, CallsByClock, IsPlayingAt, StaysByClock}
use Rattle.dash_loopers.specs.ClockedLaws.{calls_beside, no_call_by_look}
use Rattle.dash_hall.proofs.HostClock.{adds_none}
use Rattle.dash_loopers.proofs.LooperPlaying.{delivers_none}
use Rattle.dash_loopers.proofs.LooperByClock.{by_delivery, dispatches_well_by}
use Rattle.dash_loopers.proofs.LooperClock.{untimed_same, untimed_then, untimed_length, sender_at}
use Rattle.dash_loopers.proofs.LooperKits.{its_queue}
use Rattle.dash_loopers.proofs.LooperPlaces.{queue_is}
use Rattle.dash_loopers.proofs.LooperSeats.{its_place, at_other, within_others}

-- ---- what a step adds to what went before

where_is : (b : Bool) (P : Type 0) → b ≡ true → MatchBool b P (Unit {0}) → P
where_is true P is h = h
where_is false P is h = absurd cc

-- fewer entries are tested
clock_fewer : (m : Mode) (test fewer : Entry → Bool) → ((e : Entry) → fewer e ≡ true → test e ≡ true) → (past es : List Entry) → AreOfClockAfter m test past es → AreOfClockAfter m fewer past es
clock_fewer m test fewer within past [] h = tt
clock_fewer m test fewer within past (e ∷ es) h = (
  where_true (fewer e) (IsOfClock m (clock (empty_base 0) past) e.call) (λ is. where_is (test e) (IsOfClock m (clock (empty_base 0) past) e.call) (within e is) h.0),
  clock_fewer m test fewer within (past ++ e ∷ []) es h.1,
)

call_is_by : (k : ℕ) (e : Entry) → is_call_by k e ≡ true → is_by k e ≡ true
call_is_by k e is = (and_parts (e.sender == k) (not (is_next e.call)) is).0

-- the poster went on from there
calls_added : (m : Mode) (k k' : ℕ) (past es : List Entry) (p p' : Sender) → k' ≡ k → p.sender ≡ k → p.view.seen ≡ es → AddsByClock m p p' → CallsByClock m k past es → CallsByClock m k' past p'.view.seen
calls_added m k k' past es p p' same mine at a c = subst (λ (n : ℕ). CallsByClock m n past p'.view.seen) (sym same) (
    let here : AreOfClockAfter m (is_by k) (past ++ c.more) a.more =
    subst (λ (l : List Entry). AreOfClockAfter m (is_by k) l a.more) (at ∙ c.seen) (subst (λ (n : ℕ). AreOfClockAfter m (is_by n) p.view.seen a.more) mine a.clocked) in
    record {
      more = c.more ++ a.more;
      seen = a.seen ∙ (ap (λ (l : List Entry). l ++ a.more) (at ∙ c.seen) ∙ append_assoc past c.more a.more);
      clocked = clock_more m (is_call_by k) past c.more a.more c.clocked (clock_fewer m (is_by k) (is_call_by k) (call_is_by k) (past ++ c.more) a.more here);
    })

unless_with : (d : Did) (P Q : Type 0) → (P → Q) → Unless d P → Unless d Q
unless_with Yes P Q f h = f h
unless_with No P Q f h = f h
unless_with NoMemory P Q f h = tt

module _ (m : Mode) (s : Script) (q : ℕ) (began : StageLooper) where
  -- what plays, and calls so, goes on by the clock
  at_more : (p p' : Sender) (acts : List _) (parts parts' : Parts) → p'.sender ≡ p.sender → AddsByClock m p p' → AreUntimed parts.others.items parts'.others.items
      → CallsByClock m p.sender began.looper.held.poster.view.seen p.view.seen → AreUntimed (others_in began.parts) parts.others.items
      → IsPlayingBy s q began p'.sender p'.view.seen acts parts' → IsPlayingAt m s q began p'.sender p'.view.seen acts parts'
  at_more p p' acts parts parts' same adds others calls before plays = record {
    plays = plays;
    calls = calls_added m p.sender p'.sender began.looper.held.poster.view.seen p.view.seen p p' same refl refl adds calls;
    others = untimed_then (others_in began.parts) parts.others.items parts'.others.items before others;
  }

  -- a pulse was delivered, or none came
  pub pulse_at : (d : Did) (before after : Holding) (parts parts' : Parts) → IsLent before after → CallsUntimed before.poster after.poster parts parts'
      → Passes (λ k es acts. IsPlayingAt m s q began k es acts parts) before
      → Unless d (Passes (λ k es acts. IsPlayingBy s q began k es acts parts') after) → Unless d (Passes (λ k es acts. IsPlayingAt m s q began k es acts parts') after)
  pulse_at d before after parts parts' lent calls at plays =
      unless_with d (Passes (λ k es acts. IsPlayingBy s q began k es acts parts') after) (Passes (λ k es acts. IsPlayingAt m s q began k es acts parts') after)
      (λ h. at_more before.poster after.poster after.journal.acts parts parts' lent.same.sender (calls.own m) calls.others at.calls at.others h) plays

  -- what was taken, as it plays
  taken_plays : (before : Holding) (node : Node) (time : ℕ) (parts : Parts) → HasTakenMessage (λ k es acts. IsPlayingAt m s q began k es acts parts) before node time → HasTakenMessage (λ k es acts. IsPlayingBy s q began k es acts parts) before node time
  taken_plays before node time parts t = record { past = t.past; take = t.take; seen = t.seen; is_take = t.is_take; post = t.post; passes = t.passes.plays }

  -- a message was dispatched
  dispatched_at : (before after : Holding) (node : Node) (time : ℕ) (route : Route) (parts parts' : Parts) → IsLent before after → AddsByClock m before.poster after.poster → AreUntimed parts.others.items parts'.others.items
      → HasTakenMessage (λ k es acts. IsPlayingAt m s q began k es acts parts) before node time
      → PassesWith (λ k es acts. IsPlayingBy s q began k es acts parts') after node time route → PassesWith (λ k es acts. IsPlayingAt m s q began k es acts parts') after node time route
  dispatched_at before after node time route parts parts' lent adds others t plays =
      let looked = calls_beside m before.poster.sender began.looper.held.poster.view.seen t.past t.take (no_call_by_look before.poster.sender t.take time t.is_take.call) t.passes.calls in
      at_more before.poster after.poster _ parts parts' lent.same.sender adds others
      (subst (λ (l : List Entry). CallsByClock m before.poster.sender began.looper.held.poster.view.seen l) (sym t.seen) looked) t.passes.others plays

  pub dispatch_at : (d : Did) (before after : Holding) (node : Node) (time : ℕ) (route : Route) (parts parts' : Parts) → IsLent before after → AddsByClock m before.poster after.poster → AreUntimed parts.others.items parts'.others.items
      → HasTakenMessage (λ k es acts. IsPlayingAt m s q began k es acts parts) before node time
      → Unless d (PassesWith (λ k es acts. IsPlayingBy s q began k es acts parts') after node time route) → Unless d (PassesWith (λ k es acts. IsPlayingAt m s q began k es acts parts') after node time route)
  dispatch_at d before after node time route parts parts' lent adds others t plays =
      unless_with d (PassesWith (λ k es acts. IsPlayingBy s q began k es acts parts') after node time route) (PassesWith (λ k es acts. IsPlayingAt m s q began k es acts parts') after node time route)
      (dispatched_at before after node time route parts parts' lent adds others t) plays

-- ---- at its moment

-- what a delivery adds, by the message
delivered_adds : (m : Mode) (q u : ℕ) (p : PostData) (own own' : Sender) (parts parts' : Parts) → m.lockstep ≡ false → IsInMode m own → (goes_to_rules q p ≡ false → IsMomentOf m u) → DeliversAt q u p own own' parts parts' → AddsByClock m own own'
delivered_adds m q u p own own' parts parts' free mode moment d = go (goes_to_rules q p) refl
  where
    go : (b : Bool) → goes_to_rules q p ≡ b → AddsByClock m own own'
    go true is = d.rules is m
    go false is = d.timed is m free mode (moment is)

-- a moment that the clock shows is one of the mode
pub of_shown : (shows : ℕ → Bool) (start u : ℕ) → IsShown shows start u → IsMomentOf (in_free_mode shows start) u
of_shown shows start u h = record { reading = h.reading; shown = h.shown; since = h.since }

-- the looper's queue is in the mode of the hall
in_the_mode : (m : Mode) (s : Script) (hall : Hall) (n : ℕ) (h : Holding) → hall.lockstep ≡ false → IsLooperOf s hall n → IsPlaceOf hall n (workplace h) → IsInMode m h.poster
in_the_mode m s hall n h mode of place =
    let q = its_queue s hall n of in
    if_free m.lockstep ((c : Constants TableId) × (h.poster.view.constants ≡ Some c) × (c.setting.lockstep ≡ false))
    (λ free. (q.0.constants, (place.queue q.0 q.1).1, ap (λ (c : Constants TableId). c.setting.lockstep) (queue_is s hall n of n q.0 q.1) ∙ mode))

-- a message was delivered, at the moment of its dispatch or at one that the clock showed
pub delivery_at : {A E : Type 0} (shows : ℕ → Bool) (start : ℕ) (s : Script) (hall : Hall) (q : ℕ) (began : StageLooper) (node : Node) (now at : ℕ) (route : Route) (letter : PostData) (r : Result A E) (d : Did) (h k : Holding) (parts parts' : Parts)
    → ServesFree s hall q parts (workplace h) → letter ≡ post_of node.item → (goes_to_rules q letter ≡ true → at ≡ now) → (goes_to_rules q letter ≡ false → IsShown shows start at)
    → IsLent h k → DeliversAt q at letter h.poster k.poster parts parts' → OnOk r (Delivers s q at (is_shown shows start) letter (calls_of h.poster) (calls_of k.poster) parts parts' h.journal.acts k.journal.acts)
    → HasTakenMessage (λ n es acts. IsPlayingAt (in_free_mode shows start) s q began n es acts parts) h node now → (d ≡ No → ⊥) → (d ≡ Yes → is_ok r ≡ true)
    → Unless d (PassesWith (λ n es acts. IsPlayingAt (in_free_mode shows start) s q began n es acts parts') k node now route)
delivery_at shows start s hall q began node now at route letter r d h k parts parts' serves is rules read lent clocked delivers taken never well =
    let m = in_free_mode shows start in
    let mode = in_the_mode m s hall q h serves.mode serves.serves.looper serves.serves.place in
    let adds = delivered_adds m q at letter h.poster k.poster parts parts' refl mode (λ isnt. of_shown shows start at (read isnt)) clocked in
    dispatch_at m s q began d h k node now route parts parts' lent adds clocked.others taken
    (dispatches_well_by s q began now at (is_shown shows start) node route letter r d h k parts parts' is rules
    lent (taken_plays m s q began h node now parts taken) delivers never well)

-- a message's own callback ran, and called nothing
pub callback_at : (shows : ℕ → Bool) (start : ℕ) (s : Script) (q : ℕ) (began : StageLooper) (node : Node) (now id : ℕ) (h : Holding) (parts : Parts) → HasTakenMessage (λ n es acts. IsPlayingAt (in_free_mode shows start) s q began n es acts parts) h node now
    → (post_of node.item).callback ≡ Some id → PassesWith (λ n es acts. IsPlayingAt (in_free_mode shows start) s q began n es acts parts) h node now (Callback id)
callback_at shows start s q began node now id h parts taken is =
    let m = in_free_mode shows start in
    dispatched_at m s q began h h node now (Callback id) parts parts (lent_self h) (adds_none m h.poster h.poster refl) (untimed_same parts.others.items parts.others.items refl) taken
    (by_delivery s q began now now (λ n. true) node (Callback id) h h parts parts (lent_self h) (taken_plays m s q began h node now parts taken) (λ is. refl)
    (delivers_none s q 0 began now (λ n. true) (post_of node.item) id (calls_of h.poster) parts h.journal.acts is))

-- ---- the looks of a loop

module _ (shows : ℕ → Bool) (start : ℕ) (set : Setting) (mode : set.lockstep ≡ false) where
  -- the moment of a look is one of the clock, or the queue's time
  look_moment : (past : List Entry) (at : ℕ) → IsLookBy shows start set past (Next at) → IsMomentOf (in_free_mode shows start) at ⊎ (at ≡ clock (empty_base 0) past)
  look_moment past at (now, shown, is) =
      let chosen = (taken set.lockstep now (clock (empty_base set.senders) past) mode).0 in
      let here = of_either (in_free_mode shows start) (clock (empty_base set.senders) past) now (moment_on set past now) chosen (of_shown shows start now shown) in
      subst (λ (t : ℕ). IsMomentOf (in_free_mode shows start) at ⊎ (at ≡ t)) (clock_same set.senders past)
      (subst (λ (n : ℕ). IsMomentOf (in_free_mode shows start) n ⊎ (n ≡ clock (empty_base set.senders) past)) (sym is) here)

  one_of : (k : ℕ) (past : List Entry) (sender : ℕ) (c : Call) → (sender == k) ≡ true → MatchBool ((sender == k) && not (is_next c)) (IsOfClock (in_free_mode shows start) (clock (empty_base 0) past) c) (Unit {0}) → IsLookBy shows start set past c → IsOfClock (in_free_mode shows start) (clock (empty_base 0) past) c
  one_of k past sender (Post p) own h look = tt
  one_of k past sender (Barrier at) own h look = where_is ((sender == k) && true) (IsOfClock (in_free_mode shows start) (clock (empty_base 0) past) (Barrier at)) (and_from (sender == k) true own refl) h
  one_of k past sender (Unbarrier t) own h look = tt
  one_of k past sender (Remove f) own h look = tt
  one_of k past sender (Quit safe at) own h look = where_is ((sender == k) && true) (IsOfClock (in_free_mode shows start) (clock (empty_base 0) past) (Quit safe at)) (and_from (sender == k) true own refl) h
  one_of k past sender (Next at) own h look = look_moment past at look
  one_of k past sender (Advance at) own h look = where_is ((sender == k) && true) (IsOfClock (in_free_mode shows start) (clock (empty_base 0) past) (Advance at)) (and_from (sender == k) true own refl) h
  one_of k past sender (Halt at) own h look = where_is ((sender == k) && true) (IsOfClock (in_free_mode shows start) (clock (empty_base 0) past) (Halt at)) (and_from (sender == k) true own refl) h

  -- the sender's looks and its other calls
  with_looks : (k : ℕ) (past es : List Entry) → AreOfClockAfter (in_free_mode shows start) (is_call_by k) past es → AreLooksBy shows start set k past es → AreOfClockAfter (in_free_mode shows start) (is_by k) past es
  with_looks k past [] calls looks = tt
  with_looks k past (e ∷ es) calls looks = (
    where_true (e.sender == k) (IsOfClock (in_free_mode shows start) (clock (empty_base 0) past) e.call) (λ own. one_of k past e.sender e.call own calls.0 (looks.0 (eqb-true e.sender k own))),
    with_looks k (past ++ e ∷ []) es calls.1 looks.1,
  )

  -- a looper's own poster, behind what it called and looked for
  pub own_by_clock : (before after : Sender) (more : List Entry) → after.sender ≡ before.sender → after.view.seen ≡ before.view.seen ++ more
      → CallsByClock (in_free_mode shows start) after.sender before.view.seen after.view.seen → AreLooksBy shows start set before.sender before.view.seen more → IsByClock (in_free_mode shows start) before → IsByClock (in_free_mode shows start) after
  own_by_clock before after more same seen calls looks had =
      let k = before.sender in
      let past = before.view.seen in
      let here : CallsByClock (in_free_mode shows start) k past (past ++ more) = subst (λ (n : ℕ). CallsByClock (in_free_mode shows start) n past (past ++ more)) same (subst (λ (l : List Entry). CallsByClock (in_free_mode shows start) after.sender past l) seen calls) in
      let these : here.more ≡ more = append_cancel_left past here.more more (sym here.seen) in
      let all = with_looks k past more (subst (λ (l : List Entry). AreOfClockAfter (in_free_mode shows start) (is_call_by k) past l) these here.clocked) looks in
      subst (λ (n : ℕ). AreOfClockAfter (in_free_mode shows start) (is_by n) [] after.view.seen) (sym same)
      (subst (λ (l : List Entry). AreOfClockAfter (in_free_mode shows start) (is_by k) [] l) (sym seen) (clock_more (in_free_mode shows start) (is_by k) [] past more had all))

-- looks that all name one moment
pub looks_by : (shows : ℕ → Bool) (start : ℕ) (set : Setting) (k now : ℕ) → IsShown shows start now → (past es : List Entry) → AreLooksAt set k now past es → AreLooksBy shows start set k past es
looks_by shows start set k now shown past [] h = tt
looks_by shows start set k now shown past (e ∷ es) h = ((λ own. one e.call (h.0 own)), looks_by shows start set k now shown (past ++ e ∷ []) es h.1)
  where
    one : (c : Call) → IsLookAt (moment_on set past now) c → IsLookBy shows start set past c
    one (Post p) is = tt
    one (Barrier at) is = tt
    one (Unbarrier t) is = tt
    one (Remove f) is = tt
    one (Quit safe at) is = tt
    one (Next at) is = (now, shown, is)
    one (Advance at) is = tt
    one (Halt at) is = tt

-- the entries that a round saw, its looks among them, and what it told
pub record RoundWorked (set : Setting) (now : ℕ) (before after : Holding) : Type 0 where
  pub more : List Entry
  pub did : List Act
  pub seen : after.poster.view.seen ≡ before.poster.view.seen ++ more
  pub acts : after.journal.acts ≡ before.journal.acts ++ did
  pub looks : AreLooksAt set before.poster.sender now before.poster.view.seen more

-- ---- all its posters

-- a poster whose calls since have no moment
untimed_by : (m : Mode) (x y : Sender) → y.sender ≡ x.sender → AddsUntimed x y → IsByClock m x → IsByClock m y
untimed_by m x y sender adds had = if_free m.lockstep (AreOfClockAfter m (is_by y.sender) [] y.view.seen) (λ free. (
    let a = adds m in
    let before : AreOfClockAfter m (is_by x.sender) [] x.view.seen = MatchBool-at_false (Unit {0}) (AreOfClockAfter m (is_by x.sender) [] x.view.seen) free had in
    subst (λ (n : ℕ). AreOfClockAfter m (is_by n) [] y.view.seen) (sym sender)
    (subst (λ (l : List Entry). AreOfClockAfter m (is_by x.sender) [] l) (sym a.seen) (clock_more m (is_by x.sender) [] x.view.seen a.more before a.clocked))))

by_clock_of : (m : Mode) (n : ℕ) (xs ys : List Sender) (p p' : Sender) → n ≤ length xs → AreUntimed xs ys → (IsByClock m p → IsByClock m p')
    → ((k : ℕ) (d : Sender) → k < length (insert xs n p) → IsByClock m (get_or (insert xs n p) k d)) → (k : ℕ) (d : Sender) → k < length (insert ys n p') → IsByClock m (get_or (insert ys n p') k d)
by_clock_of m n xs ys p p' le others own had k d near =
    let long = untimed_length xs ys others in
    let le' : n ≤ length ys = omega (arith, le, long) in
    let near' : k < length (insert xs n p) = omega (arith, near, length-insert xs n p le, length-insert ys n p' le', long) in
    dite (ℕ_discrete k n)
    (λ e. subst (λ (j : ℕ). IsByClock m (get_or (insert ys n p') j d)) (sym e)
    (subst (IsByClock m) (sym (get_or-insert_at ys n p' d le')) (own (subst (IsByClock m) (get_or-insert_at xs n p d le) (subst (λ (j : ℕ). IsByClock m (get_or (insert xs n p) j d)) e (had k d near'))))))
    (λ apart. (
    let w = its_place n k apart in
    let within : w.0 < length xs = within_others xs n le p k w.0 w.1 near' in
    subst (IsByClock m) (sym (at_other ys n le' p' d k w.0 w.1))
    (untimed_by m (get_or xs w.0 d) (get_or ys w.0 d) (sender_at xs ys w.0 d others.senders within) (others.each w.0 d within)
    (subst (IsByClock m) (at_other xs n le p d k w.0 w.1) (had k d near')))))

-- the looper's posters, as a loop leaves them
pub stays_by_clock : (m : Mode) (l : StageLooper) (after : Looping) (parts' : Parts) (last : Round) → l.number ≤ length (others_in l.parts) → (is_given_up last ≡ false → AreUntimed (others_in l.parts) parts'.others.items)
    → (is_given_up last ≡ false → IsByClock m l.looper.held.poster → IsByClock m after.held.poster)
    → StaysByClock m l (record { number = l.number; sender = l.sender; looper = after; parts = Some parts'; last = last; dispatched = l.dispatched })
stays_by_clock m l after parts' last le others own = λ going had. by_clock_of m l.number (others_in l.parts) parts'.others.items l.looper.held.poster after.held.poster le (others going) (own going) had

-- ---- a loop, as it begins and ends

-- as it begins
pub playing_at_start : (m : Mode) (s : Script) (l began : StageLooper) (parts : Parts) → began ≡ l → l.parts ≡ Some parts → l.looper.held.poster.sender ≡ l.sender
    → IsPlayingAt m s l.number began l.looper.held.poster.sender l.looper.held.poster.view.seen l.looper.held.journal.acts parts
playing_at_start m s l began parts same e mine = subst (λ (b : StageLooper). IsPlayingAt m s l.number b l.looper.held.poster.sender l.looper.held.poster.view.seen l.looper.held.journal.acts parts) (sym same) (record {
  plays = λ text a come. (
    a,
    subst (λ (k : ℕ). StandsBy false s l.number k l.looper.held.poster.view.seen l.looper.held.journal.acts parts a) (sym mine)
        (subst (λ (o : Option Parts). IsSomeAnd o (λ ps. StandsBy false s l.number l.sender l.looper.held.poster.view.seen l.looper.held.journal.acts ps a)) e come),
  );
  calls = record { more = []; seen = sym (append-nil l.looper.held.poster.view.seen); clocked = tt };
  others = untimed_same (others_in l.parts) parts.others.items (sym (ap others_in e));
})

-- the setting of its queue is the hall's mode
pub setting_free : (s : Script) (hall : Hall) (n : ℕ) (q : Shared TableId) → hall.lockstep ≡ false → IsLooperOf s hall n → slice_get hall.queues.items n ≡ Some q → q.constants.setting.lockstep ≡ false
setting_free s hall n q mode of at = ap (λ (c : Constants TableId). c.setting.lockstep) (queue_is s hall n of n q at) ∙ mode

-- what a round did, unless memory ran out
pub round_worked : (set : Setting) (now : ℕ) (before after : Holding) (last : Round) → is_given_up last ≡ false → RoundBy set now before after last → RoundWorked set now before after
round_worked set now before after (Drained dispatched until) going r = record { more = r.0.more; did = r.0.did; seen = r.0.seen; acts = r.0.acts; looks = r.0.looks }
round_worked set now before after (Ended dispatched) going r = record { more = r.0.more; did = r.0.did; seen = r.0.seen; acts = r.0.acts; looks = r.0.looks }
round_worked set now before after NoRoom going r = absurd cc
