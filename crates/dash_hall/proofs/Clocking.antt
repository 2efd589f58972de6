-- A sender's calls by a clock: their moments are the clock's, or the queue's time.
use Rattle.std.proofs.Common.{◌≡◌, ℕ, ◌≤◌, ◌==◌, max, cond, Bool, true, false, List, [], ◌∷◌, ◌++◌, All, length, get_or, Option, Some, None, refl, sym, ap, ◌∙◌, subst, arith, append_assoc, inl, inr, ne_eqb}
use Rattle.std.specs.Prelude.{MatchBool, ◌⊎◌, if◌then◌else◌}
use Rattle.std.specs.List.{AllByRecursion}
use Rattle.std.proofs.lemmas.Bool.{MatchBool-at_false}
use Rattle.std.proofs.lemmas.List.{append-nil, append_cancel_left}
use Rattle.std.proofs.lemmas.List.Elements.{filter-append}
use Rattle.std.proofs.Math.Seq.{get_or-append_seam}
use mathlib.Core.Logic.{dite}
use native.Mathlib.Decide.{dec_lt}
use mathlib.Core.List.{IsPrefix}
use Rattle.atomic_table.specs.Seated.{TableId}
use Rattle.loop_model.specs.declared.call.Call.{Call}
use Rattle.loop_model.specs.declared.call.Call.TheVariants.{Post, Barrier, Unbarrier, Remove, Quit, Next, Advance, Halt}
use Rattle.loop_model.specs.declared.reply.Reply.{Reply}
use Rattle.loop_model.specs.declared.reply.Reply.TheVariants.{Token, QuitDone, AlreadyQuit, NotAllowed}
use Rattle.loop_model.specs.declared.entry.Entry.{Entry}
use Rattle.loop_model.specs.Base.{empty_base}
use Rattle.loop_model.specs.Answers.{clock}
use Rattle.queue_state.specs.declared.answers.Quitting.TheVariants as quitting
use Rattle.queue_state.specs.Queue.{entry_of, moment_at, time_of}
use Rattle.shared_queue.specs.Constants.{Constants, IsStateOf}
use Rattle.shared_queue.specs.Known.{IsTurn}
use Rattle.looper_run.specs.Holding.{Sender, State}
use Rattle.looper_run.proofs.Working.{first_all}
use Rattle.looper_run.proofs.Turning.{IsOther, found}
use Rattle.run_model.specs.Planned.{bare_call, entries_by, IsNoEarlier}
use Rattle.run_model.specs.Moments.{Mode, IfFree, IsMomentOf, has_moment, IsOfClock, AreOfClockAfter}
use Rattle.dash_hall.specs.declared.calls.QueueCall.{QueueCall}
use Rattle.dash_hall.specs.declared.calls.QueueCall.TheVariants as on_queue
use Rattle.dash_hall.specs.Growth.{own, Makes, BarsOf, QuitsOf}
use Rattle.dash_hall.specs.QueueCalls.{call_made, tokens_of, IsAtItsMoment}
use Rattle.dash_hall.specs.ByClock.{is_by, IsByClock, IsInMode}
use Rattle.handler_post.specs.declared.handler.Handler.{Handler}
use Rattle.dash_hall.proofs.Growing.{turn_makes, own_of_one}

-- ---- what holds in free mode alone

pub if_free : (b : Bool) (P : Type 0) → (b ≡ false → P) → MatchBool b (Unit {0}) P
if_free true P h = tt
if_free false P h = h refl

pub unless : (b : Bool) (P : Type 0) → b ≡ false → MatchBool b P (Unit {0})
unless true P is = absurd cc
unless false P is = tt

pub where_true : (b : Bool) (P : Type 0) → (b ≡ true → P) → MatchBool b P (Unit {0})
where_true true P h = h refl
where_true false P h = tt

-- ---- the walk over a history

module _ (m : Mode) (test : Entry → Bool) where
  pub clock_more : (past xs ys : List Entry) → AreOfClockAfter m test past xs → AreOfClockAfter m test (past ++ xs) ys → AreOfClockAfter m test past (xs ++ ys)
  clock_more past [] ys h more = subst (λ (l : List Entry). AreOfClockAfter m test l ys) (append-nil past) more
  clock_more past (x ∷ xs) ys h more = (h.0, clock_more (past ++ x ∷ []) xs ys h.1 (subst (λ (l : List Entry). AreOfClockAfter m test l ys) (sym (append_assoc past (x ∷ []) xs)) more))

module _ (m : Mode) (k : ℕ) where
  -- entries of others
  pub clock_others : (past xs : List Entry) → All (IsOther k) xs → AreOfClockAfter m (is_by k) past xs
  clock_others past [] others = tt
  clock_others past (x ∷ xs) others =
      let parts = first_all (IsOther k) x xs others in
      (unless (x.sender == k) (IsOfClock m (clock (empty_base 0) past) x.call) (ne_eqb x.sender k (λ is. parts.0 is)), clock_others (past ++ x ∷ []) xs parts.1)

  -- among which none of the sender's has a moment
  pub clock_quiet : (past xs : List Entry) → AllByRecursion (λ (e : Entry). has_moment e.call ≡ false) (entries_by k xs) → AreOfClockAfter m (is_by k) past xs
  clock_quiet past [] none = tt
  clock_quiet past (x ∷ xs) none = (first (x.sender == k) none, clock_quiet (past ++ x ∷ []) xs (rest (x.sender == k) none))
    where
      first : (b : Bool) → AllByRecursion (λ (e : Entry). has_moment e.call ≡ false) (cond b (x ∷ entries_by k xs) (entries_by k xs)) → MatchBool b (IsOfClock m (clock (empty_base 0) past) x.call) (Unit {0})
      first true h = unless (has_moment x.call) _ h.0
      first false h = tt

      rest : (b : Bool) → AllByRecursion (λ (e : Entry). has_moment e.call ≡ false) (cond b (x ∷ entries_by k xs) (entries_by k xs)) → AllByRecursion (λ (e : Entry). has_moment e.call ≡ false) (entries_by k xs)
      rest true h = h.1
      rest false h = h

-- ---- a turn at a moment

pub clock_same : (n : ℕ) (es : List Entry) → clock (empty_base n) es ≡ clock (empty_base 0) es
unfolding clock
clock_same n es = refl

-- the moment that a queue in free mode takes, where it is asked for at this one
abbrev pub IsTaken : ℕ → ℕ → ℕ → Type 0
IsTaken time u at = ((at ≡ u) ⊎ (at ≡ time)) × (u ≤ at)

greater : (u t : ℕ) → IsTaken t u (max u t)
greater u t = (dite (dec_lt u t) (λ less. inr (omega (arith, less))) (λ not. inl (omega (arith, not))), omega arith)

pub taken : (b : Bool) (u t : ℕ) → b ≡ false → IsTaken t u (if b then t else max u t)
taken true u t is = absurd cc
taken false u t is = greater u t

-- what a turn finds has the time of its history
pub its_moment : (m : Mode) (p q : Sender) (x y : State) (u : ℕ) → IsTurn p q x y → IsInMode m p → m.lockstep ≡ false → IsTaken (clock (empty_base 0) x.entries) u (moment_at x u)
its_moment m p q x y u t mode free =
    let c = MatchBool-at_false (Unit {0}) ((c : Constants TableId) × (p.view.constants ≡ Some c) × (c.setting.lockstep ≡ false)) free mode in
    let mine : IsStateOf c.0 x = (t.own c.0 c.1).0 in
    let off : x.setting.lockstep ≡ false = ap (λ s. s.lockstep) mine.setting ∙ c.2 in
    let time : time_of x ≡ clock (empty_base 0) x.entries = ap (λ z. clock z x.entries) mine.start ∙ clock_same c.0.setting.senders x.entries in
    subst (λ (n : ℕ). IsTaken n u (moment_at x u)) time (taken x.setting.lockstep u (time_of x) off)

-- a turn that entered one call, whose moment is the clock's or the time that it found
pub clocked_turn : (m : Mode) (p q : Sender) (x y : State) (c : Call) (r : Reply) → IsTurn p q x y → y.entries ≡ x.entries ++ entry_of x p.sender c r ∷ []
    → (m.lockstep ≡ false → IsOfClock m (clock (empty_base 0) x.entries) c) → IsByClock m p → IsByClock m q
clocked_turn m p q x y c r t left of_clock by = if_free m.lockstep (AreOfClockAfter m (is_by q.sender) [] q.view.seen) (λ free. (
    let f = found p q x y t in
    let test = is_by p.sender in
    let e = entry_of x p.sender c r in
    let had : AreOfClockAfter m test [] p.view.seen = MatchBool-at_false (Unit {0}) (AreOfClockAfter m test [] p.view.seen) free by in
    let before : AreOfClockAfter m test [] x.entries =
    subst (λ (l : List Entry). AreOfClockAfter m test [] l) (sym f.entries) (clock_more m test [] p.view.seen f.others had (clock_others m p.sender p.view.seen f.others f.all)) in
    let one : AreOfClockAfter m test x.entries (e ∷ []) = (where_true (p.sender == p.sender) (IsOfClock m (clock (empty_base 0) x.entries) c) (λ _. of_clock free), tt) in
    subst (λ (l : List Entry). AreOfClockAfter m (is_by q.sender) [] l) (sym (t.seen ∙ left))
    (subst (λ (k : ℕ). AreOfClockAfter m (is_by k) [] (x.entries ++ e ∷ [])) (sym t.sender) (clock_more m test [] x.entries (e ∷ []) before one))))

-- a turn that entered a call at the moment that the queue took for this one
abbrev pub EntersAt : (ℕ → Call) → Sender → Sender → ℕ → Type 0
EntersAt call p q u = (x : State) × (y : State) × IsTurn p q x y × (r : Reply) × (y.entries ≡ x.entries ++ entry_of x p.sender (call (moment_at x u)) r ∷ [])

entries_of : (x y : State) → y ≡ x → y.entries ≡ x.entries
entries_of x y same = ap (λ (z : State). z.entries) same

pub bars_enter : (p q : Sender) (u token : ℕ) → BarsOf p q u token → EntersAt Barrier p q u
bars_enter p q u token (node, (x, y, t, posts)) = (x, y, t, Token token, entries_of _ y posts.1)

pub quits_enter : (p q : Sender) (safe : Bool) (u : ℕ) → QuitsOf p q safe u → EntersAt (Quit safe) p q u
quits_enter p q safe u (quitting.Done list, some, (x, y, t, d)) = (x, y, t, QuitDone, entries_of _ y d.2)
quits_enter p q safe u (quitting.AlreadyQuit place, some, (x, y, t, d)) = (x, y, t, AlreadyQuit place, entries_of _ y d.1)
quits_enter p q safe u (quitting.NotAllowed, some, (x, y, t, d)) = (x, y, t, NotAllowed, entries_of _ y d.1)
quits_enter p q safe u (quitting.NoMemory, some, by) = absurd (some refl)

pub last_same : (es : List Entry) (e f : Entry) → es ++ e ∷ [] ≡ es ++ f ∷ [] → e ≡ f
last_same es e f same =
    sym (get_or-append_seam es e [] e) ∙ (ap (λ (l : List Entry). get_or l (length es) e) same ∙ get_or-append_seam es f [] e)

pub of_either : (m : Mode) (time u at : ℕ) → ((at ≡ u) ⊎ (at ≡ time)) → IsMomentOf m u → IsMomentOf m at ⊎ (at ≡ time)
of_either m time u at (inl is) moment = inl (subst (IsMomentOf m) (sym is) moment)
of_either m time u at (inr is) moment = inr is

module _ (m : Mode) (call : ℕ → Call) (p q : Sender) (u : ℕ) (mode : IsInMode m p) where
  pub clocked_at : ((time at : ℕ) → (IsMomentOf m at ⊎ (at ≡ time)) → IsOfClock m time (call at)) → IfFree m (IsMomentOf m u) → EntersAt call p q u → IsByClock m p → IsByClock m q
  clocked_at of_clock moment (x, y, t, r, left) by = clocked_turn m p q x y (call (moment_at x u)) r t left (λ free. (
      let at = its_moment m p q x y u t mode free in
      of_clock (clock (empty_base 0) x.entries) (moment_at x u) (of_either m (clock (empty_base 0) x.entries) u (moment_at x u) at.0 (MatchBool-at_false (Unit {0}) (IsMomentOf m u) free moment)))) by

  pub no_earlier_at : (time : ℕ) → ((at : ℕ) → (m.lockstep ≡ false → time ≤ at) → IsNoEarlier m time (call at)) → IfFree m (time ≤ u) → EntersAt call p q u
      → (e : Entry) → own q ≡ own p ++ e ∷ [] → IsNoEarlier m time e.call
  no_earlier_at time early late (x, y, t, r, left) e made =
      let mine = entry_of x p.sender (call (moment_at x u)) r in
      let same : e ≡ mine = last_same (own p) e mine (sym made ∙ turn_makes p q x y (mine ∷ []) t left (own_of_one p.sender mine refl)) in
      subst (λ (z : Entry). IsNoEarlier m time z.call) (sym same) (early (moment_at x u) (λ free. (
      let at = (its_moment m p q x y u t mode free).1 in
      let least = MatchBool-at_false (Unit {0}) (time ≤ u) free late in
      omega (arith, at, least))))

-- ---- calls without a moment

no_moment_early : (m : Mode) (time : ℕ) (c : Call) → has_moment c ≡ false → IsNoEarlier m time c
no_moment_early m time (Post p) none = tt
no_moment_early m time (Unbarrier t) none = tt
no_moment_early m time (Remove f) none = tt
no_moment_early m time (Barrier now) none = absurd cc
no_moment_early m time (Quit safe now) none = absurd cc
no_moment_early m time (Next now) none = tt
no_moment_early m time (Advance now) none = tt
no_moment_early m time (Halt now) none = tt

plain_moment : (c : Call) → has_moment (bare_call c) ≡ has_moment c
plain_moment (Post p) = refl
plain_moment (Unbarrier t) = refl
plain_moment (Remove f) = refl
plain_moment (Barrier now) = refl
plain_moment (Quit safe now) = refl
plain_moment (Next now) = refl
plain_moment (Advance now) = refl
plain_moment (Halt now) = refl

pub made_moment : (p q : Sender) (c : Call) (tokens : List ℕ) (made : Makes p q c tokens) → has_moment c ≡ false → has_moment made.entry.call ≡ false
made_moment p q c tokens made none = sym (plain_moment made.entry.call) ∙ (ap has_moment made.makes ∙ none)

-- the sender made these entries more, none of which has a moment
pub clocked_quiet : (m : Mode) (p q : Sender) (es : List Entry) → q.sender ≡ p.sender → IsPrefix p.view.seen q.view.seen → own q ≡ own p ++ es → AllByRecursion (λ (e : Entry). has_moment e.call ≡ false) es → IsByClock m p → IsByClock m q
clocked_quiet m p q es sender begins made none by = if_free m.lockstep (AreOfClockAfter m (is_by q.sender) [] q.view.seen) (λ free. (
    let test = is_by p.sender in
    let had : AreOfClockAfter m test [] p.view.seen = MatchBool-at_false (Unit {0}) (AreOfClockAfter m test [] p.view.seen) free by in
    let more = begins.0 in
    let seen : p.view.seen ++ more ≡ q.view.seen = begins.1 in
    let grown : own p ++ entries_by p.sender more ≡ own p ++ es =
    sym (filter-append (λ (e : Entry). e.sender == p.sender) p.view.seen more) ∙ ((λ i. entries_by (sym sender i) (seen i)) ∙ made) in
    let mine : entries_by p.sender more ≡ es = append_cancel_left (own p) (entries_by p.sender more) es grown in
    let quiet = clock_quiet m p.sender p.view.seen more (subst (λ (l : List Entry). AllByRecursion (λ (e : Entry). has_moment e.call ≡ false) l) (sym mine) none) in
    subst (λ (l : List Entry). AreOfClockAfter m (is_by q.sender) [] l) seen
    (subst (λ (k : ℕ). AreOfClockAfter m (is_by k) [] (p.view.seen ++ more)) (sym sender) (clock_more m test [] p.view.seen more had quiet))))

pub clocked_makes : (m : Mode) (p q : Sender) (c : Call) (tokens : List ℕ) → q.sender ≡ p.sender → IsPrefix p.view.seen q.view.seen → has_moment c ≡ false → Makes p q c tokens → IsByClock m p → IsByClock m q
clocked_makes m p q c tokens sender begins none made by = clocked_quiet m p q (made.entry ∷ []) sender begins made.made (made_moment p q c tokens made none, tt) by

-- the sender made no entry
pub clocked_same : (m : Mode) (p q : Sender) → q.sender ≡ p.sender → IsPrefix p.view.seen q.view.seen → own q ≡ own p → IsByClock m p → IsByClock m q
clocked_same m p q sender begins same by = clocked_quiet m p q [] sender begins (same ∙ sym (append-nil (own p))) tt by

-- ---- a call on a queue

-- what is so of the moment that a call names, where it names one
abbrev pub IfTimed : (ℕ → Type 0) → QueueCall → Type 0
IfTimed P (on_queue.Send post) = Unit {0}
IfTimed P (on_queue.Remove filter) = Unit {0}
IfTimed P (on_queue.PostBarrier now) = P now
IfTimed P (on_queue.RemoveBarrier token) = Unit {0}
IfTimed P (on_queue.Quit safe now) = P now

-- its moment is the clock's, or the queue's time
pub clocked_call : (m : Mode) (c : QueueCall) (token : Option ℕ) (p q : Sender) → IsInMode m p → IfTimed (λ u. IfFree m (IsMomentOf m u)) c
    → q.sender ≡ p.sender → IsPrefix p.view.seen q.view.seen → Makes p q (call_made c) (tokens_of token) → IsAtItsMoment c token p q → IsByClock m p → IsByClock m q
clocked_call m (on_queue.Send post) token p q mode moment sender begins made at by = clocked_makes m p q (bare_call (Post post)) (tokens_of token) sender begins refl made by
clocked_call m (on_queue.Remove f) token p q mode moment sender begins made at by = clocked_makes m p q (Remove f) (tokens_of token) sender begins refl made by
clocked_call m (on_queue.PostBarrier u) None p q mode moment sender begins made at by = absurd at
clocked_call m (on_queue.PostBarrier u) (Some k) p q mode moment sender begins made at by = clocked_at m Barrier p q u mode (λ time at h. h) moment (bars_enter p q u k at) by
clocked_call m (on_queue.RemoveBarrier k) token p q mode moment sender begins made at by = clocked_makes m p q (Unbarrier k) (tokens_of token) sender begins refl made by
clocked_call m (on_queue.Quit safe u) token p q mode moment sender begins made at by = clocked_at m (Quit safe) p q u mode (λ time at h. h) moment (quits_enter p q safe u at) by

-- it is no earlier than it was asked for
pub no_earlier_call : (m : Mode) (time : ℕ) (c : QueueCall) (token : Option ℕ) (p q : Sender) → IsInMode m p → IfTimed (λ u. IfFree m (time ≤ u)) c
    → (made : Makes p q (call_made c) (tokens_of token)) → IsAtItsMoment c token p q → IsNoEarlier m time made.entry.call
no_earlier_call m time (on_queue.Send post) token p q mode late made at = no_moment_early m time made.entry.call (made_moment p q (bare_call (Post post)) (tokens_of token) made refl)
no_earlier_call m time (on_queue.Remove f) token p q mode late made at = no_moment_early m time made.entry.call (made_moment p q (Remove f) (tokens_of token) made refl)
no_earlier_call m time (on_queue.PostBarrier u) None p q mode late made at = absurd at
no_earlier_call m time (on_queue.PostBarrier u) (Some k) p q mode late made at =
    no_earlier_at m Barrier p q u mode time (λ at h. if_free m.lockstep (time ≤ at) h) late (bars_enter p q u k at) made.entry made.made
no_earlier_call m time (on_queue.RemoveBarrier k) token p q mode late made at = no_moment_early m time made.entry.call (made_moment p q (Unbarrier k) (tokens_of token) made refl)
no_earlier_call m time (on_queue.Quit safe u) token p q mode late made at =
    no_earlier_at m (Quit safe) p q u mode time (λ at h. if_free m.lockstep (time ≤ at) h) late (quits_enter p q safe u at) made.entry made.made
