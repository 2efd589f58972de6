-- A host's calls by a clock: their moments are the host's, or the queue's time.
use Rattle.std.proofs.Common.{◌≡◌, ℕ, false, List, [], ◌∷◌, ◌++◌, Option, Some, refl, sym, ap, ◌∙◌, subst, append_assoc}
use Rattle.std.specs.Prelude.{◌==◌, Result, Ok, Err, IfOk, OnOk, OnErr}
use Rattle.std.specs.List.{AllByRecursion}
use Rattle.std.proofs.lemmas.List.{append-nil, append_cancel_left}
use Rattle.std.proofs.lemmas.List.Elements.{filter-append}
use Rattle.atomic_table.specs.Seated.{TableId}
use Rattle.loop_model.specs.declared.post.Post.{Post as PostData}
use Rattle.loop_model.specs.declared.call.Call.{Call}
use Rattle.loop_model.specs.declared.call.Call.TheVariants.{Post, Barrier, Unbarrier}
use Rattle.loop_model.specs.declared.entry.Entry.{Entry}
use Rattle.loop_model.specs.Base.{empty_base}
use Rattle.loop_model.specs.Answers.{clock}
use Rattle.message_pool.specs.Passes.{Tally}
use Rattle.queue_state.specs.Queue.{entry_of, moment_at}
use Rattle.shared_queue.specs.Constants.{Constants}
use Rattle.looper_run.specs.Holding.{Sender}
use Rattle.looper_run.proofs.Turning.{found}
use Rattle.run_model.specs.Planned.{bare_call, entries_by}
use Rattle.run_model.specs.Moments.{Mode, IfFree, IsMomentOf, has_moment, IsOfClock, AreOfClockAfter}
use Rattle.handler_post.specs.declared.way.Sent.{Sent}
use Rattle.handler_post.specs.declared.way.Sent.TheVariants.{Accepted as Took, Refused as Turned, NoMemory as NoRoom}
use Rattle.dash_hall.specs.Growth.{own, GoesOn, Makes, BarsOf}
use Rattle.dash_hall.specs.QueueCalls.{IfSent}
use Rattle.dash_hall.specs.ByClock.{is_by, IsInMode, AddsByClock, AddsAt}
use Rattle.dash_hall.specs.Hosts.{HostOrigin, IsHost}
use Rattle.dash_hall.proofs.Clocking.{where_true, clock_more, clock_others, clock_quiet, EntersAt, bars_enter, its_moment, of_either, made_moment}

-- nothing more was seen
pub adds_none : (m : Mode) (p q : Sender) → q.view.seen ≡ p.view.seen → AddsByClock m p q
adds_none m p q same = record { more = []; seen = same ∙ sym (append-nil p.view.seen); clocked = tt }

-- one after the other
pub adds_then : (m : Mode) (p q r : Sender) → q.sender ≡ p.sender → AddsByClock m p q → AddsByClock m q r → AddsByClock m p r
adds_then m p q r sender f g = record {
  more = f.more ++ g.more;
  seen = g.seen ∙ (ap (λ (l : List Entry). l ++ g.more) f.seen ∙ append_assoc p.view.seen f.more g.more);
  clocked = clock_more m (is_by p.sender) p.view.seen f.more g.more f.clocked
      (subst (λ (l : List Entry). AreOfClockAfter m (is_by p.sender) l g.more) f.seen (subst (λ (k : ℕ). AreOfClockAfter m (is_by k) q.view.seen g.more) sender g.clocked));
}

-- its own entries among these have no moment
pub adds_quiet : (m : Mode) (p q : Sender) (a b : Tally) (es : List Entry) → GoesOn p q a b → own q ≡ own p ++ es → AllByRecursion (λ (e : Entry). has_moment e.call ≡ false) es → AddsByClock m p q
adds_quiet m p q a b es g made none =
    let grown : own p ++ entries_by p.sender g.more ≡ own p ++ es =
    sym (filter-append (λ (e : Entry). e.sender == p.sender) p.view.seen g.more) ∙ ((λ i. entries_by (sym g.sender i) (sym g.seen i)) ∙ made) in
    let mine : entries_by p.sender g.more ≡ es = append_cancel_left (own p) (entries_by p.sender g.more) es grown in
    record {
      more = g.more;
      seen = g.seen;
      clocked = clock_quiet m p.sender p.view.seen g.more (subst (λ (l : List Entry). AllByRecursion (λ (e : Entry). has_moment e.call ≡ false) l) (sym mine) none);
    }

-- it made no call
pub adds_nothing : (m : Mode) (p q : Sender) (a b : Tally) → GoesOn p q a b → own q ≡ own p → AddsByClock m p q
adds_nothing m p q a b g same = adds_quiet m p q a b [] g (same ∙ sym (append-nil (own p))) tt

-- it made a call that has no moment
pub adds_call : (m : Mode) (p q : Sender) (a b : Tally) (c : Call) (tokens : List ℕ) → GoesOn p q a b → has_moment c ≡ false → Makes p q c tokens → AddsByClock m p q
adds_call m p q a b c tokens g none made = adds_quiet m p q a b (made.entry ∷ []) g made.made (made_moment p q c tokens made none, tt)

-- it posted a barrier at this moment
pub adds_barrier : (m : Mode) (p q : Sender) (u token : ℕ) → m.lockstep ≡ false → IsInMode m p → IsMomentOf m u → BarsOf p q u token → AddsByClock m p q
adds_barrier m p q u token free mode moment bars = by_turn (bars_enter p q u token bars)
  where
    by_turn : EntersAt Barrier p q u → AddsByClock m p q
    by_turn (x, y, t, r, left) =
        let f = found p q x y t in
        let e = entry_of x p.sender (Barrier (moment_at x u)) r in
        let at = its_moment m p q x y u t mode free in
        let one : AreOfClockAfter m (is_by p.sender) x.entries (e ∷ []) =
        (where_true (p.sender == p.sender) (IsOfClock m (clock (empty_base 0) x.entries) (Barrier (moment_at x u))) (λ _. of_either m (clock (empty_base 0) x.entries) u (moment_at x u) at.0 moment), tt) in
        record {
          more = f.others ++ e ∷ [];
          seen = t.seen ∙ (left ∙ (ap (λ (l : List Entry). l ++ e ∷ []) f.entries ∙ append_assoc p.view.seen f.others (e ∷ [])));
          clocked = clock_more m (is_by p.sender) p.view.seen f.others (e ∷ []) (clock_others m p.sender p.view.seen f.others f.all)
              (subst (λ (l : List Entry). AreOfClockAfter m (is_by p.sender) l (e ∷ [])) f.entries one);
        }

-- ---- what a host's calls add

pub sent_adds : (u : ℕ) (p q : Sender) (a b : Tally) (letter : PostData) (r : Sent) → GoesOn p q a b → IfSent r (own q ≡ own p) (Makes p q (bare_call (Post letter)) []) → AddsAt u p q
sent_adds u p q a b letter (Took number wake) g made = λ m free mode moment. adds_call m p q a b (bare_call (Post letter)) [] g refl made
sent_adds u p q a b letter (Turned place) g made = λ m free mode moment. adds_call m p q a b (bare_call (Post letter)) [] g refl made
sent_adds u p q a b letter NoRoom g same = λ m free mode moment. adds_nothing m p q a b g same

pub barred_adds : {E : Type 0} (u : ℕ) (p q : Sender) (a b : Tally) (r : Result ℕ E) → GoesOn p q a b → IfOk r (λ token. BarsOf p q u token) → OnErr r (own q ≡ own p) → AddsAt u p q
barred_adds u p q a b (Ok token) g bars same = λ m free mode moment. adds_barrier m p q u token free mode moment bars
barred_adds u p q a b (Err e) g bars same = λ m free mode moment. adds_nothing m p q a b g same

pub unbarred_adds : {A E : Type 0} (u token : ℕ) (p q : Sender) (a b : Tally) (r : Result A E) → GoesOn p q a b → OnOk r (Makes p q (Unbarrier token) []) → OnErr r (own q ≡ own p) → AddsAt u p q
unbarred_adds u token p q a b (Ok x) g made same = λ m free mode moment. adds_call m p q a b (Unbarrier token) [] g refl made
unbarred_adds u token p q a b (Err e) g made same = λ m free mode moment. adds_nothing m p q a b g same

-- a queue is in the mode for a poster that went on too
pub in_mode_then : (m : Mode) (p q : Sender) → q.view.constants ≡ p.view.constants → IsInMode m p → IsInMode m q
in_mode_then m p q same = subst (λ (o : Option (Constants TableId)). IfFree m ((c : Constants TableId) × (o ≡ Some c) × (c.setting.lockstep ≡ false))) (sym same)

-- the poster has done nothing since
pub begins_by_clock : (u : ℕ) (p q : Sender) → p ≡ q → AddsAt u p q
begins_by_clock u p q same = λ m free mode moment. adds_none m p q (ap (λ (z : Sender). z.view.seen) (sym same))

-- what a host added that was made of this poster at this moment
pub adds_hosted : {U : Type 0} (o o' : HostOrigin U) (u : ℕ) (p q : Sender) (b : Tally) → o' ≡ o → IsHost o' q b → o.poster ≡ p → o.now ≡ u → AddsAt u p q
adds_hosted o o' u p q b same is began at =
    let here : AddsAt o.now o.poster q = subst (λ z. AddsAt z.now z.poster q) same is.clocked in
    subst (λ (n : ℕ). AddsAt n p q) at (subst (λ (z : Sender). AddsAt o.now z q) began here)
