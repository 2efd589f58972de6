-- A looper disposes of its queue by its last call, if at all.
use Rattle.std.proofs.Common.{◌≡◌, ℕ, Bool, true, false, List, [], ◌∷◌, ◌++◌, All, refl, sym, ap, ◌∙◌, subst, eq-eqb, inl, inr, append_assoc}
use Rattle.std.specs.Prelude.{◌==◌, ◌&&◌, not}
use Rattle.std.proofs.lemmas.Bool.{eqb-true}
use Rattle.std.proofs.lemmas.List.{append-nil}
use Rattle.std.proofs.lemmas.List.Elements.{filter-append}
use Rattle.loop_model.specs.declared.entry.Entry.{Entry}
use Rattle.loop_model.specs.Entries.{is_disposed}
use Rattle.queue_state.specs.Queue.{entry_of}
use Rattle.shared_queue.specs.Known.{IsTurn}
use Rattle.looper_run.specs.declared.looper.Round.{Round}
use Rattle.looper_run.specs.declared.looper.Round.TheVariants.{Drained, Ended, NoMemory}
use Rattle.looper_run.specs.Holding.{Sender, State, Holding, Looping}
use Rattle.looper_run.specs.Acts.{IsNoLookOf}
use Rattle.looper_run.specs.Tests.{IsLent}
use Rattle.looper_run.specs.Asked.{any_heard}
use Rattle.looper_run.specs.Looks.{HasDispatched, HasIdled, EndsBy, HasEnded, Looked, IsBegun, IsRound}
use Rattle.looper_run.specs.Round.{is_ended}
use Rattle.looper_run.proofs.Turning.{IsOther, found}
use Rattle.looper_run.proofs.Working.{first_all}
use Rattle.run_model.specs.Planned.{entries_by}
use Rattle.run_model.proofs.RunLaws.{entries_by-append, entries_by-own}
use Rattle.dash_loopers.specs.Loopers.{is_disposal, calls_among, DisposesLast, DisposesAtEnd, is_given_up}

-- the calls of two parts
pub calls_among-append : (xs ys : List Entry) → calls_among (xs ++ ys) ≡ calls_among xs ++ calls_among ys
calls_among-append xs ys = filter-append (λ e. not (is_disposal e)) xs ys

-- entries of a sender, the first of which passes or is another's
keeps_first : (k : ℕ) (e : Entry) (more : List Entry) → ((e.sender == k) ≡ true → is_disposal e ≡ false) → calls_among (entries_by k more) ≡ entries_by k more
    → calls_among (entries_by k (e ∷ more)) ≡ entries_by k (e ∷ more)
keeps_first k e more free rest = go (e.sender == k) refl
  where
    go : (t : Bool) → (e.sender == k) ≡ t → calls_among (entries_by k (e ∷ more)) ≡ entries_by k (e ∷ more)
    go true own = let mine = free own in rw (own, mine, rest) refl
    go false other = rw (other, rest) refl

-- entries that are no looks of the sender dispose of nothing
none_by_calls : (k : ℕ) (more : List Entry) → All (IsNoLookOf k) more → calls_among (entries_by k more) ≡ entries_by k more
none_by_calls k [] none = refl
none_by_calls k (e ∷ more) none =
    let parts = first_all (IsNoLookOf k) e more none in
    keeps_first k e more (λ own. ap (λ t. t && is_disposed e.reply) (parts.0 (eqb-true e.sender k own))) (none_by_calls k more parts.1)

-- nor do those of others
none_by_others : (k : ℕ) (more : List Entry) → All (IsOther k) more → calls_among (entries_by k more) ≡ entries_by k more
none_by_others k [] others = refl
none_by_others k (e ∷ more) others =
    let parts = first_all (IsOther k) e more others in
    keeps_first k e more (λ own. absurd (parts.0 (eqb-true e.sender k own))) (none_by_others k more parts.1)

-- the same sender has seen more, and disposed of nothing by what it called
pub record Calls (a b : Sender) : Type 0 where
  pub more : List Entry
  pub seen : b.view.seen ≡ a.view.seen ++ more
  pub sender : b.sender ≡ a.sender
  pub none : calls_among (entries_by a.sender more) ≡ entries_by a.sender more

pub calls_none : (a b : Sender) → b ≡ a → Calls a b
calls_none a b same = record { more = []; seen = ap (λ (p : Sender). p.view.seen) same ∙ sym (append-nil a.view.seen); sender = ap (λ (p : Sender). p.sender) same; none = refl }

-- two parts of entries that dispose of nothing
none_both : (k : ℕ) (xs ys : List Entry) → calls_among (entries_by k xs) ≡ entries_by k xs → calls_among (entries_by k ys) ≡ entries_by k ys → calls_among (entries_by k (xs ++ ys)) ≡ entries_by k (xs ++ ys)
none_both k xs ys f g =
    ap calls_among (entries_by-append k xs ys) ∙ (calls_among-append (entries_by k xs) (entries_by k ys) ∙ ((λ i. f i ++ g i) ∙ sym (entries_by-append k xs ys)))

pub calls_then : (a b c : Sender) → Calls a b → Calls b c → Calls a c
calls_then a b c f g = record {
  more = f.more ++ g.more;
  seen = g.seen ∙ (ap (λ l. l ++ g.more) f.seen ∙ append_assoc a.view.seen f.more g.more);
  sender = g.sender ∙ f.sender;
  none = none_both a.sender f.more g.more f.none (subst (λ (k : ℕ). calls_among (entries_by k g.more) ≡ entries_by k g.more) f.sender g.none);
}

-- what a dispatcher does
pub calls_lent : (a b : Holding) → IsLent a b → Calls a.poster b.poster
calls_lent a b lent = record { more = lent.more; seen = lent.seen; sender = lent.same.sender; none = none_by_calls a.poster.sender lent.more lent.no_looks }

-- a turn that leaves this behind what it found
calls_turn : (p q : Sender) (x y : State) (tail : List Entry) → IsTurn p q x y → y.entries ≡ x.entries ++ tail → calls_among (entries_by p.sender tail) ≡ entries_by p.sender tail → Calls p q
calls_turn p q x y tail turn left free =
    let f = found p q x y turn in record {
      more = f.others ++ tail;
      seen = turn.seen ∙ (left ∙ (ap (λ (l : List Entry). l ++ tail) f.entries ∙ append_assoc p.view.seen f.others tail));
      sender = turn.sender;
      none = none_both p.sender f.others tail (none_by_others p.sender f.others f.all) free;
    }

-- a turn that leaves what it found
pub calls_still : (p q : Sender) (x y : State) → IsTurn p q x y → y.entries ≡ x.entries → Calls p q
calls_still p q x y turn same = calls_turn p q x y [] turn (same ∙ sym (append-nil x.entries)) refl

-- a look that took a message
pub calls_taken : (now : ℕ) (a b : Looping) → HasDispatched now a b → Calls a.held.poster b.held.poster
calls_taken now a b h =
    let look = h.look in
    let p = a.held.poster in
    let lent = h.done.1.lent in
    let told = h.done.1.poster in
    let back = h.done.2.poster in
    calls_then p h.looked b.held.poster
    (calls_turn p h.looked look.0 look.1 _ look.2 (ap (λ (s : State). s.entries) look.3.3) (keeps_first p.sender _ [] (λ own. refl) refl))
    (calls_then h.looked h.done.1.left.poster b.held.poster (calls_lent _ h.done.1.left lent) (calls_none h.done.1.left.poster b.held.poster (back ∙ told)))

pub calls_idle : (now : ℕ) (a b : Looping) → HasIdled now a b → Calls a.held.poster b.held.poster
calls_idle now a b h = let look = h.look in calls_still a.held.poster b.held.poster look.0 look.1 look.2 (ap (λ (s : State). s.entries) look.3.3)

-- all looks of a round but the last
calls_looked : (now : ℕ) (looks : List Bool) (a b : Looping) → Looked now looks a b → Calls a.held.poster b.held.poster
calls_looked now [] a b h = calls_none a.held.poster b.held.poster (ap (λ (l : Looping). l.held.poster) h)
calls_looked now (true ∷ looks) a b h = calls_then a.held.poster h.0.held.poster b.held.poster (calls_looked now looks a h.0 h.1) (calls_taken now h.0 b h.2)
calls_looked now (false ∷ looks) a b h = calls_then a.held.poster h.0.held.poster b.held.poster (calls_looked now looks a h.0 h.1) (calls_idle now h.0 b h.2)

calls_begun : (a b : Looping) → IsBegun any_heard a b → Calls a.held.poster b.held.poster
calls_begun a b h = calls_then a.held.poster h.left.poster b.held.poster (calls_lent a.held h.left h.lent) (calls_none h.left.poster b.held.poster h.poster)

-- all of the sender's own entries, where none disposed before
pub none_now : (k : ℕ) (a b : Sender) → Calls a b → a.sender ≡ k → calls_among (entries_by k a.view.seen) ≡ entries_by k a.view.seen → calls_among (entries_by k b.view.seen) ≡ entries_by k b.view.seen
none_now k a b f own before =
    subst (λ (l : List Entry). calls_among (entries_by k l) ≡ entries_by k l) (sym f.seen)
    (none_both k a.view.seen f.more before (subst (λ (n : ℕ). calls_among (entries_by n f.more) ≡ entries_by n f.more) own f.none))

-- the last look ended the queue, or found it over
pub disposes_last : (k now : ℕ) (a b : Looping) → HasEnded now a b → a.held.poster.sender ≡ k → calls_among (entries_by k a.held.poster.view.seen) ≡ entries_by k a.held.poster.view.seen → DisposesLast (entries_by k b.held.poster.view.seen)
disposes_last k now a b h own before = by_look h.look
  where
    by_look : EndsBy now a b → DisposesLast (entries_by k b.held.poster.view.seen)
    by_look (inl end) = (
        let look = end.1 in
        let x = look.0 in
        let e : Entry = entry_of x a.held.poster.sender _ _ in
        let mine : (e.sender == k) ≡ true = eq-eqb a.held.poster.sender k own in
        let left = ap (λ (s : State). s.entries) look.3.2 in
        let f = found a.held.poster b.held.poster x look.1 look.2 in
        let past = a.held.poster.view.seen ++ f.others in
        let none = none_both k a.held.poster.view.seen f.others before (none_by_others k f.others (subst (λ n. All (IsOther n) f.others) own f.all)) in
        let whole : b.held.poster.view.seen ≡ past ++ e ∷ [] = look.2.seen ∙ (left ∙ ap (λ l. l ++ e ∷ []) f.entries) in
        let made : entries_by k b.held.poster.view.seen ≡ entries_by k past ++ e ∷ [] = ap (entries_by k) whole ∙ entries_by-own k past e mine in
        let calls : calls_among (entries_by k b.held.poster.view.seen) ≡ entries_by k past =
        ap calls_among made ∙ (calls_among-append (entries_by k past) (e ∷ []) ∙ (append-nil (calls_among (entries_by k past)) ∙ none)) in
        inr (e, made ∙ ap (λ l. l ++ e ∷ []) (sym calls), refl))
    by_look (inr over) = (
        let look = over.0 in
        inl (none_now k a.held.poster b.held.poster (calls_still a.held.poster b.held.poster look.0 look.1 look.2 (ap (λ (s : State). s.entries) look.3.1)) own before))

-- before a round
pub open_before : (r : Round) (es : List Entry) → is_ended r ≡ false → is_given_up r ≡ false → DisposesAtEnd r es → calls_among es ≡ es
open_before (Drained dispatched until) es e g h = h
open_before (Ended dispatched) es e g h = absurd cc
open_before NoMemory es e g h = absurd cc

-- so it is after a round, where it was so before
pub disposes_by_round : (k now : ℕ) (a b : Looping) (last last' : Round) → is_ended last ≡ false → is_given_up last ≡ false → a.held.poster.sender ≡ k → IsRound any_heard now a b last'
    → DisposesAtEnd last (entries_by k a.held.poster.view.seen) → DisposesAtEnd last' (entries_by k b.held.poster.view.seen)
disposes_by_round k now a b last (Drained dispatched until) e g own r h =
    let start = r.0 in
    let drain = r.2 in
    let look = drain.2.look in
    let until_last = calls_then a.held.poster start.held.poster drain.0.held.poster (calls_begun a start r.1) (calls_looked now drain.1.0 start drain.0 drain.1.1) in
    none_now k a.held.poster b.held.poster
    (calls_then a.held.poster drain.0.held.poster b.held.poster until_last (calls_still drain.0.held.poster b.held.poster look.0 look.1 look.2 (ap (λ (s : State). s.entries) look.3.3)))
    own (open_before last (entries_by k a.held.poster.view.seen) e g h)
disposes_by_round k now a b last (Ended dispatched) e g own r h =
    let start = r.0 in
    let drain = r.2 in
    let until_last = calls_then a.held.poster start.held.poster drain.0.held.poster (calls_begun a start r.1) (calls_looked now drain.1.0 start drain.0 drain.1.1) in
    disposes_last k now drain.0 b drain.2 (until_last.sender ∙ own)
    (none_now k a.held.poster drain.0.held.poster until_last own (open_before last (entries_by k a.held.poster.view.seen) e g h))
disposes_by_round k now a b last NoMemory e g own r h = tt

-- a looper that has called nothing
pub disposes_none : (r : Round) (es : List Entry) → is_ended r ≡ false → es ≡ [] → DisposesAtEnd r es
disposes_none (Drained dispatched until) es e none = ap calls_among none ∙ sym none
disposes_none (Ended dispatched) es e none = absurd cc
disposes_none NoMemory es e none = tt

-- the same of equal entries
pub disposes_same : (r r' : Round) (es fs : List Entry) → r' ≡ r → fs ≡ es → DisposesAtEnd r es → DisposesAtEnd r' fs
disposes_same r r' es fs same entries h = subst (λ z. DisposesAtEnd z fs) (sym same) (subst (DisposesAtEnd r) (sym entries) h)

-- a looper that found memory has disposed of its queue by its last call, if at all
pub disposes_so_far : (r : Round) (es : List Entry) → is_given_up r ≡ false → DisposesAtEnd r es → DisposesLast es
disposes_so_far (Drained dispatched until) es g h = inl h
disposes_so_far (Ended dispatched) es g h = h
disposes_so_far NoMemory es g h = absurd cc
