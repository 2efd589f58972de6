-- A history that is gone through entry by entry is good as far as each entry follows, and no further.
use Rattle.std.proofs.Common.{◌≡◌, ◌+◌, ◌<◌, ◌≤◌, ℕ, cond, List, [], ◌∷◌, ◌++◌, length, get_or, take, drop, Option, Some, None, refl, sym, ap, subst, ◌∙◌, inl, inr, arith}
use Rattle.std.specs.Prelude.{◌==◌, fold, count_by, replicate, slice_index}
use Rattle.std.proofs.lemmas.Bool.{cases_lt}
use Rattle.std.proofs.lemmas.List.{get_or_default, get_or-replicate, get_or_past, take_more, take_all, take-append-drop, take-append-le, length-replicate, length-take-le}
use Rattle.std.proofs.lemmas.List.Sums.{sum_by-append}
use Rattle.std.proofs.lemmas.List.Sums.{fold-append}
use Rattle.loop_model.specs.declared.base.Base.{Base}
use Rattle.loop_model.specs.declared.call.Call.{Call}
use Rattle.loop_model.specs.declared.call.Call.TheVariants.{Post, Barrier, Unbarrier, Remove, Quit, Next, Advance, Halt}
use Rattle.loop_model.specs.declared.entry.Entry.{Entry}
use Rattle.trace_check.specs.declared.trace.TraceQueue.{TraceQueue}
use Rattle.loop_model.specs.Answers.{Setting, answer, clock, accepted_count, barrier_count, quit_place, has_disposed, has_halted}
use Rattle.loop_model.specs.Base.{empty_base}
use Rattle.loop_model.specs.Chain.{after}
use Rattle.loop_model.specs.Live.{live, live_in_order}
use Rattle.loop_model.specs.Pick.{first_eligible, pick}
use Rattle.loop_model.specs.Legal.{CallFitsTime, MayFollow, made_count, IsNextOfSender}
use Rattle.loop_model.specs.Listed.{listed_answer, next_base}
use Rattle.loop_model.proofs.AfterLaws.{after-fold}
use Rattle.loop_model.proofs.PlainLaws.{fold_answers, fold_items}
use Rattle.loop_model.proofs.LegalLaws.{IsLegal-none, IsLegal-snoc, IsLegal-front, IsLegal-last, AreNumbered-none, AreNumbered-snoc}
use Rattle.loop_model.proofs.NumberLaws.{AreNumbered-front, AreNumbered-last, AreNumbered-known}
use Rattle.loop_model.proofs.WellFormedLaws.{after_well_formed, empty_well_formed}
use Rattle.trace_check.specs.declared.checker.Checked.TheVariants as checked
use Rattle.trace_check.specs.Ranks.{AreApart}
use Rattle.loop_model.specs.Counters.{setting}
use Rattle.trace_check.specs.Checking.{IsCheckedFirst, AllFirst, AllLegal, Follows, IsFault, IsFaultAfter, IsFaultBy, IsSenderFault}
use Rattle.trace_check.specs.Good.{trace_setting, IsGood, IsFirstBad}
use Rattle.trace_check.specs.declared.fault.Fault.{Fault}
use Rattle.trace_check.specs.declared.fault.Fault.TheVariants as fault

-- ---- one entry

-- the reply hangs neither on how many senders there are
listed_same : (q : TraceQueue) (b : Base) (c : Call) → listed_answer (setting q.main q.lockstep) b c ≡ listed_answer (trace_setting q) b c
unfolding listed_answer
listed_same q b (Post p) = refl
listed_same q b (Barrier now) = refl
listed_same q b (Unbarrier t) = refl
listed_same q b (Remove f) = refl
listed_same q b (Quit safe now) = refl
listed_same q b (Next now) = refl
listed_same q b (Advance now) = refl
listed_same q b (Halt now) = refl

-- nor on the counts of their entries
answer_same : (s : Setting) (n : ℕ) (es : List Entry) (c : Call) → answer s (empty_base 0) es c ≡ answer s (empty_base n) es c
unfolding answer clock accepted_count barrier_count quit_place has_disposed has_halted live first_eligible pick
answer_same s n es (Post p) = refl
answer_same s n es (Barrier now) = refl
answer_same s n es (Unbarrier t) = refl
answer_same s n es (Remove f) = refl
answer_same s n es (Quit safe now) = refl
answer_same s n es (Next now) = refl
answer_same s n es (Advance now) = refl
answer_same s n es (Halt now) = refl

reply_is : (q : TraceQueue) (es : List Entry) (c : Call) → listed_answer (setting q.main q.lockstep) (fold next_base (empty_base 0) es) c ≡ answer (trace_setting q) (empty_base q.senders) es c
reply_is q es c = listed_same q (fold next_base (empty_base 0) es) c ∙ fold_answers (trace_setting q) es c ∙ answer_same (trace_setting q) q.senders es c

clock_same : (n : ℕ) (es : List Entry) → clock (empty_base 0) es ≡ clock (empty_base n) es
unfolding clock
clock_same n es = refl

time_is : (q : TraceQueue) (es : List Entry) → (fold next_base (empty_base 0) es).time ≡ clock (empty_base q.senders) es
unfolding after
time_is q es = ap (λ b. b.time) (sym (after-fold (empty_base 0) es tt)) ∙ clock_same q.senders es

none_made : (n sender : ℕ) → slice_index (replicate n 0) sender ≡ 0
none_made n sender =
    elim (cases_lt sender n) [
      | inl lt ↦ get_or-replicate n sender 0 0 lt
      | inr le ↦ get_or_past (replicate n 0) sender 0 (omega (arith, le, length-replicate {A = ℕ} n 0))
    ]

count_is : (q : TraceQueue) (es : List Entry) (sender : ℕ) → made_count (empty_base q.senders) es sender ≡ count_by (λ e. e.sender == sender) es
unfolding made_count
count_is q es sender = let none = none_made q.senders sender in omega (arith, none)

-- what has gone before, as it is kept
record Kept (q : TraceQueue) (b : Base) (made : ℕ → ℕ) (es : List Entry) : Type 0 where
  pub base : b ≡ fold next_base (empty_base 0) es
  pub counts : (sender : ℕ) → made sender ≡ count_by (λ e. e.sender == sender) es

may_follow : (q : TraceQueue) (b : Base) (made : ℕ → ℕ) (es : List Entry) (e : Entry) → Kept q b made es → Follows q b (made e.sender) e
    → MayFollow (trace_setting q) (empty_base q.senders) es e × IsNextOfSender (trace_setting q) (empty_base q.senders) es e
may_follow q b made es e k f =
    let reply = subst (λ x. listed_answer (setting q.main q.lockstep) x e.call ≡ Some e.reply) k.base f.reply in
    let timely = subst (λ x. CallFitsTime q.lockstep x.time e.call) k.base f.timely in (
      record { reply = sym (reply_is q es e.call) ∙ reply; timely = subst (λ t. CallFitsTime q.lockstep t e.call) (time_is q es) timely },
      record { known = f.numbered.known; counted = f.numbered.counted ∙ k.counts e.sender ∙ sym (count_is q es e.sender); controller = f.numbered.controller },
    )

follows : (q : TraceQueue) (b : Base) (made : ℕ → ℕ) (es : List Entry) (e : Entry) → Kept q b made es → MayFollow (trace_setting q) (empty_base q.senders) es e → IsNextOfSender (trace_setting q) (empty_base q.senders) es e
    → Follows q b (made e.sender) e
follows q b made es e k m n =
    record {
      reply = subst (λ x. listed_answer (setting q.main q.lockstep) x e.call ≡ Some e.reply) (sym k.base) (reply_is q es e.call ∙ m.reply);
      timely = subst (λ x. CallFitsTime q.lockstep x.time e.call) (sym k.base) (subst (λ t. CallFitsTime q.lockstep t e.call) (sym (time_is q es)) m.timely);
      numbered = record { known = n.known; counted = n.counted ∙ count_is q es e.sender ∙ sym (k.counts e.sender); controller = n.controller };
    }

-- ---- a beginning of a history

pub good_none : (q : TraceQueue) → IsGood q []
good_none q = (IsLegal-none (trace_setting q) (empty_base q.senders), AreNumbered-none (trace_setting q) (empty_base q.senders))

good_front : (q : TraceQueue) (es fs : List Entry) → IsGood q (es ++ fs) → IsGood q es
good_front q es fs g = (IsLegal-front (trace_setting q) (empty_base q.senders) es fs g.0, AreNumbered-front (trace_setting q) (empty_base q.senders) es fs g.1)

take_take : (i j : ℕ) (es : List Entry) → i ≤ j → j ≤ length es → take i es ≡ take i (take j es)
take_take i j es le within =
    ap (take i) (sym (take-append-drop j es)) ∙ take-append-le i (take j es) (drop j es) (omega (arith, le, length-take-le j es within))

good_less : (q : TraceQueue) (i j : ℕ) → i ≤ j → j ≤ length q.entries → IsGood q (take j q.entries) → IsGood q (take i q.entries)
good_less q i j le within g =
    let front = good_front q (take i (take j q.entries)) (drop i (take j q.entries)) (subst (IsGood q) (sym (take-append-drop i (take j q.entries))) g) in
    subst (IsGood q) (sym (take_take i j q.entries le within)) front

good_part : (q : TraceQueue) (i : ℕ) → i ≤ length q.entries → IsGood q q.entries → IsGood q (take i q.entries)
good_part q i le g = good_less q i (length q.entries) le (omega arith) (subst (IsGood q) (sym (take_all (length q.entries) q.entries (omega arith))) g)

-- ---- one entry more

good_more : (q : TraceQueue) (b : Base) (made : ℕ → ℕ) (i : ℕ) (d : Entry) → i < length q.entries → b ≡ fold next_base (empty_base 0) (take i q.entries)
    → ((sender : ℕ) → made sender ≡ count_by (λ e. e.sender == sender) (take i q.entries)) → IsGood q (take i q.entries) → Follows q b (made (get_or q.entries i d).sender) (get_or q.entries i d)
    → IsGood q (take (i + 1) q.entries)
good_more q b made i d lt base counts good f =
    let m = may_follow q b made (take i q.entries) (get_or q.entries i d) (record { base = base; counts = counts }) f in
    subst (IsGood q) (sym (take_more q.entries i d lt)) (
      IsLegal-snoc (trace_setting q) (empty_base q.senders) (take i q.entries) (get_or q.entries i d) good.0 m.0,
      AreNumbered-snoc (trace_setting q) (empty_base q.senders) (take i q.entries) (get_or q.entries i d) good.1 m.1,
    )

bad_more : (q : TraceQueue) (b : Base) (made : ℕ → ℕ) (i : ℕ) (d : Entry) → i < length q.entries → b ≡ fold next_base (empty_base 0) (take i q.entries)
    → ((sender : ℕ) → made sender ≡ count_by (λ e. e.sender == sender) (take i q.entries)) → (Follows q b (made (get_or q.entries i d).sender) (get_or q.entries i d) → ⊥)
    → IsGood q (take (i + 1) q.entries) → ⊥
bad_more q b made i d lt base counts no_ good =
    let g = subst (IsGood q) (take_more q.entries i d lt) good in
    let m = IsLegal-last (trace_setting q) (empty_base q.senders) (take i q.entries) (get_or q.entries i d) g.0 in
    let n = AreNumbered-last (trace_setting q) (empty_base q.senders) (take i q.entries) (get_or q.entries i d) g.1 in
    no_ (follows q b made (take i q.entries) (get_or q.entries i d) (record { base = base; counts = counts }) m n)

base_more : (q : TraceQueue) (b n : Base) (i : ℕ) (d : Entry) → i < length q.entries → b ≡ fold next_base (empty_base 0) (take i q.entries) → n ≡ next_base b (get_or q.entries i d)
    → n ≡ fold next_base (empty_base 0) (take (i + 1) q.entries)
base_more q b n i d lt base next =
    next ∙ ap (λ x. next_base x (get_or q.entries i d)) base ∙ sym (fold-append next_base (empty_base 0) (take i q.entries) (get_or q.entries i d ∷ [])) ∙ ap (fold next_base (empty_base 0)) (sym (take_more q.entries i d lt))

counts_more : (es : List Entry) (m n : ℕ → ℕ) (i : ℕ) (d : Entry) → i < length es → ((sender : ℕ) → m sender ≡ count_by (λ e. e.sender == sender) (take i es))
    → ((other : ℕ) → n other ≡ m other + cond ((get_or es i d).sender == other) 1 0) → (sender : ℕ) → n sender ≡ count_by (λ e. e.sender == sender) (take (i + 1) es)
counts_more es m n i d lt before step sender =
    let one = sum_by-append (λ (e : Entry). cond (e.sender == sender) 1 0) (take i es) (get_or es i d ∷ []) in
    let whole : count_by (λ (e : Entry). e.sender == sender) (take (i + 1) es) ≡ count_by (λ (e : Entry). e.sender == sender) (take i es ++ get_or es i d ∷ []) = ap (count_by (λ e. e.sender == sender)) (take_more es i d lt) in
    omega (arith, one, whole, before sender, step sender)

-- the same over the list that is gone through, with what is kept of the entry's sender
pub good_at : (q : TraceQueue) (b : Base) (made : ℕ → ℕ) (i : ℕ) (d : Entry) (xs : List Entry) (m : ℕ) → xs ≡ q.entries → m ≡ made (get_or xs i d).sender → i < length xs → b ≡ fold next_base (empty_base 0) (take i q.entries)
    → ((sender : ℕ) → made sender ≡ count_by (λ e. e.sender == sender) (take i q.entries)) → IsGood q (take i q.entries) → Follows q b m (get_or xs i d) → IsGood q (take (i + 1) q.entries)
good_at q b made i d xs m e me lt base counts good f =
    let here = subst (λ x. Follows q b x (get_or xs i d)) me f in
    good_more q b made i d (subst (λ x. i < length x) e lt) base counts good (subst (λ x. Follows q b (made (get_or x i d).sender) (get_or x i d)) e here)

pub bad_at : (q : TraceQueue) (b : Base) (made : ℕ → ℕ) (i : ℕ) (d : Entry) (xs : List Entry) (m : ℕ) → xs ≡ q.entries → m ≡ made (get_or xs i d).sender → i < length xs → b ≡ fold next_base (empty_base 0) (take i q.entries)
    → ((sender : ℕ) → made sender ≡ count_by (λ e. e.sender == sender) (take i q.entries)) → (Follows q b m (get_or xs i d) → ⊥) → IsGood q (take (i + 1) q.entries) → ⊥
bad_at q b made i d xs m e me lt base counts no_ =
    bad_more q b made i d (subst (λ x. i < length x) e lt) base counts
    (λ f. no_ (subst (λ x. Follows q b x (get_or xs i d)) (sym me) (subst (λ x. Follows q b (made (get_or x i d).sender) (get_or x i d)) (sym e) f)))

pub base_at : (q : TraceQueue) (b n : Base) (i : ℕ) (d : Entry) (xs : List Entry) → xs ≡ q.entries → i < length xs → b ≡ fold next_base (empty_base 0) (take i q.entries) → n ≡ next_base b (get_or xs i d)
    → n ≡ fold next_base (empty_base 0) (take (i + 1) q.entries)
base_at q b n i d xs e lt base next = base_more q b n i d (subst (λ x. i < length x) e lt) base (next ∙ ap (λ x. next_base b (get_or x i d)) e)

pub counts_at : (q : TraceQueue) (m n : ℕ → ℕ) (i : ℕ) (d : Entry) (xs : List Entry) → xs ≡ q.entries → i < length xs → ((sender : ℕ) → m sender ≡ count_by (λ e. e.sender == sender) (take i q.entries))
    → ((other : ℕ) → n other ≡ m other + cond ((get_or xs i d).sender == other) 1 0) → (sender : ℕ) → n sender ≡ count_by (λ e. e.sender == sender) (take (i + 1) q.entries)
counts_at q m n i d xs e lt before step =
    counts_more q.entries m n i d (subst (λ x. i < length x) e lt) before (λ other. step other ∙ ap (λ x. m other + cond ((get_or x i d).sender == other) 1 0) e)

live_same : (n : ℕ) (es : List Entry) → live_in_order (empty_base 0) es ≡ live_in_order (empty_base n) es
unfolding live_in_order live
live_same n es = refl

after_items : (b : Base) (es : List Entry) → (after b es).items ≡ live_in_order b es
unfolding after
after_items b es = refl

-- the items of a good history are apart
pub apart_of : (q : TraceQueue) (b : Base) (es : List Entry) → b ≡ fold next_base (empty_base 0) es → IsGood q es → AreApart b.items
apart_of q b es base good =
    let start = empty_base q.senders in
    let known = AreNumbered-known (trace_setting q) start es (length-replicate {A = ℕ} q.senders 0) good.1 in
    let formed = after_well_formed start es known (empty_well_formed q.senders) in
    let items : (after start es).items ≡ b.items = after_items start es ∙ sym (live_same q.senders es) ∙ sym (fold_items es) ∙ ap (λ x. x.items) (sym base) in
    subst AreApart items formed.distinct

-- ---- what is answered

pub first_is_bad : (q : TraceQueue) (i : ℕ) → i < length q.entries → IsGood q (take i q.entries) → (IsGood q (take (i + 1) q.entries) → ⊥) → IsCheckedFirst (checked.First i) q
first_is_bad q i lt good bad place e =
    let same : i ≡ place = cc in subst (IsFirstBad q) same (record { within = lt; before = good; at = bad })

pub first_of_all : (q : TraceQueue) (i : ℕ) → i < length q.entries → IsGood q (take i q.entries) → (IsGood q (take (i + 1) q.entries) → ⊥) → AllFirst (checked.First i) q
first_of_all q i lt good bad place f =
    elim (cases_lt place i) [
      | inl less ↦ absurd (f.at (good_less q (place + 1) i (omega (arith, less)) (omega (arith, lt)) good))
      | inr le ↦ elim (cases_lt i place) [
        | inl more ↦ absurd (bad (good_less q (i + 1) place (omega (arith, more)) (omega (arith, f.within)) f.before))
        | inr ge ↦ let same : i ≡ place = omega (arith, le, ge) in inl (ap checked.First same)
      ]
    ]

pub none_legal : (q : TraceQueue) (i : ℕ) → i < length q.entries → (IsGood q (take (i + 1) q.entries) → ⊥) → AllLegal (checked.First i) q
none_legal q i lt bad good = absurd (bad (good_part q (i + 1) (omega (arith, lt)) good))

pub whole_good : (q : TraceQueue) (i : ℕ) → length q.entries ≤ i → IsGood q (take i q.entries) → IsGood q q.entries
whole_good q i le good = subst (IsGood q) (take_all i q.entries le) good

pub none_first : (q : TraceQueue) → IsGood q q.entries → AllFirst checked.Legal q
none_first q good place f = absurd (f.at (good_part q (place + 1) (omega (arith, f.within)) good))

-- ---- what is wrong

-- an entry with a fault may not come next
pub fault_bad : (q : TraceQueue) (b : Base) (m : ℕ) (e : Entry) (f : Fault) → IsFault q (listed_answer (setting q.main q.lockstep) b e.call) b.time m e f → Follows q b m e → ⊥
fault_bad q b m e (fault.Reply w) h g = h.1 g.reply
fault_bad q b m e (fault.Moment t) h g = h.2 g.timely
fault_bad q b m e fault.Sender h g = let le = h.2 in let lt = g.numbered.known in omega (arith, le, lt)
fault_bad q b m e (fault.Number n) h g = h.4 g.numbered.counted
fault_bad q b m e fault.Control h g = h.5 (g.numbered.controller h.4)

fault_after : (q : TraceQueue) (b : Base) (made : ℕ → ℕ) (es : List Entry) (e : Entry) (f : Fault) → Kept q b made es → IsFault q (listed_answer (setting q.main q.lockstep) b e.call) b.time (made e.sender) e f → IsFaultAfter q es e f
fault_after q b made es e f k h =
    let reply : listed_answer (setting q.main q.lockstep) b e.call ≡ answer (trace_setting q) (empty_base q.senders) es e.call = ap (λ x. listed_answer (setting q.main q.lockstep) x e.call) k.base ∙ reply_is q es e.call in
    let time : b.time ≡ clock (empty_base q.senders) es = ap (λ x. x.time) k.base ∙ time_is q es in
    let count : made e.sender ≡ made_count (empty_base q.senders) es e.sender = k.counts e.sender ∙ sym (count_is q es e.sender) in
    subst (λ r. IsFault q r (clock (empty_base q.senders) es) (made_count (empty_base q.senders) es e.sender) e f) reply
    (subst (λ t. IsFault q (listed_answer (setting q.main q.lockstep) b e.call) t (made_count (empty_base q.senders) es e.sender) e f) time
    (subst (λ m. IsFault q (listed_answer (setting q.main q.lockstep) b e.call) b.time m e f) count h))

-- the same of the entry at a place of the list that is gone through
pub fault_at : (q : TraceQueue) (b : Base) (made : ℕ → ℕ) (i : ℕ) (d c : Entry) (xs : List Entry) (m : ℕ) (f : Fault) → xs ≡ q.entries → m ≡ made (get_or xs i d).sender → i < length xs → b ≡ fold next_base (empty_base 0) (take i q.entries)
    → ((sender : ℕ) → made sender ≡ count_by (λ e. e.sender == sender) (take i q.entries)) → IsFault q (listed_answer (setting q.main q.lockstep) b (get_or xs i d).call) b.time m (get_or xs i d) f
    → IsFaultAfter q (take i q.entries) (get_or q.entries i c) f
fault_at q b made i d c xs m f e me lt base counts h =
    let here = subst (λ x. IsFault q (listed_answer (setting q.main q.lockstep) b (get_or xs i d).call) b.time x (get_or xs i d) f) me h in
    let there = fault_after q b made (take i q.entries) (get_or xs i d) f (record { base = base; counts = counts }) here in
    subst (λ y. IsFaultAfter q (take i q.entries) y f) (get_or_default xs i d c lt ∙ ap (λ x. get_or x i c) e) there

pub fault_by : (q : TraceQueue) (b : Base) (made : ℕ) (e : Entry) (o : Option Fault) → listed_answer (setting q.main q.lockstep) b e.call ≡ Some e.reply → CallFitsTime q.lockstep b.time e.call
    → IsSenderFault o q made e → IsFaultBy o q b made e
fault_by q b made e None reply timely h = record { reply = reply; timely = timely; numbered = h }
fault_by q b made e (Some f) reply timely h = subst (λ wanted. IsFault q wanted b.time made e f) (sym reply) (h b.time timely)
