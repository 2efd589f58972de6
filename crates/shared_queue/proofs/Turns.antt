-- Each step keeps the rule.
use Rattle.std.proofs.Common.{◌≡◌, ℕ, zero, suc, ◌+◌, ◌%◌, ◌<◌, ◌≤◌, ◌≢◌, Bool, true, false, true≢false, cond, eqb, List, [], ◌∷◌, ◌++◌, length, get_or, set, take, drop, refl, append_assoc, sym, ap, ◌∙◌, subst, ⊎_elim, inl, inr, arith, Option, Some, None, length-append, length-set, get_or-set_other, get_or-set_same, eq-eqb, ne_eqb}
use Rattle.std.specs.Prelude.{All, ◌⊎◌}
use Rattle.std.proofs.lemmas.List.Elements.{All-nil, All-cons, All-append, All-weaker, All-map, All-take, All-drop}
use Rattle.std.proofs.lemmas.List.{take-append-drop, length-map, append-nil}
use Rattle.std.proofs.lemmas.List.FromFn.{get_or-map-range_with_len, length-map-range_with_len}
use mathlib.Core.Logic.{dite}
use mathlib.Core.Option.{some, none, some-ne-none, some-injective}
use mathlib.Core.List.{IsPrefix}
use native.Mathlib.Decide.{ℕ_discrete, dec_lt}
use lib.ListN.{get_elem?}
use lib.Seq.{set-get_or}
use prog.Atomic.{either}
use Rattle.atomic_table.specs.Table.{Act, Valid, carried_after, step, keeps, takes, gives, rest, homes_after, stepped, Allows, Enters, Splits, Joins, opening}
use Rattle.atomic_table.proofs.Lists.{at_set, set_here, set_else, at_snoc, exchanged}
use Rattle.loop_model.specs.declared.entry.Entry.{Entry}
use Rattle.loop_model.specs.declared.base.Base.{Base}
use Rattle.loop_model.specs.declared.segment.Segment.{Segment}
use Rattle.loop_model.specs.Base.{empty_base}
use Rattle.loop_model.specs.Chain.{after, entries_of}
use Rattle.loop_model.specs.Lists.{total, longer}
use Rattle.loop_model.specs.Answers.{Setting}
use Rattle.shared_queue.specs.Constants.{Constants, last_of, made_in, IsFor}
use Rattle.shared_queue.specs.Whole.{Course, whole_of, Spans}
use Rattle.shared_queue.specs.Claims.{AreClaims, claims_at, claims_with}
use Rattle.queue_state.specs.Queue.{Queue, part_of, sealed}
use Rattle.shared_queue.specs.declared.view.View.{View}
use Rattle.shared_queue.specs.Turn.{IsFreshState, Board, ArePast, turn_of, holds, Counts, IsPresent, Fits, AtHome, QueueTurn, new_senders, opening_view, counted, taking, seen_with, giving, part_in, handing, fresh, dealt, keeping, joined, gone}
use Rattle.shared_queue.proofs.Untold.{untold_before, untold_front, told_one}
use Rattle.shared_queue.specs.Plays.{Sat, bare, sat, took, gave, handed, MayGive, MayHand, learned, rang, listened}
use Rattle.loop_model.proofs.Sums.{set_at, has_first, total-append, total-set, total-none, term_le, terms_le}
use Rattle.loop_model.proofs.AfterLaws.{after-after, after-none}
use Rattle.loop_model.proofs.LegalLaws.{IsLegal-none, AreNumbered-none}
use Rattle.loop_model.proofs.Prefixes.{prefix_self, prefix_front, prefix_trans, longer_begins}
use Rattle.shared_queue.proofs.Prefixes.{made_in_push, one_of-no, made_in_between}
use Rattle.shared_queue.proofs.Claims.{keeps_sealed, no_claims}
use Rattle.shared_queue.proofs.Courses.{with_since, empty_length, seen_is, sealed_seen, chain_more, entries_more, past_legal, past_numbered}

abbrev shown_or : {H K : Type 0} → Queue H K → Option (Queue H K) → Queue H K
shown_or d None = d
shown_or d (Some x) = x

-- the state in the slot that was taken last
abbrev carried_or : {H K : Type 0} → Queue H K → List (ℕ × Option (Queue H K)) → Queue H K
carried_or d [] = d
carried_or d (p ∷ ps) = shown_or d p.1

abbrev IsBelow : {H : Type 0} → Constants H → ℕ × ℕ → Type 0
IsBelow key p = p.0 < key.setting.senders

-- a seat's senders are told apart from those of a sum
pub holds_at : (n : ℕ) (senders : List (ℕ × ℕ)) (k : ℕ) (d : ℕ × ℕ) → k < length senders → (get_or senders k d).0 ≡ n → 0 < total (λ (p : ℕ × ℕ). cond (eqb p.0 n) 1 0) senders
holds_at n [] k d l e = absurd (omega arith)
holds_at n (p ∷ ps) zero d l e = let one : cond {A = ℕ} (eqb p.0 n) 1 0 ≡ 1 = ap (λ b. cond {A = ℕ} b 1 0) (eq-eqb p.0 n e) in omega arith
holds_at n (p ∷ ps) (suc k) d l e = let rest = holds_at n ps k d (omega arith) e in omega arith

-- what a seat carries once the state was put into its slot
pub carried : {H K : Type 0} (m n : Sat H K) (x : Queue H K) → n ≡ (m.0, (0, Some x) ∷ rest m.1) → m.1 ≡ (0, None) ∷ [] → n.1 ≡ (0, Some x) ∷ []
carried {H} {K} m n x is empty = ap (λ (z : Sat H K). z.1) is ∙ ap (λ (l : List (ℕ × Option (Queue H K))). (0, Some x) ∷ rest l) empty

-- such a move leaves the view
pub same_view : {H K : Type 0} (m n : Sat H K) (l : List (ℕ × Option (Queue H K))) → n ≡ (m.0, l) → n.0 ≡ m.0
same_view {H} {K} m n l is = ap (λ (z : Sat H K). z.0) is

-- a sender that is held is one of the queue
held_below : {H : Type 0} (key : Constants H) (n : ℕ) (senders : List (ℕ × ℕ)) → All (IsBelow key) senders → 0 < total (λ (p : ℕ × ℕ). cond (eqb p.0 n) 1 0) senders → n < key.setting.senders
held_below key n [] all held = absurd (omega arith)
held_below key n (p ∷ ps) all held = dite (ℕ_discrete p.0 n)
    (λ e. subst (λ (m : ℕ). m < key.setting.senders) e (all 0 p (omega arith)))
    (λ apart. let none : cond {A = ℕ} (eqb p.0 n) 1 0 ≡ 0 = ap (λ b. cond {A = ℕ} b 1 0) (ne_eqb p.0 n apart) in held_below key n ps (λ k d l. all (suc k) d (omega arith)) (omega arith))

-- one that is none of the queue's is not held
none_held : {H : Type 0} (key : Constants H) (n : ℕ) (senders : List (ℕ × ℕ)) → All (IsBelow key) senders → (n < key.setting.senders → ⊥) → total (λ (p : ℕ × ℕ). cond (eqb p.0 n) 1 0) senders ≡ 0
none_held key n senders all above = dite (dec_lt 0 (total (λ (p : ℕ × ℕ). cond (eqb p.0 n) 1 0) senders))
    (λ held. absurd (above (held_below key n senders all held)))
    (λ none. omega arith)

-- the senders stay in the view
holds-counted : (n : ℕ) (history : List Entry) (senders : List (ℕ × ℕ)) → total (λ (p : ℕ × ℕ). cond (eqb p.0 n) 1 0) (counted history senders) ≡ total (λ (p : ℕ × ℕ). cond (eqb p.0 n) 1 0) senders
holds-counted n history [] = refl
holds-counted n history (p ∷ ps) = ap (λ (k : ℕ). cond (eqb p.0 n) 1 0 + k) (holds-counted n history ps)

module _ {H K : Type 0} (key : Constants H) where
  abbrev Each : Course K → List (View (Queue H K) H K) → Type 0
  Each whole views = (j : ℕ) (v : View (Queue H K) H K) → get_elem? views j ≡ some v → Fits key whole v

  each_set : (whole : Course K) (views : List (View (Queue H K) H K)) (id : ℕ) (w : View (Queue H K) H K) → Fits key whole w
      → ((j : ℕ) (u : View (Queue H K) H K) → j ≢ id → get_elem? views j ≡ some u → Fits key whole u) → Each whole (set views id w)
  each_set whole views id w mine others j u e = ⊎_elim
      (λ (t : (j ≡ id) × (w ≡ u)). subst (Fits key whole) t.1 mine)
      (λ (t : (j ≢ id) × (get_elem? views j ≡ some u)). others j u t.0 t.1)
      (at_set views id j w u e)

  -- a step of one seat that changes no word, where the view keeps its part of the sums
  unmoved : (s : Board H K) (r : QueueTurn key s) (i id : ℕ) (cs : List (ℕ × Option (Queue H K))) (v w : View (Queue H K) H K) → get_elem? s.views id ≡ some v → turn_of w ≡ turn_of v → w.senders ≡ v.senders → w.rung ≡ v.rung → w.told ≡ v.told
      → Fits key r.course w → QueueTurn key (stepped s i (get_or s.words i 0) id cs w keeps)
  unmoved s r i id cs v w at turns senders rung told mine =
      subst (λ (ws : List ℕ). QueueTurn key (record { words = ws; homes = s.homes; views = set s.views id w })) (sym (set-get_or s.words i 0)) record {
        course = r.course;
        past = r.past;
        wide = r.wide;
        deep = r.deep;
        turns = omega (arith, total-set turn_of s.views id v w at, r.turns, turns);
        once = r.once;
        free = r.free;
        first = λ untold. r.first (untold_before s.views id v w at (λ e. sym told ∙ e) untold);
        each = each_set r.course s.views id w mine (λ j u _ e. r.each j u e);
        placed = λ n below. omega (arith, total-set (holds n) s.views id v w at, r.placed n below, ap (total (λ (p : ℕ × ℕ). cond (eqb p.0 n) 1 0)) senders);
        bell = let same : total (λ (x : View (Queue H K) H K). x.rung) (set s.views id w) ≡ total (λ (x : View (Queue H K) H K). x.rung) s.views = omega (arith, total-set (λ (x : View (Queue H K) H K). x.rung) s.views id v w at, rung) in
            r.bell ∙ ap (λ (n : ℕ). n % 18446744073709551616) (sym same);
      }

  -- the view of a seat that wins the turn
  taken_fits : (course : Course K) (v : View (Queue H K) H K) (x : Queue H K) → Fits key course v → IsPresent key course x → 0 < length v.senders → Fits key course (taking v (whole_of course) course.claims x)
  taken_fits course v x f present some_sender =
      let whole : List Entry = whole_of course in
      record {
        constants = f.constants;
        seen = prefix_self whole;
        told = All-cons (λ t. IsPrefix t whole) v.seen v.told f.seen (All-weaker (λ t. IsPrefix t v.seen) (λ t. IsPrefix t whole) (λ t p. prefix_trans t v.seen whole p f.seen) v.told f.told);
        claims = prefix_self course.claims;
        told_claims = All-weaker (λ t. IsPrefix t v.claims) (λ t. IsPrefix t course.claims) (λ t p. prefix_trans t v.claims course.claims p f.claims) v.told_claims f.told_claims;
        below = f.below;
        mine = All-weaker (Counts whole v.seen) (Counts whole whole) (λ p c. (c.0, c.0)) v.senders f.mine;
        turn = λ _. (refl, some_sender, (x, refl, present), refl);
        quiet = f.quiet;
        sealed = f.sealed;
        unsealed = f.unsealed;
      }

  abbrev Goes : Board H K → ℕ → ℕ → Sat H K → (ℕ → Sat H K → Type 0) → ℕ → Type 0
  Goes s i id m then k = (w : View (Queue H K) H K) × (a : Act (Option (Queue H K))) × Valid s.homes m.1 a × QueueTurn key (stepped s i k id m.1 w a) × then (get_or s.words i 0) (w, carried_after m.1 a)

  -- a seat wins the turn, and takes the state
  takes_it : (s : Board H K) (r : QueueTurn key s) (id : ℕ) (m : Sat H K) → get_elem? s.views id ≡ some m.0 → 0 < length m.0.senders → get_or s.words 0 0 ≡ 0
      → Goes s 0 id m (took (step 1 0 0 1 none) m) 1
  takes_it s r id m at some_sender zero_word =
      let home = r.free zero_word in
      let x : Queue H K = home.0 in
      let v : View (Queue H K) H K = m.0 in
      let whole : List Entry = whole_of r.course in
      let w : View (Queue H K) H K = taking v whole r.course.claims x in
      let f : Fits key r.course v = r.each id v at in
      let nobody : turn_of v ≡ 0 = omega (arith, term_le turn_of s.views id v at, r.turns) in
      let wide = r.wide in
      let now : get_or (set s.words 0 1) 0 0 ≡ 1 = get_or-set_same s.words 0 1 0 (omega arith) in
      let apart : get_or (set s.words 0 1) 1 0 ≡ get_or s.words 1 0 = get_or-set_other s.words 0 1 1 0 (λ e. omega arith) in
      let rings : total (λ (u : View (Queue H K) H K). u.rung) (set s.views id w) ≡ total (λ (u : View (Queue H K) H K). u.rung) s.views = omega (arith, total-set (λ (u : View (Queue H K) H K). u.rung) s.views id v w at) in (
        w,
        takes 0 (Some x),
        home.1,
        record {
          course = r.course;
          past = r.past;
          wide = length-set s.words 0 1 ∙ r.wide;
          deep = length-set s.homes 0 none ∙ r.deep;
          turns = omega (arith, total-set turn_of s.views id v w at, r.turns, now);
          once = omega (arith, now);
          free = λ e. absurd (omega (arith, now, e));
          first = λ untold. absurd (told_one s.views id v w v.seen v.told at refl untold);
          each = each_set r.course s.views id w (taken_fits r.course v x f home.3 some_sender) (λ j u _ e. r.each j u e);
          placed = λ n below. omega (arith, total-set (holds n) s.views id v w at, r.placed n below);
          bell = apart ∙ (r.bell ∙ ap (λ (n : ℕ). n % 18446744073709551616) (sym rings));
        },
        (
          (λ _. (
            x,
            whole,
            r.course.claims,
            refl,
            λ c e. subst (λ (k : Constants H). IsFor k x × Spans k.setting whole x) (sym (f.constants c e)) (
              home.2,
              (entries_of r.course.parts, ap (λ l. entries_of r.course.parts ++ l) (sym home.3.1), record { legal = r.past.legal; numbered = r.past.numbered; left = home.3.0 }),
            ),
            (
              f.seen,
              λ k d l. (subst (λ (t : Setting). (get_or v.senders k d).0 < t.senders) (sym home.2.setting) (f.below k d l), (f.mine k d l).0),
            ),
            (f.claims, home.3.2),
          )),
          λ held. absurd (held zero_word),
        ),
      )

  pub takes_turn : (slots id : ℕ) (m : Sat H K) → 0 < length m.0.senders
      → Allows (QueueTurn key) slots id m 0 (λ n. either (eqb n 0) 1 n) (took (step slots 0 0 1 none) m)
  takes_turn slots id m some_sender s r wide at small =
      exchanged (get_or s.words 0 0) 0 1 (Goes s 0 id m (took (step slots 0 0 1 none) m))
      (λ free. takes_it s r id m at some_sender free)
      (λ held. (m.0, keeps, tt, unmoved s r 0 id m.1 m.0 m.0 at refl refl refl refl (r.each id m.0 at), ((λ free. absurd (held free)), λ _. refl)))

  -- the view of a seat that gives the turn back, with the state x
  given_fits : (course : Course K) (v : View (Queue H K) H K) (x : Queue H K) (parts : List Segment) → seen_with v x ≡ whole_of course → claims_with v.claims x.messages ≡ course.claims → All (λ t. IsPrefix t v.claims) v.told_claims → ((c : Constants H) → v.constants ≡ Some c → c ≡ key) → IsPrefix v.seen (whole_of course) → All (λ t. IsPrefix t v.seen) v.told → All (IsBelow key) v.senders
      → (0 < v.rung → 0 < length v.senders) → (0 < holds (last_of key) v → parts ≡ course.parts) → (holds (last_of key) v ≡ 0 → parts ≡ []) → Fits key course (record (giving v x) { sealed = parts })
  given_fits course v x parts is claims told_claims constants more told below quiet sealed unsealed =
      let now : List Entry = seen_with v x in
      record {
        constants = constants;
        seen = subst (IsPrefix now) is (prefix_self now);
        told = All-cons (λ t. IsPrefix t now) v.seen v.told (subst (IsPrefix v.seen) (sym is) more) (All-weaker (λ t. IsPrefix t v.seen) (λ t. IsPrefix t now) (λ t p. prefix_trans t v.seen now p (subst (IsPrefix v.seen) (sym is) more)) v.told told);
        claims = subst (IsPrefix (claims_with v.claims x.messages)) claims (prefix_self (claims_with v.claims x.messages));
        told_claims = All-weaker (λ t. IsPrefix t v.claims) (λ t. IsPrefix t (claims_with v.claims x.messages)) (λ t p. prefix_trans t v.claims (claims_with v.claims x.messages) p (prefix_front v.claims (claims_at (length v.claims) x.messages))) v.told_claims told_claims;
        below = All-map (IsBelow key) (λ (p : ℕ × ℕ). (p.0, made_in p.0 now)) v.senders below;
        mine = All-map (Counts (whole_of course) now) (λ (p : ℕ × ℕ). (p.0, made_in p.0 now)) v.senders (λ k d l. (ap (made_in (get_or v.senders k d).0) (sym is), refl));
        turn = λ e. absurd (true≢false (sym e));
        quiet = λ rings. subst (λ (n : ℕ). 0 < n) (sym (length-map v.senders (λ (p : ℕ × ℕ). (p.0, made_in p.0 now)))) (quiet rings);
        sealed = λ held. sealed (let same = holds-counted (last_of key) now v.senders in omega (arith, same, held));
        unsealed = λ none. unsealed (let same = holds-counted (last_of key) now v.senders in omega (arith, same, none));
      }

  -- another view stays so where the history grows by no entry of a sender of it
  others_fit : (course next : Course K) (u : View (Queue H K) H K) → Fits key course u → u.has_turn ≡ false → IsPrefix (whole_of course) (whole_of next) → IsPrefix course.claims next.claims → All (λ (p : ℕ × ℕ). made_in p.0 (whole_of next) ≡ made_in p.0 (whole_of course)) u.senders
      → (0 < holds (last_of key) u → next.parts ≡ course.parts) → Fits key next u
  others_fit course next u f no_turn more claims same parts = record {
    constants = f.constants;
    seen = prefix_trans u.seen (whole_of course) (whole_of next) f.seen more;
    told = f.told;
    claims = prefix_trans u.claims course.claims next.claims f.claims claims;
    told_claims = f.told_claims;
    below = f.below;
    mine = λ k d l. let c = f.mine k d l in (same k d l ∙ c.0, c.1);
    turn = λ e. absurd (true≢false (sym e ∙ no_turn));
    quiet = f.quiet;
    sealed = λ held. f.sealed held ∙ sym (parts held);
    unsealed = f.unsealed;
  }

  held_by : (v : View (Queue H K) H K) → turn_of v ≡ 0 → v.has_turn ≡ false
  held_by v none_here = by_cases v.has_turn none_here
    where
      by_cases : (b : Bool) → cond {A = ℕ} b 1 0 ≡ 0 → b ≡ false
      by_cases true e = absurd (omega arith)
      by_cases false e = refl

  -- what a seat may give back goes on from what it found, which is the present state
  goes_on : (course : Course K) (v : View (Queue H K) H K) (y : Queue H K) (f : Fits key course v) (has : v.has_turn ≡ true) (may : MayGive v y)
      → IsPresent key (record { parts = course.parts; since = y.entries; claims = claims_with v.claims y.messages }) y × (seen_with v y ≡ whole_of (with_since course y.entries))
      × ((y.entries ≡ course.since) ⊎ ((e : Entry) × (y.entries ≡ course.since ++ e ∷ []) × (0 < holds e.sender v)))
  goes_on course v y f has may =
      let t = f.turn has in
      let found = t.2 in
      let same : found.0 ≡ may.0 = let both : Some found.0 ≡ Some may.0 = sym found.1 ∙ may.1 in cc (both) in
      let base : y.start ≡ after (empty_base key.setting.senders) (entries_of course.parts) = may.2.0 ∙ (ap (λ (x : Queue H K). x.start) (sym same) ∙ found.2.0) in
      let since : may.0.entries ≡ course.since = ap (λ (x : Queue H K). x.entries) (sym same) ∙ found.2.1 in
      let long : y.start.length ≡ length (entries_of course.parts) = ap (λ (b : Base). b.length) base ∙ empty_length key.setting.senders (entries_of course.parts) in (
        (base, refl, may.3),
        seen_is y.start.length (entries_of course.parts) course.since v.seen y.entries long t.0,
        ⊎_elim
            (λ (e : y.entries ≡ may.0.entries). inl (e ∙ since))
            (λ (g : (e : Entry) × (y.entries ≡ may.0.entries ++ e ∷ []) × (0 < holds e.sender v)). inr (g.0, g.1 ∙ ap (λ l. l ++ g.0 ∷ []) since, g.2))
            may.2.1,
      )

  -- it begins with all that was there
  gives_more : (course : Course K) (v : View (Queue H K) H K) (es : List Entry) → (es ≡ course.since) ⊎ ((e : Entry) × (es ≡ course.since ++ e ∷ []) × (0 < holds e.sender v)) → IsPrefix (whole_of course) (whole_of (with_since course es))
  gives_more course v es may = ⊎_elim
      (λ (e : es ≡ course.since). subst (λ l. IsPrefix (whole_of course) (entries_of course.parts ++ l)) (sym e) (prefix_self (whole_of course)))
      (λ (t : (e : Entry) × (es ≡ course.since ++ e ∷ []) × (0 < holds e.sender v)).
      let is : entries_of course.parts ++ es ≡ whole_of course ++ t.0 ∷ [] = ap (λ l. entries_of course.parts ++ l) t.1 ∙ sym (append_assoc (entries_of course.parts) course.since (t.0 ∷ [])) in
      subst (IsPrefix (whole_of course)) (sym is) (prefix_front (whole_of course) (t.0 ∷ [])))
      may

  -- no other seat's sender gets an entry
  others_stay : (s : Board H K) (r : QueueTurn key s) (id j : ℕ) (v u : View (Queue H K) H K) (es : List Entry) → get_elem? s.views id ≡ some v → get_elem? s.views j ≡ some u → j ≢ id → (es ≡ r.course.since) ⊎ ((e : Entry) × (es ≡ r.course.since ++ e ∷ []) × (0 < holds e.sender v))
      → All (λ (p : ℕ × ℕ). made_in p.0 (whole_of (with_since r.course es)) ≡ made_in p.0 (whole_of r.course)) u.senders
  others_stay s r id j v u es at there apart may = ⊎_elim
      (λ (e : es ≡ r.course.since). λ k d l. ap (λ z. made_in (get_or u.senders k d).0 (entries_of r.course.parts ++ z)) e)
      (λ (t : (e : Entry) × (es ≡ r.course.since ++ e ∷ []) × (0 < holds e.sender v)). λ k d l.
      let n : ℕ = (get_or u.senders k d).0 in
      let e : Entry = t.0 in
      let other : e.sender ≢ n = λ is.
      let mine : 0 < holds e.sender v = t.2 in
      let below : e.sender < key.setting.senders = held_below key e.sender v.senders (r.each id v at).below mine in
      let here : 0 < holds e.sender u = holds_at e.sender u.senders k d l (sym is) in
      omega (arith, terms_le (holds e.sender) s.views id j v u apart at there, r.placed e.sender below) in
      let is : entries_of r.course.parts ++ es ≡ whole_of r.course ++ e ∷ [] = ap (λ z. entries_of r.course.parts ++ z) t.1 ∙ sym (append_assoc (entries_of r.course.parts) r.course.since (e ∷ [])) in
      ap (made_in n) is ∙ (made_in_push n (whole_of r.course) e ∙ (omega (arith, one_of-no n e other))))
      may

  -- a seat gives the turn back with the state x, from which on the history goes as `next`
  gives_back : (s : Board H K) (r : QueueTurn key s) (id : ℕ) (v w : View (Queue H K) H K) (x : Queue H K) (next : Course K) → get_elem? s.views id ≡ some v → v.has_turn ≡ true → turn_of w ≡ 0 → w.told ≡ v.seen ∷ v.told → w.rung ≡ v.rung → ((n : ℕ) → holds n w ≡ holds n v)
      → ArePast key.setting next.parts → IsFor key x → IsPresent key next x → Fits key next w → ((j : ℕ) (u : View (Queue H K) H K) → j ≢ id → get_elem? s.views j ≡ some u → u.has_turn ≡ false → Fits key next u)
      → QueueTurn key (record { words = set s.words 0 0; homes = set s.homes 0 (some (Some x)); views = set s.views id w })
  gives_back s r id v w x next at has rest told rung holding past own present mine others =
      let one : turn_of v ≡ 1 = ap (λ b. cond b 1 0) has in
      let words_wide = r.wide in
      let deep = r.deep in
      let once = r.once in
      let now : get_or (set s.words 0 0) 0 0 ≡ 0 = get_or-set_same s.words 0 0 0 (omega arith) in
      let apart : get_or (set s.words 0 0) 1 0 ≡ get_or s.words 1 0 = get_or-set_other s.words 0 1 0 0 (λ e. omega arith) in
      let rings : total (λ (u : View (Queue H K) H K). u.rung) (set s.views id w) ≡ total (λ (u : View (Queue H K) H K). u.rung) s.views = omega (arith, total-set (λ (u : View (Queue H K) H K). u.rung) s.views id v w at, rung) in
      record {
        course = next;
        past = past;
        wide = length-set s.words 0 0 ∙ r.wide;
        deep = length-set s.homes 0 (some (Some x)) ∙ r.deep;
        turns = omega (arith, total-set turn_of s.views id v w at, r.turns, now, rest);
        once = omega (arith, now);
        free = λ _. (x, set_here s.homes 0 (some (Some x)) (omega arith), own, present);
        first = λ untold. absurd (told_one s.views id v w v.seen v.told at told untold);
        each = each_set next s.views id w mine (λ j u other there. others j u other there (held_by u (omega (arith, terms_le turn_of s.views id j v u other at there, r.turns))));
        placed = λ n below. omega (arith, total-set (holds n) s.views id v w at, r.placed n below, holding n);
        bell = apart ∙ (r.bell ∙ ap (λ (n : ℕ). n % 18446744073709551616) (sym rings));
      }

  pub gives_turn : (slots id : ℕ) (m : Sat H K) (x : Queue H K) → m.1 ≡ (0, Some x) ∷ [] → m.0.has_turn ≡ true → IsFor key x → MayGive m.0 x
      → Allows (QueueTurn key) slots id m 0 (λ _. 0) (λ _. gave (step slots 0 0 0 none) m 0)
  gives_turn slots id m x carries has own may s r wide at small =
      let v : View (Queue H K) H K = m.0 in
      let w : View (Queue H K) H K = giving v x in
      let f : Fits key r.course v = r.each id v at in
      let g = goes_on r.course v x f has may in
      let next : Course K = record { parts = r.course.parts; since = x.entries; claims = claims_with v.claims x.messages } in
      let claims : IsPrefix r.course.claims next.claims = subst (λ l. IsPrefix l next.claims) (f.turn has).3 (prefix_front v.claims (claims_at (length v.claims) x.messages)) in
      let more : IsPrefix (whole_of r.course) (whole_of next) = gives_more r.course v x.entries g.2 in (
        w,
        gives,
        tt,
        subst (λ c. QueueTurn key (record { words = set s.words 0 0; homes = homes_after s.homes c gives; views = set s.views id w })) (sym carries)
            (gives_back s r id v w x next at has refl refl refl (λ n. holds-counted n (seen_with v x) v.senders) r.past own g.0
            (given_fits next v x v.sealed g.1 refl f.told_claims f.constants (subst (λ l. IsPrefix l (whole_of next)) (sym (f.turn has).0) more) f.told f.below f.quiet f.sealed f.unsealed)
            (λ j u other there rests. others_fit r.course next u (r.each j u there) rests more claims (others_stay s r id j v u x.entries at there other g.2) (λ _. refl))),
        λ y carries'. let same : x ≡ y = ap (carried_or x) (sym carries ∙ carries') in (λ i. (giving v (same i), ap rest carries i)),
      )

  -- the seat of the last sender gives the state back sealed
  pub hands_over : (slots id : ℕ) (m : Sat H K) (y : Queue H K) → m.1 ≡ (0, Some y) ∷ [] → m.0.has_turn ≡ true → IsFor key y → 0 < holds (last_of key) m.0 → MayHand m.0 y
      → Allows (QueueTurn key) slots id m 0 (λ _. 0) (λ _. handed (step slots 0 0 0 none) m 0)
  hands_over slots id m y carries has own last may s r wide at small =
      let v : View (Queue H K) H K = m.0 in
      let w : View (Queue H K) H K = handing v y in
      let f : Fits key r.course v = r.each id v at in
      let t = f.turn has in
      let found = t.2 in
      let x : Queue H K = may.0 in
      let same : found.0 ≡ x = let both : Some found.0 ≡ Some x = sym found.1 ∙ may.1 in cc (both) in
      let nothing : Base = empty_base key.setting.senders in
      let before : List Entry = entries_of r.course.parts in
      let base : x.start ≡ after nothing before = ap (λ (z : Queue H K). z.start) (sym same) ∙ found.2.0 in
      let since : x.entries ≡ r.course.since = ap (λ (z : Queue H K). z.entries) (sym same) ∙ found.2.1 in
      let setting : x.setting ≡ key.setting = ap (λ (z : Queue H K). z.setting) (sym may.2) ∙ own.setting in
      let next : Course K = record { parts = r.course.parts ++ part_of x ∷ []; since = []; claims = claims_with v.claims y.messages } in
      let claims : IsPrefix r.course.claims next.claims = subst (λ l. IsPrefix l next.claims) t.3 (prefix_front v.claims (claims_at (length v.claims) y.messages)) in
      let had : AreClaims v.claims x = subst (λ (l : List (Option K)). AreClaims l x) (sym t.3) (subst (λ (z : Queue H K). AreClaims r.course.claims z) same found.2.2) in
      let all : entries_of next.parts ≡ before ++ x.entries = entries_more r.course.parts (part_of x) in
      let whole : whole_of next ≡ whole_of r.course = append-nil (entries_of next.parts) ∙ (all ∙ ap (λ l. before ++ l) since) in
      let seen : seen_with v y ≡ whole_of next = sealed_seen key.setting.senders before r.course.since v.seen x y may.2 base since t.0 ∙ (t.0 ∙ sym whole) in
      let below : last_of key < key.setting.senders = held_below key (last_of key) v.senders f.below last in
      let parts : v.sealed ++ part_in v.found ≡ next.parts = ap (λ (o : Option (Queue H K)). v.sealed ++ part_in o) may.1 ∙ ap (λ l. l ++ part_of x ∷ []) (f.sealed last) in (
        w,
        gives,
        tt,
        subst (λ c. QueueTurn key (record { words = set s.words 0 0; homes = homes_after s.homes c gives; views = set s.views id w })) (sym carries)
            (gives_back s r id v w y next at has refl refl refl (λ n. holds-counted n (seen_with v y) v.senders)
            (record {
              chain = chain_more nothing r.course.parts (part_of x) tt r.past.chain base;
              legal = past_legal key.setting r.course.parts x r.past.legal base setting may.3;
              numbered = past_numbered key.setting r.course.parts x r.past.numbered base setting may.4;
            }) own
            (ap (λ (z : Queue H K). z.start) may.2 ∙ (ap (λ (b : Base). after b x.entries) base ∙ (after-after nothing before x.entries ∙ ap (after nothing) (sym all))), ap (λ (z : Queue H K). z.entries) may.2, keeps_sealed x y may.2 v.claims had)
            (given_fits next v y (v.sealed ++ part_in v.found) seen refl f.told_claims f.constants (subst (IsPrefix v.seen) (sym whole) f.seen) f.told f.below f.quiet (λ _. parts) (λ none. absurd (omega (arith, none, last))))
            (λ j u other there rests. others_fit r.course next u (r.each j u there) rests (subst (IsPrefix (whole_of r.course)) (sym whole) (prefix_self (whole_of r.course))) claims
            (λ k d l. ap (made_in (get_or u.senders k d).0) whole)
            (λ held. absurd (omega (arith, terms_le (holds (last_of key)) s.views id j v u other at there, r.placed (last_of key) below, held, last))))),
        λ z carries'. let same : y ≡ z = ap (carried_or y) (sym carries ∙ carries') in (λ i. (handing v (same i), ap rest carries i)),
      )

  -- another view that has no turn and the same list, and tells of so many turns
  fits_with : (whole : Course K) (v : View (Queue H K) H K) (kept : ℕ) (senders : List (ℕ × ℕ)) → Fits key whole v → (v.has_turn ≡ true → 0 < length senders) → (0 < v.rung → 0 < length senders) → All (IsBelow key) senders → All (Counts (whole_of whole) v.seen) senders
      → (0 < holds (last_of key) (keeping v senders) → 0 < holds (last_of key) v) → (holds (last_of key) (keeping v senders) ≡ 0 → v.sealed ≡ []) → Fits key whole (record (keeping v senders) { turns = kept })
  fits_with whole v kept senders f some_sender quiet below mine held no_part = record {
    constants = f.constants;
    seen = f.seen;
    told = f.told;
    claims = f.claims;
    told_claims = f.told_claims;
    below = below;
    mine = mine;
    turn = λ has. let t = f.turn has in (t.0, some_sender has, t.2, t.3);
    quiet = quiet;
    sealed = λ h. f.sealed (held h);
    unsealed = no_part;
  }

  -- a view with these senders that was told nothing and keeps no parts
  fits_fresh : (whole : Course K) (v : View (Queue H K) H K) (had : ℕ) (senders : List (ℕ × ℕ)) → ((c : Constants H) → v.constants ≡ Some c → c ≡ key) → IsPrefix v.seen (whole_of whole) → IsPrefix v.claims whole.claims → All (IsBelow key) senders → All (Counts (whole_of whole) v.seen) senders
      → (0 < holds (last_of key) (fresh v senders) → [] ≡ whole.parts) → Fits key whole (record (fresh v senders) { turns = had })
  fits_fresh whole v had senders constants seen claims below mine no_part = record {
    constants = constants;
    seen = seen;
    told = All-nil (λ t. IsPrefix t v.seen);
    claims = claims;
    told_claims = All-nil (λ t. IsPrefix t v.claims);
    below = below;
    mine = mine;
    turn = λ e. absurd (true≢false (sym e));
    quiet = λ (rings : 0 < 0). absurd (omega arith);
    sealed = no_part;
    unsealed = λ _. refl;
  }

  -- a new seat comes with some of the sender numbers
  pub splits_off : (id : ℕ) (v : View (Queue H K) H K) (kept had : ℕ) (first second : List (ℕ × ℕ)) → (v.has_turn ≡ true → 0 < length second) → (0 < v.rung → 0 < length v.senders → 0 < length second)
      → ((P : ℕ × ℕ → Type 0) → All P v.senders → All P first × All P second) → ((g : ℕ × ℕ → ℕ) → total g v.senders ≡ total g first + total g second)
      → (holds (last_of key) (keeping v second) ≡ 0 → holds (last_of key) v ≡ 0 ⊎ (v.sealed ≡ [])) → (0 < holds (last_of key) (fresh v first) → v.sealed ≡ [])
      → Splits (QueueTurn key) id v (record (keeping v second) { turns = kept }) (record (fresh v first) { turns = had })
  splits_off id v kept had first second some_sender quiet parts sums none_left none_here s r at =
      let w : View (Queue H K) H K = record (keeping v second) { turns = kept } in
      let u : View (Queue H K) H K = record (fresh v first) { turns = had } in
      let f : Fits key r.course v = r.each id v at in
      let mine = parts (Counts (whole_of r.course) v.seen) f.mine in
      let below = parts (IsBelow key) f.below in
      let last_sum : holds (last_of key) v ≡ holds (last_of key) (fresh v first) + holds (last_of key) w = sums (λ (p : ℕ × ℕ). cond (eqb p.0 (last_of key)) 1 0) in
      let left_none : holds (last_of key) w ≡ 0 → v.sealed ≡ [] = λ none. ⊎_elim (λ (e : holds (last_of key) v ≡ 0). f.unsealed e) (λ (e : v.sealed ≡ []). e) (none_left none) in
      let right_none : 0 < holds (last_of key) (fresh v first) → [] ≡ r.course.parts = λ held. sym (none_here held) ∙ f.sealed (omega (arith, last_sum, held)) in
      let rings : total (λ (x : View (Queue H K) H K). x.rung) (set s.views id w ++ u ∷ []) ≡ total (λ (x : View (Queue H K) H K). x.rung) s.views =
      omega (arith, total-append (λ (x : View (Queue H K) H K). x.rung) (set s.views id w) (u ∷ []), total-set (λ (x : View (Queue H K) H K). x.rung) s.views id v w at) in
      record {
        course = r.course;
        past = r.past;
        wide = r.wide;
        deep = r.deep;
        turns = omega (arith, total-append turn_of (set s.views id w) (u ∷ []), total-set turn_of s.views id v w at, r.turns);
        once = r.once;
        free = r.free;
        first = λ untold. r.first (untold_before s.views id v w at (λ e. e) (untold_front (set s.views id w) (u ∷ []) untold));
        each = λ j x e. ⊎_elim
            (λ (t : get_elem? (set s.views id w) j ≡ some x). each_set r.course s.views id w (fits_with r.course v kept second f some_sender (λ rings. quiet rings (f.quiet rings)) below.1 mine.1 (λ held. omega (arith, last_sum, held)) left_none) (λ i y _ e'. r.each i y e') j x t)
            (λ (t : u ≡ x). subst (Fits key r.course) t (fits_fresh r.course v had first f.constants f.seen f.claims below.0 mine.0 right_none))
            (at_snoc (set s.views id w) u x j e);
        placed = λ n below. omega (arith, total-append (holds n) (set s.views id w) (u ∷ []), total-set (holds n) s.views id v w at, r.placed n below, sums (λ (p : ℕ × ℕ). cond (eqb p.0 n) 1 0));
        bell = r.bell ∙ ap (λ (n : ℕ). n % 18446744073709551616) (sym rings);
      }

  pub deals : (id : ℕ) (v : View (Queue H K) H K) → v.has_turn ≡ false → v.rung ≡ 0 → v.sealed ≡ [] → Splits (QueueTurn key) id v (keeping v (drop 1 v.senders)) (dealt v (take 1 v.senders))
  deals id v no_turn no_rings no_parts = splits_off id v 0 v.turns (take 1 v.senders) (drop 1 v.senders) (λ has. absurd (true≢false (sym has ∙ no_turn))) (λ rings some_sender. absurd (omega (arith, no_rings, rings)))
      (λ P all. (All-take P 1 v.senders all, All-drop P 1 v.senders all)) (λ g. ap (total g) (sym (take-append-drop 1 v.senders)) ∙ total-append g (take 1 v.senders) (drop 1 v.senders)) (λ _. inr no_parts) (λ _. no_parts)

  pub notes : (id : ℕ) (v : View (Queue H K) H K) → v.has_turn ≡ false → Splits (QueueTurn key) id v v (fresh v [])
  notes id v no_turn = splits_off id v v.turns 0 [] v.senders (λ has. absurd (true≢false (sym has ∙ no_turn))) (λ rings some_sender. some_sender) (λ P all. (All-nil P, all)) (λ g. omega arith) (λ none. inl none) (λ (held : 0 < 0). absurd (omega arith))

  -- a seat that takes in another has what both had
  joined_fits : (course : Course K) (v w : View (Queue H K) H K) → v.has_turn ≡ false → Fits key course v → Fits key course w → holds (last_of key) v + holds (last_of key) w ≤ 1 → Fits key course (joined v w)
  joined_fits course v w no_turn f h few =
      let whole : List Entry = whole_of course in
      let last_sum : holds (last_of key) (joined v w) ≡ holds (last_of key) v + holds (last_of key) w = total-append (λ (p : ℕ × ℕ). cond (eqb p.0 (last_of key)) 1 0) v.senders w.senders in
      let both = longer_begins v.seen w.seen whole f.seen h.seen in
      let all : List Entry = longer v.seen w.seen in
      let both_claims = longer_begins v.claims w.claims course.claims f.claims h.claims in
      let claims : List (Option K) = longer v.claims w.claims in
      record {
        constants = f.constants;
        seen = both.2;
        told = All-cons (λ t. IsPrefix t all) v.seen (w.seen ∷ v.told) both.0 (All-cons (λ t. IsPrefix t all) w.seen v.told both.1
            (All-weaker (λ t. IsPrefix t v.seen) (λ t. IsPrefix t all) (λ t p. prefix_trans t v.seen all p both.0) v.told f.told));
        claims = both_claims.2;
        told_claims = All-cons (λ t. IsPrefix t claims) v.claims (w.claims ∷ v.told_claims) both_claims.0 (All-cons (λ t. IsPrefix t claims) w.claims v.told_claims both_claims.1
            (All-weaker (λ t. IsPrefix t v.claims) (λ t. IsPrefix t claims) (λ t p. prefix_trans t v.claims claims p both_claims.0) v.told_claims f.told_claims));
        below = All-append (IsBelow key) v.senders w.senders f.below h.below;
        mine = All-append (Counts whole all) v.senders w.senders
            (All-weaker (Counts whole v.seen) (Counts whole all) (λ p c. (c.0, made_in_between p.0 p.1 v.seen all whole both.0 both.2 c.1 c.0)) v.senders f.mine)
            (All-weaker (Counts whole w.seen) (Counts whole all) (λ p c. (c.0, made_in_between p.0 p.1 w.seen all whole both.1 both.2 c.1 c.0)) w.senders h.mine);
        turn = λ has. absurd (true≢false (sym has ∙ no_turn));
        quiet = λ (rings : 0 < v.rung + w.rung).
            let long : length (v.senders ++ w.senders) ≡ length v.senders + length w.senders = omega (arith, length-append v.senders w.senders) in
            let some_sender : 0 < length (v.senders ++ w.senders) = dite (dec_lt 0 v.rung)
            (λ here. let mine = f.quiet here in omega (arith, long, mine))
            (λ apart. let there = h.quiet (omega (arith, rings, apart)) in omega (arith, long, there)) in
            some_sender;
        sealed = λ held. dite (dec_lt 0 (holds (last_of key) v))
            (λ here. ap (λ l. v.sealed ++ l) (h.unsealed (omega (arith, few, here))) ∙ (append-nil v.sealed ∙ f.sealed here))
            (λ apart. ap (λ l. l ++ w.sealed) (f.unsealed (omega (arith, apart))) ∙ h.sealed (omega (arith, apart, last_sum, held)));
        unsealed = λ none. ap (λ l. l ++ w.sealed) (f.unsealed (omega (arith, last_sum, none))) ∙ h.unsealed (omega (arith, last_sum, none));
      }

  -- so too where it has seen nothing and has no senders
  fits_empty : (whole : Course K) (v : View (Queue H K) H K) → ((c : Constants H) → v.constants ≡ Some c → c ≡ key) → Fits key whole (bare v)
  fits_empty whole v constants = fits_fresh whole (bare v) 0 [] constants (whole_of whole, refl) (whole.claims, refl) (All-nil (IsBelow key)) (All-nil (Counts (whole_of whole) [])) (λ (held : 0 < 0). absurd (omega arith))

  -- two seats hold the last sender at most once
  few_last : (s : Board H K) (r : QueueTurn key s) (id j : ℕ) (v u : View (Queue H K) H K) → j ≢ id → get_elem? s.views id ≡ some v → get_elem? s.views j ≡ some u → holds (last_of key) v + holds (last_of key) u ≤ 1
  few_last s r id j v u apart at there = dite (dec_lt (last_of key) key.setting.senders)
      (λ below. omega (arith, terms_le (holds (last_of key)) s.views id j v u apart at there, r.placed (last_of key) below))
      (λ above.
      let here : holds (last_of key) v ≡ 0 = none_held key (last_of key) v.senders (r.each id v at).below above in
      let else_ : holds (last_of key) u ≡ 0 = none_held key (last_of key) u.senders (r.each j u there).below above in
      omega arith)

  pub joins_in : (id : ℕ) (v : View (Queue H K) H K) (other : ℕ) (w : View (Queue H K) H K) → v.has_turn ≡ false → w.has_turn ≡ false → Joins (QueueTurn key) id v other w (joined v w) gone
  joins_in id v other w no_turn no_turn' s r at apart there =
      let b : View (Queue H K) H K = joined v w in
      let views : List (View (Queue H K) H K) = set s.views id b in
      let f : Fits key r.course v = r.each id v at in
      let there' : get_elem? s.views other ≡ some w = sym (set_else s.views id other b apart) ∙ there in
      let h : Fits key r.course w = r.each other w there' in
      let none_w : turn_of w ≡ 0 = ap (λ b. cond {A = ℕ} b 1 0) no_turn' in
      let few : holds (last_of key) v + holds (last_of key) w ≤ 1 = few_last s r id other v w (λ e. apart e) at there' in
      let rings : total (λ (x : View (Queue H K) H K). x.rung) (set views other gone) ≡ total (λ (x : View (Queue H K) H K). x.rung) s.views =
      omega (arith, total-set (λ (x : View (Queue H K) H K). x.rung) views other w gone there, total-set (λ (x : View (Queue H K) H K). x.rung) s.views id v b at) in
      record {
        course = r.course;
        past = r.past;
        wide = r.wide;
        deep = r.deep;
        turns = omega (arith, total-set turn_of views other w gone there, total-set turn_of s.views id v b at, r.turns, none_w);
        once = r.once;
        free = r.free;
        first = λ untold. absurd (has_first v.seen (w.seen ∷ v.told) (untold id b (set_else views other id gone (λ e. apart (sym e)) ∙ set_at s.views id v b at)));
        each = each_set r.course views other gone (fits_empty r.course gone (λ c e. absurd (cc (e))))
            (λ j u _ e. each_set r.course s.views id b (joined_fits r.course v w no_turn f h few) (λ i y _ e'. r.each i y e') j u e);
        placed = λ n below. omega (
          arith,
          total-set (holds n) views other w gone there,
          total-set (holds n) s.views id v b at,
          r.placed n below,
          total-append (λ (p : ℕ × ℕ). cond (eqb p.0 n) 1 0) v.senders w.senders,
        );
        bell = r.bell ∙ ap (λ (n : ℕ). n % 18446744073709551616) (sym rings);
      }

  pub learns : (slots i id : ℕ) (m : Sat H K) → Allows (QueueTurn key) slots id m i (λ n. n) (learned (step slots i 0 0 none) m)
  learns slots i id m s r wide at small =
      let f : Fits key r.course m.0 = r.each id m.0 at in
      (m.0, keeps, tt, unmoved s r i id m.1 m.0 m.0 at refl refl refl refl f, (refl, f.told, All-weaker (Counts (whole_of r.course) m.0.seen) (λ p. made_in p.0 m.0.seen ≡ p.1) (λ p c. c.1) m.0.senders f.mine, f.told_claims))

  pub listens : (slots id : ℕ) (m : Sat H K) → Allows (QueueTurn key) slots id m 1 (λ n. n) (listened (step slots 1 0 0 none) m)
  listens slots id m s r wide at small =
      let f : Fits key r.course m.0 = r.each id m.0 at in
      let w : View (Queue H K) H K = record m.0 { heard = get_or s.words 1 0; listens = m.0.listens + 1 } in
      (w, keeps, tt, unmoved s r 1 id m.1 m.0 w at refl refl refl refl (record { constants = f.constants; seen = f.seen; told = f.told; claims = f.claims; told_claims = f.told_claims; below = f.below; mine = f.mine; turn = f.turn; quiet = f.quiet; sealed = f.sealed; unsealed = f.unsealed }), (refl, refl))

  pub rings_it : (slots id : ℕ) (m : Sat H K) → 0 < length m.0.senders → Allows (QueueTurn key) slots id m 1 (λ n. (n + 1) % 18446744073709551616) (rang (step slots 1 1 0 none) m)
  rings_it slots id m some_sender s r wide at small =
      let f : Fits key r.course m.0 = r.each id m.0 at in
      let w : View (Queue H K) H K = record m.0 { rung = m.0.rung + 1 } in
      let words_wide = r.wide in
      let old : ℕ = get_or s.words 1 0 in
      let new : ℕ = (old + 1) % 18446744073709551616 in
      let before : ℕ = total (λ (x : View (Queue H K) H K). x.rung) s.views in
      let after : ℕ = total (λ (x : View (Queue H K) H K). x.rung) (set s.views id w) in
      let one_more : after ≡ before + 1 = omega (arith, total-set (λ (x : View (Queue H K) H K). x.rung) s.views id m.0 w at) in
      let here : get_or (set s.words 1 new) 1 0 ≡ new = get_or-set_same s.words 1 new 0 (omega arith) in
      let apart : get_or (set s.words 1 new) 0 0 ≡ get_or s.words 0 0 = get_or-set_other s.words 1 0 new 0 (λ e. omega arith) in
      let is : old ≡ before % 18446744073709551616 = r.bell in (
        w,
        keeps,
        tt,
        record {
          course = r.course;
          past = r.past;
          wide = length-set s.words 1 new ∙ r.wide;
          deep = r.deep;
          turns = omega (arith, total-set turn_of s.views id m.0 w at, r.turns, apart);
          once = let o = r.once in omega (arith, apart);
          free = λ e. r.free (sym apart ∙ e);
          first = λ untold. r.first (untold_before s.views id m.0 w at (λ e. e) untold);
          each = each_set r.course s.views id w (record { constants = f.constants; seen = f.seen; told = f.told; claims = f.claims; told_claims = f.told_claims; below = f.below; mine = f.mine; turn = f.turn; quiet = λ _. some_sender; sealed = f.sealed; unsealed = f.unsealed }) (λ j u _ e. r.each j u e);
          placed = λ n below. omega (arith, total-set (holds n) s.views id m.0 w at, r.placed n below);
          bell = here ∙ omega (arith, is, one_more);
        },
        refl,
      )

  -- the table as it is made
  pub opens : (x : Queue H K) → IsFreshState key x → QueueTurn key (opening (0 ∷ 0 ∷ []) (Some x ∷ []) (opening_view key))
  opens x is = record {
    course = record { parts = []; since = []; claims = [] };
    past = record { chain = tt; legal = IsLegal-none key.setting (empty_base key.setting.senders); numbered = AreNumbered-none key.setting (empty_base key.setting.senders) };
    wide = refl;
    deep = refl;
    turns = refl;
    once = omega arith;
    free = λ _. (x, refl, record { home = is.own.home; setting = is.own.setting }, (is.own.start ∙ sym (after-none (empty_base key.setting.senders) tt), is.entries, no_claims key x is));
    first = λ _. (x, refl, is);
    each = first_only;
    placed = λ n below. let once = (placed_from n 0 key.setting.senders).0 (omega arith) (omega arith) in omega (arith, once);
    bell = refl;
  }
    where
      new_at : (k : ℕ) (d : ℕ × ℕ) → k < length (new_senders 0 key.setting.senders) → (k < key.setting.senders) × (get_or (new_senders 0 key.setting.senders) k d ≡ (k, 0))
      new_at k d l =
          let within : k < key.setting.senders = omega (arith, l, length-map-range_with_len {X = ℕ × ℕ} (λ (n : ℕ). (n, 0)) 0 key.setting.senders) in
          (within, get_or-map-range_with_len {X = ℕ × ℕ} (λ (n : ℕ). (n, 0)) 0 key.setting.senders k k d within (omega arith))

      fits : Fits {H = H} {K = K} key (record { parts = []; since = []; claims = [] }) (opening_view key)
      fits = fits_fresh (record { parts = []; since = []; claims = [] }) (opening_view key) 0 (new_senders 0 key.setting.senders) (λ c e. cc (e)) (prefix_self []) (prefix_self [])
          (λ k d l. subst (IsBelow key) (sym (new_at k d l).1) (new_at k d l).0) (λ k d l. subst (Counts [] []) (sym (new_at k d l).1) (refl, refl)) (λ _. refl)

      first_only : (j : ℕ) (v : View (Queue H K) H K) → get_elem? (opening_view key ∷ []) j ≡ some v → Fits key (record { parts = []; since = []; claims = [] }) v
      first_only zero v e = subst (Fits key (record { parts = []; since = []; claims = [] })) (some-injective (opening_view key) v e) fits
      first_only (suc j) v e = absurd (some-ne-none v (sym e))

      placed_from : (n from count : ℕ) → (from ≤ n → n < from + count → total (λ (p : ℕ × ℕ). cond (eqb p.0 n) 1 0) (new_senders from count) ≡ 1) × (n < from → total (λ (p : ℕ × ℕ). cond (eqb p.0 n) 1 0) (new_senders from count) ≡ 0)
      placed_from n from zero = ((λ a b. absurd (omega arith)), λ _. refl)
      placed_from n from (suc count) =
          let next = placed_from n (from + 1) count in
          dite (ℕ_discrete from n)
          (λ is. let one : cond {A = ℕ} (eqb from n) 1 0 ≡ 1 = ap (λ b. cond {A = ℕ} b 1 0) (eq-eqb from n is) in ((λ a b. omega (arith, next.1 (omega arith))), λ a. absurd (omega arith)))
          (λ apart. let no : cond {A = ℕ} (eqb from n) 1 0 ≡ 0 = ap (λ b. cond {A = ℕ} b 1 0) (ne_eqb from n apart) in ((λ a b. omega (arith, next.0 (omega arith) (omega arith))), λ a. omega (arith, next.1 (omega arith))))

  -- where one seat without the turn has all sender numbers, no seat has the turn
  pub all_rest : (s : Board H K) (r : QueueTurn key s) (id : ℕ) (v : View (Queue H K) H K) → get_elem? s.views id ≡ some v → v.has_turn ≡ false → ((n : ℕ) → n < key.setting.senders → 0 < holds n v) → AtHome key r.course s
  all_rest s r id v at no_turn has_all = r.free (sym r.turns ∙ total-none turn_of s.views none_of)
    where
      rests : (j : ℕ) (u : View (Queue H K) H K) → get_elem? s.views j ≡ some u → j ≢ id → u.has_turn ≡ true → ⊥
      rests j u there apart has =
          let f : Fits key r.course u = r.each j u there in
          let some_sender = (f.turn has).1 in
          let n : ℕ = (get_or u.senders 0 (0, 0)).0 in
          let below : n < key.setting.senders = f.below 0 (0, 0) some_sender in
          let here : 0 < holds n u = holds_at n u.senders 0 (0, 0) some_sender refl in
          omega (arith, terms_le (holds n) s.views id j v u apart at there, r.placed n below, has_all n below)

      by_cases : (j : ℕ) (u : View (Queue H K) H K) → get_elem? s.views j ≡ some u → (b : Bool) → u.has_turn ≡ b → turn_of u ≡ 0
      by_cases j u there false is = ap (λ b. cond {A = ℕ} b 1 0) is
      by_cases j u there true is = dite (ℕ_discrete j id)
          (λ e. let same : u ≡ v = some-injective u v (sym there ∙ (ap (get_elem? s.views) e ∙ at)) in ap (λ (x : View (Queue H K) H K). turn_of x) same ∙ ap (λ b. cond {A = ℕ} b 1 0) no_turn)
          (λ apart. absurd (rests j u there apart is))

      none_of : (j : ℕ) (u : View (Queue H K) H K) → get_elem? s.views j ≡ some u → turn_of u ≡ 0
      none_of j u there = by_cases j u there u.has_turn refl

  -- a new seat
  pub sits : (slots i : ℕ) (m : Sat H K) → m.0 ≡ opening_view key → Enters (QueueTurn key) slots i (λ n w. sat (step slots i 0 0 none) m n (w, []))
  sits slots i m is s r wide small =
      let u : View (Queue H K) H K = bare m.0 in
      let rings : total (λ (x : View (Queue H K) H K). x.rung) (s.views ++ u ∷ []) ≡ total (λ (x : View (Queue H K) H K). x.rung) s.views = omega (arith, total-append (λ (x : View (Queue H K) H K). x.rung) s.views (u ∷ [])) in (
        u,
        record {
          course = r.course;
          past = r.past;
          wide = r.wide;
          deep = r.deep;
          turns = omega (arith, total-append turn_of s.views (u ∷ []), r.turns);
          once = r.once;
          free = r.free;
          first = λ untold. r.first (untold_front s.views (u ∷ []) untold);
          each = λ j x e. ⊎_elim (λ (t : get_elem? s.views j ≡ some x). r.each j x t) (λ (t : u ≡ x). subst (Fits key r.course) t (fits_empty r.course m.0 (λ c e. let key_is = ap (λ (v : View (Queue H K) H K). v.constants) is in cc (e, key_is)))) (at_snoc s.views u x j e);
          placed = λ n below. omega (arith, total-append (holds n) s.views (u ∷ []), r.placed n below);
          bell = r.bell ∙ ap (λ (n : ℕ). n % 18446744073709551616) (sym rings);
        },
        refl,
      )
