-- Counts of messages, and the place up to which none is asynchronous, after an insertion or a removal.
use Rattle.std.proofs.Common.{◌≡◌, ◌+◌, ◌-◌, ◌^◌, ◌<◌, ◌≤◌, ℕ, zero, suc, Bool, true, false, List, [], ◌∷◌, length, Some, None, refl, sym, ap, ◌∙◌, subst, arith, if◌then◌else◌, cond}
use Rattle.std.specs.Prelude.{Option, insert, filter, nat_lt, not, min, ◌==◌, ◌&&◌, take, slice_index}
use Rattle.std.specs.List.{AllByRecursion, position_or_len, count_by, list_any}
use Rattle.std.specs.Option.{option_map}
use Rattle.std.proofs.lemmas.Bool.Decides.{nat_tests}
use Rattle.std.proofs.lemmas.List.{get_or-set_same, get_or-set_other, length-set}
use Rattle.std.proofs.lemmas.List.Sums.{sum_by-insert, sum_by-cons, count_by-le-length}
use mathlib.Core.Logic.{dite}
use native.Mathlib.Decide.{ℕ_discrete}
use Rattle.loop_model.specs.declared.item.Item.{Item}
use Rattle.loop_model.specs.declared.item.Item.TheVariants.{Post as Message, Barrier as SyncBarrier}
use Rattle.loop_model.specs.declared.post.Kind.TheVariants.{What, Callback, All as AnyKind}
use Rattle.loop_model.specs.declared.post.Kind.{Kind}
use Rattle.loop_model.specs.declared.post.Filter.{Filter}
use Rattle.loop_model.specs.Items.{is_just, matches}
use Rattle.message_slot.specs.Letter.{Letter}
use Rattle.when_queue.specs.Queue.{is_named}
use Rattle.when_queue.specs.Tally.{place_of, what_place, callback_place, with_more, with_fewer, counts_none, rules_out, rules_out_kind, IsCounted, IsTallied}

equal_is : (j k : ℕ) → j ≡ k → (j == k) ≡ true
equal_is j k e = grind (arith, nat_tests)

other_is : (j k : ℕ) → (j ≡ k → ⊥) → (j == k) ≡ false
other_is j k e = grind (arith, nat_tests)

is_equal : (j k : ℕ) → (j == k) ≡ true → j ≡ k
is_equal j k e = grind (arith, nat_tests)

-- ---- what the counts rule out

not_counted : (cs : List ℕ) (k : ℕ) → counts_none cs k ≡ true → (k < length cs) × (slice_index cs k ≡ 0)
not_counted cs k e = (low (nat_lt k (length cs)) (slice_index cs k == 0) e refl, zero_at (nat_lt k (length cs)) (slice_index cs k == 0) e refl)
  where
    less : (u v : ℕ) → nat_lt u v ≡ true → u < v
    less u v e = grind (arith, nat_tests)

    low : (a b : Bool) → (a && b) ≡ true → nat_lt k (length cs) ≡ a → k < length cs
    low true b e is = less k (length cs) is
    low false b e is = absurd (cc)

    zero_at : (a b : Bool) → (a && b) ≡ true → (slice_index cs k == 0) ≡ b → slice_index cs k ≡ 0
    zero_at true true e is = is_equal (slice_index cs k) 0 is
    zero_at true false e is = absurd (cc)
    zero_at false b e is = absurd (cc)

-- a message that a filter names stands at the place of that filter
other_what : (h w : ℕ) (o : Option ℕ) (x : Item) → is_just (what_place x) (place_of h w) ≡ false → matches (record { handler = h; kind = What w; obj = o }) x ≡ false
other_what h w o (SyncBarrier t u) e = refl
other_what h w o (Message n p) e = go (p.handler == h) (p.what == w) refl refl
  where
    go : (a b : Bool) → (p.handler == h) ≡ a → (p.what == w) ≡ b → matches (record { handler = h; kind = What w; obj = o }) (Message n p) ≡ false
    go true true i j =
        let same : place_of p.handler p.what ≡ place_of h w = (λ s. place_of (is_equal p.handler h i s) (is_equal p.what w j s)) in
        let at : (place_of p.handler p.what == place_of h w) ≡ true = equal_is _ _ same in
        absurd (cc)
    go true false i j = rw (i, j) refl
    go false b i j = rw i refl

other_callback : (h c : ℕ) (o : Option ℕ) (x : Item) → is_just (callback_place x) (place_of h c) ≡ false → matches (record { handler = h; kind = Callback c; obj = o }) x ≡ false
other_callback h c o (SyncBarrier t u) e = refl
other_callback h c o (Message n p) e = some p.callback refl
  where
    at : (d : ℕ) (a b : Bool) → (p.handler == h) ≡ a → (d == c) ≡ b → p.callback ≡ Some d → matches (record { handler = h; kind = Callback c; obj = o }) (Message n p) ≡ false
    at d true true i j is =
        let same : place_of p.handler d ≡ place_of h c = (λ s. place_of (is_equal p.handler h i s) (is_equal d c j s)) in
        let met : (place_of p.handler d == place_of h c) ≡ true = equal_is _ _ same in
        let not_met : (place_of p.handler d == place_of h c) ≡ false = ap (λ q. is_just (option_map (place_of p.handler) q) (place_of h c)) (sym is) ∙ e in
        absurd (cc)
    at d true false i j is = rw (i, is, j) refl
    at d false b i j is = rw i refl

    some : (q : Option ℕ) → p.callback ≡ q → matches (record { handler = h; kind = Callback c; obj = o }) (Message n p) ≡ false
    some (Some d) is = at d (p.handler == h) (d == c) refl refl is
    some None is = none (p.handler == h) refl is
      where
        none : (a : Bool) → (p.handler == h) ≡ a → p.callback ≡ None → matches (record { handler = h; kind = Callback c; obj = o }) (Message n p) ≡ false
        none true i is = rw (i, is) refl
        none false i is = rw i refl

module _ {K : Type 0} where
  -- ---- one more, one less

  more_at : (place : Item → Option ℕ) (cs : List ℕ) (xs : List (Letter K)) (i : ℕ) (x : Letter K) (o : Option ℕ) → place x.item ≡ o → length xs + 1 < 2 ^ 64 → IsCounted place cs xs → IsCounted place (with_more o cs) (insert xs i x)
  more_at place cs xs i x None e room h k lt =
      let sum = sum_by-insert (λ m. cond (is_just (place m.item) k) 1 0) xs i x in
      let none : cond {A = ℕ} (is_just (place x.item) k) 1 0 ≡ 0 = ap (λ (o : Option ℕ). cond {A = ℕ} (is_just o k) 1 0) e in
      let low = h k lt in omega arith
  more_at place cs xs i x (Some j) e room h k lt =
      let sum = sum_by-insert (λ m. cond (is_just (place m.item) k) 1 0) xs i x in
      let within : k < length cs = subst (λ n. k < n) (length-set cs j (min (slice_index cs j + 1) (2 ^ 64 - 1))) lt in
      let low = h k within in
      let all = count_by-le-length (λ m. is_just (place m.item) k) xs in
      dite (ℕ_discrete k j)
      (λ same.
      let one : cond {A = ℕ} (is_just (place x.item) k) 1 0 ≡ 1 = ap (λ (o : Option ℕ). cond {A = ℕ} (is_just o k) 1 0) e ∙ ap (λ (b : Bool). cond {A = ℕ} b 1 0) (equal_is j k (sym same)) in
      let now : slice_index (with_more (Some j) cs) k ≡ min (slice_index cs k + 1) (2 ^ 64 - 1) = subst (λ n. slice_index (with_more (Some n) cs) k ≡ min (slice_index cs k + 1) (2 ^ 64 - 1)) same (get_or-set_same cs k (min (slice_index cs k + 1) (2 ^ 64 - 1)) 0 within) in
      omega arith)
      (λ other.
      let none : cond {A = ℕ} (is_just (place x.item) k) 1 0 ≡ 0 = ap (λ (o : Option ℕ). cond {A = ℕ} (is_just o k) 1 0) e ∙ ap (λ (b : Bool). cond {A = ℕ} b 1 0) (other_is j k (λ s. other (sym s))) in
      let now : slice_index (with_more (Some j) cs) k ≡ slice_index cs k = get_or-set_other cs j k (min (slice_index cs j + 1) (2 ^ 64 - 1)) 0 other in
      omega arith)

  fewer_at : (place : Item → Option ℕ) (cs : List ℕ) (xs : List (Letter K)) (i : ℕ) (x : Letter K) (o : Option ℕ) → place x.item ≡ o → IsCounted place cs (insert xs i x) → IsCounted place (with_fewer o cs) xs
  fewer_at place cs xs i x None e h k lt =
      let sum = sum_by-insert (λ m. cond (is_just (place m.item) k) 1 0) xs i x in
      let low = h k lt in omega arith
  fewer_at place cs xs i x (Some j) e h k lt =
      let sum = sum_by-insert (λ m. cond (is_just (place m.item) k) 1 0) xs i x in
      let within : k < length cs = subst (λ n. k < n) (length-set cs j (slice_index cs j - 1)) lt in
      let low = h k within in
      dite (ℕ_discrete k j)
      (λ same.
      let one : cond {A = ℕ} (is_just (place x.item) k) 1 0 ≡ 1 = ap (λ (o : Option ℕ). cond {A = ℕ} (is_just o k) 1 0) e ∙ ap (λ (b : Bool). cond {A = ℕ} b 1 0) (equal_is j k (sym same)) in
      let now : slice_index (with_fewer (Some j) cs) k ≡ slice_index cs k - 1 = subst (λ n. slice_index (with_fewer (Some n) cs) k ≡ slice_index cs k - 1) same (get_or-set_same cs k (slice_index cs k - 1) 0 within) in
      omega arith)
      (λ other.
      let now : slice_index (with_fewer (Some j) cs) k ≡ slice_index cs k = get_or-set_other cs j k (slice_index cs j - 1) 0 other in
      omega arith)

  -- a message that comes is counted
  pub tallied_more : (ws cs vs ds : List ℕ) (xs ys : List (Letter K)) (i : ℕ) (x : Letter K) → length xs + 1 < 2 ^ 64 → vs ≡ with_more (what_place x.item) ws → ds ≡ with_more (callback_place x.item) cs → ys ≡ insert xs i x → IsTallied ws cs xs → IsTallied vs ds ys
  tallied_more ws cs vs ds xs ys i x room w c at h =
      subst (IsTallied vs ds) (sym at) (
        subst (λ l. IsCounted what_place l (insert xs i x)) (sym w) (more_at what_place ws xs i x (what_place x.item) refl room h.0),
        subst (λ l. IsCounted callback_place l (insert xs i x)) (sym c) (more_at callback_place cs xs i x (callback_place x.item) refl room h.1),
      )

  -- one that goes is no longer
  pub tallied_fewer : (ws cs vs ds : List ℕ) (xs ys : List (Letter K)) (i : ℕ) (x : Letter K) → vs ≡ with_fewer (what_place x.item) ws → ds ≡ with_fewer (callback_place x.item) cs → ys ≡ insert xs i x → IsTallied ws cs ys → IsTallied vs ds xs
  tallied_fewer ws cs vs ds xs ys i x w c at h =
      let all : IsTallied ws cs (insert xs i x) = subst (IsTallied ws cs) at h in (
        subst (λ l. IsCounted what_place l xs) (sym w) (fewer_at what_place ws xs i x (what_place x.item) refl all.0),
        subst (λ l. IsCounted callback_place l xs) (sym c) (fewer_at callback_place cs xs i x (callback_place x.item) refl all.1),
      )

  -- those that are left are counted among all
  fewer_pass : (p q : Letter K → Bool) (xs : List (Letter K)) → count_by p (filter q xs) ≤ count_by p xs
  fewer_pass p q [] = omega arith
  fewer_pass p q (x ∷ xs) = go (q x) refl (fewer_pass p q xs)
    where
      go : (b : Bool) → q x ≡ b → count_by p (filter q xs) ≤ count_by p xs → count_by p (filter q (x ∷ xs)) ≤ count_by p (x ∷ xs)
      go true e le = let a = sum_by-cons (λ m. cond (p m) 1 0) x (filter q xs) in let b = sum_by-cons (λ m. cond (p m) 1 0) x xs in rw e (omega arith)
      go false e le = let b = sum_by-cons (λ m. cond (p m) 1 0) x xs in rw e (omega arith)

  pub tallied_left : (q : Letter K → Bool) (ws cs : List ℕ) (xs : List (Letter K)) → IsTallied ws cs xs → IsTallied ws cs (filter q xs)
  tallied_left q ws cs xs h = (
    λ k lt. let le = fewer_pass (λ m. is_just (what_place m.item) k) q xs in let low = h.0 k lt in omega arith,
    λ k lt. let le = fewer_pass (λ m. is_just (callback_place m.item) k) q xs in let low = h.1 k lt in omega arith,
  )

  -- nothing stands there, whatever is counted
  pub tallied_none : (ws cs : List ℕ) (xs : List (Letter K)) → xs ≡ [] → IsTallied ws cs xs
  tallied_none ws cs xs e = (
    λ k lt. let none = ap (λ (l : List (Letter K)). count_by (λ m. is_just (what_place m.item) k) l) e in omega arith,
    λ k lt. let none = ap (λ (l : List (Letter K)). count_by (λ m. is_just (callback_place m.item) k) l) e in omega arith,
  )

  -- where nothing is counted, any list is
  pub tallied_without : (ws cs : List ℕ) (xs : List (Letter K)) → ws ≡ [] → cs ≡ [] → IsTallied ws cs xs
  tallied_without ws cs xs w c = (λ k lt. let n = ap length w in absurd (omega arith), λ k lt. let n = ap length c in absurd (omega arith))

  -- ---- what the counts rule out

  none_at : (place : Item → Option ℕ) (k : ℕ) (xs : List (Letter K)) → count_by (λ m. is_just (place m.item) k) xs ≤ 0 → AllByRecursion (λ m. is_just (place m.item) k ≡ false) xs
  none_at place k [] le = tt
  none_at place k (x ∷ xs) le = go (is_just (place x.item) k) refl (λ l. none_at place k xs l)
    where
      go : (b : Bool) → is_just (place x.item) k ≡ b → (count_by (λ m. is_just (place m.item) k) xs ≤ 0 → AllByRecursion (λ m. is_just (place m.item) k ≡ false) xs) → AllByRecursion (λ m. is_just (place m.item) k ≡ false) (x ∷ xs)
      go true e rest =
          let sum = sum_by-cons (λ m. cond (is_just (place m.item) k) 1 0) x xs in
          let one : cond {A = ℕ} (is_just (place x.item) k) 1 0 ≡ 1 = ap (λ (b : Bool). cond {A = ℕ} b 1 0) e in
          absurd (omega arith)
      go false e rest =
          let sum = sum_by-cons (λ m. cond (is_just (place m.item) k) 1 0) x xs in
          (e, rest (omega arith))

  all_other : (P Q : Letter K → Type 0) → ((m : Letter K) → P m → Q m) → (xs : List (Letter K)) → AllByRecursion P xs → AllByRecursion Q xs
  all_other P Q step [] h = tt
  all_other P Q step (x ∷ xs) h = (step x h.0, all_other P Q step xs h.1)

  -- none passes a test that shows its place, where none is counted there
  none_passes : (place : Item → Option ℕ) (ns : List ℕ) (k : ℕ) (p : Letter K → Bool) (xs : List (Letter K)) → counts_none ns k ≡ true → IsCounted place ns xs
      → ((m : Letter K) → is_just (place m.item) k ≡ false → p m ≡ false) → AllByRecursion (λ m. p m ≡ false) xs
  none_passes place ns k p xs e h shows =
      let at = not_counted ns k e in
      let low = h k at.0 in let none = at.1 in
      all_other (λ m. is_just (place m.item) k ≡ false) (λ m. p m ≡ false) shows xs (none_at place k xs (omega arith))

  pub none_any : (p : Letter K → Bool) (xs : List (Letter K)) → AllByRecursion (λ m. p m ≡ false) xs → list_any p xs ≡ false
  none_any p [] h = refl
  none_any p (x ∷ xs) h = rw h.0 (none_any p xs h.1)

  pub none_named : (ws cs : List ℕ) (f : Filter) (xs : List (Letter K)) → rules_out ws cs f ≡ true → IsTallied ws cs xs → AllByRecursion (λ m. is_named f m ≡ false) xs
  none_named ws cs f xs e h = go f.kind refl
    where
      go : (kind : Kind) → f.kind ≡ kind → AllByRecursion (λ m. is_named f m ≡ false) xs
      go (What w) is =
          none_passes what_place ws (place_of f.handler w) (is_named f) xs (ap (rules_out_kind ws cs f.handler) (sym is) ∙ e) h.0
          (λ m other. ap (λ q. matches (record { handler = f.handler; kind = q; obj = f.obj }) m.item) is ∙ other_what f.handler w f.obj m.item other)
      go (Callback c) is =
          none_passes callback_place cs (place_of f.handler c) (is_named f) xs (ap (rules_out_kind ws cs f.handler) (sym is) ∙ e) h.1
          (λ m other. ap (λ q. matches (record { handler = f.handler; kind = q; obj = f.obj }) m.item) is ∙ other_callback f.handler c f.obj m.item other)
      go AnyKind is = let never : false ≡ true = ap (rules_out_kind ws cs f.handler) (sym is) ∙ e in absurd (cc)

-- ---- the place up to which none passes

module _ {X : Type 0} where
  -- what comes behind it, or stands at it
  pub before_put : (p : X → Bool) (xs : List X) (i s : ℕ) (x : X) → s ≤ position_or_len p xs → s ≤ i → s ≤ position_or_len p (insert xs i x)
  before_put p xs i zero x h le = omega arith
  before_put p [] i (suc s) x h le = absurd (omega arith)
  before_put p (y ∷ xs) zero (suc s) x h le = absurd (omega arith)
  before_put p (y ∷ xs) (suc i) (suc s) x h le = go (p y) refl h (λ l. before_put p xs i s x l (omega arith))
    where
      go : (b : Bool) → p y ≡ b → suc s ≤ position_or_len p (y ∷ xs) → (s ≤ position_or_len p xs → s ≤ position_or_len p (insert xs i x)) → suc s ≤ position_or_len p (y ∷ insert xs i x)
      go true e h rest = absurd (let bad : suc s ≤ 0 = rw e at h in omega arith)
      go false e h rest = let more : suc s ≤ 1 + position_or_len p xs = rw e at h in let is = rest (omega arith) in rw e (omega arith)

  -- what comes before it and does not pass
  pub among_put : (p : X → Bool) (xs : List X) (i s : ℕ) (x : X) → s ≤ position_or_len p xs → i ≤ s → p x ≡ false → s + 1 ≤ position_or_len p (insert xs i x)
  among_put p xs zero s x h le e = rw e (omega arith)
  among_put p [] (suc i) zero x h le e = absurd (omega arith)
  among_put p [] (suc i) (suc s) x h le e = absurd (omega arith)
  among_put p (y ∷ xs) (suc i) zero x h le e = absurd (omega arith)
  among_put p (y ∷ xs) (suc i) (suc s) x h le e = go (p y) refl h (λ l. among_put p xs i s x l (omega arith) e)
    where
      go : (b : Bool) → p y ≡ b → suc s ≤ position_or_len p (y ∷ xs) → (s ≤ position_or_len p xs → s + 1 ≤ position_or_len p (insert xs i x)) → suc s + 1 ≤ position_or_len p (y ∷ insert xs i x)
      go true e h rest = absurd (let bad : suc s ≤ 0 = rw e at h in omega arith)
      go false e h rest = let more : suc s ≤ 1 + position_or_len p xs = rw e at h in let is = rest (omega arith) in rw e (omega arith)

  pub skip_put : (p : X → Bool) (xs ys : List X) (i s t : ℕ) (x : X) (b : Bool) → p x ≡ b → t ≡ (if b then min s i else s) → ys ≡ insert xs i x → s ≤ position_or_len p xs → t ≤ position_or_len p ys
  skip_put p xs ys i s t x true e is at h =
      subst (λ l. t ≤ position_or_len p l) (sym at) (before_put p xs i t x (omega arith) (omega arith))
  skip_put p xs ys i s t x false e is at h = subst (λ l. t ≤ position_or_len p l) (sym at) (subst (λ n. n ≤ position_or_len p (insert xs i x)) (sym is) (go (nat_lt s i) refl))
    where
      below : (u v : ℕ) → nat_lt u v ≡ true → u < v
      below u v e = grind (arith, nat_tests)

      above : (u v : ℕ) → nat_lt u v ≡ false → v ≤ u
      above u v e = grind (arith, nat_tests)

      go : (c : Bool) → nat_lt s i ≡ c → s ≤ position_or_len p (insert xs i x)
      go true c = let lt = below s i c in before_put p xs i s x h (omega arith)
      go false c = let more = among_put p xs i s x h (above s i c) e in omega arith

  -- one that goes
  fewer_before : (p : X → Bool) (xs : List X) (i s : ℕ) (x : X) → s ≤ position_or_len p (insert xs i x) → s - 1 ≤ position_or_len p xs
  fewer_before p xs zero s x h = go (p x) refl h
    where
      go : (b : Bool) → p x ≡ b → s ≤ position_or_len p (x ∷ xs) → s - 1 ≤ position_or_len p xs
      go true e h = let none : s ≤ 0 = rw e at h in omega arith
      go false e h = let more : s ≤ 1 + position_or_len p xs = rw e at h in omega arith
  fewer_before p [] (suc i) s x h = go (p x) refl h
    where
      go : (b : Bool) → p x ≡ b → s ≤ position_or_len p (x ∷ []) → s - 1 ≤ 0
      go true e h = let none : s ≤ 0 = rw e at h in omega arith
      go false e h = let more : s ≤ 1 + 0 = rw e at h in omega arith
  fewer_before p (y ∷ xs) (suc i) zero x h = omega arith
  fewer_before p (y ∷ xs) (suc i) (suc s) x h = go (p y) refl h (λ l. fewer_before p xs i s x l)
    where
      go : (b : Bool) → p y ≡ b → suc s ≤ position_or_len p (y ∷ insert xs i x) → (s ≤ position_or_len p (insert xs i x) → s - 1 ≤ position_or_len p xs) → suc s - 1 ≤ position_or_len p (y ∷ xs)
      go true e h rest = absurd (let bad : suc s ≤ 0 = rw e at h in omega arith)
      go false e h rest = let more : suc s ≤ 1 + position_or_len p (insert xs i x) = rw e at h in let is = rest (omega arith) in rw e (omega arith)

  behind_gone : (p : X → Bool) (xs : List X) (i s : ℕ) (x : X) → s ≤ position_or_len p (insert xs i x) → s ≤ i → i ≤ length xs → s ≤ position_or_len p xs
  behind_gone p xs i zero x h le most = omega arith
  behind_gone p xs zero (suc s) x h le most = absurd (omega arith)
  behind_gone p [] (suc i) (suc s) x h le most = absurd (omega arith)
  behind_gone p (y ∷ xs) (suc i) (suc s) x h le most = go (p y) refl h (λ l. behind_gone p xs i s x l (omega arith) (omega arith))
    where
      go : (b : Bool) → p y ≡ b → suc s ≤ position_or_len p (y ∷ insert xs i x) → (s ≤ position_or_len p (insert xs i x) → s ≤ position_or_len p xs) → suc s ≤ position_or_len p (y ∷ xs)
      go true e h rest = absurd (let bad : suc s ≤ 0 = rw e at h in omega arith)
      go false e h rest = let more : suc s ≤ 1 + position_or_len p (insert xs i x) = rw e at h in let is = rest (omega arith) in rw e (omega arith)

  pub skip_gone : (p : X → Bool) (old new : List X) (i s t : ℕ) (x : X) → t ≡ (if nat_lt i s then s - 1 else s) → old ≡ insert new i x → i ≤ length new → s ≤ position_or_len p old → t ≤ position_or_len p new
  skip_gone p old new i s t x is at most h = go (nat_lt i s) refl is (subst (λ l. s ≤ position_or_len p l) at h)
    where
      above : (u v : ℕ) → nat_lt u v ≡ false → v ≤ u
      above u v e = grind (arith, nat_tests)

      go : (b : Bool) → nat_lt i s ≡ b → t ≡ (if nat_lt i s then s - 1 else s) → s ≤ position_or_len p (insert new i x) → t ≤ position_or_len p new
      go true e is h = let same : t ≡ s - 1 = rw e at is in subst (λ n. n ≤ position_or_len p new) (sym same) (fewer_before p new i s x h)
      go false e is h = let same : t ≡ s = rw e at is in subst (λ n. n ≤ position_or_len p new) (sym same) (behind_gone p new i s x h (above i s e) most)

  -- several that go
  pub skip_left : (p q : X → Bool) (xs : List X) (s : ℕ) → s ≤ position_or_len p xs → s - length (filter q xs) ≤ position_or_len p (filter (λ x. not (q x)) xs)
  skip_left p q [] s h = omega arith
  skip_left p q (x ∷ xs) zero h = omega arith
  skip_left p q (x ∷ xs) (suc s) h = go (p x) (q x) refl refl h (λ l. skip_left p q xs s l)
    where
      go : (a b : Bool) → p x ≡ a → q x ≡ b → suc s ≤ position_or_len p (x ∷ xs) → (s ≤ position_or_len p xs → s - length (filter q xs) ≤ position_or_len p (filter (λ x. not (q x)) xs)) → suc s - length (filter q (x ∷ xs)) ≤ position_or_len p (filter (λ x. not (q x)) (x ∷ xs))
      go true b e f h rest = absurd (let bad : suc s ≤ 0 = rw e at h in omega arith)
      go false true e f h rest = let more : suc s ≤ 1 + position_or_len p xs = rw e at h in let is = rest (omega arith) in rw f (omega arith)
      go false false e f h rest = let more : suc s ≤ 1 + position_or_len p xs = rw e at h in let is = rest (omega arith) in rw (f, e) (omega arith)

  -- the list is cut
  pub skip_cut : (p : X → Bool) (xs : List X) (n s : ℕ) → s ≤ position_or_len p xs → min s n ≤ position_or_len p (take n xs)
  skip_cut p xs zero s h = omega arith
  skip_cut p [] (suc n) s h = omega arith
  skip_cut p (x ∷ xs) (suc n) zero h = omega arith
  skip_cut p (x ∷ xs) (suc n) (suc s) h = go (p x) refl h (λ l. skip_cut p xs n s l)
    where
      go : (b : Bool) → p x ≡ b → suc s ≤ position_or_len p (x ∷ xs) → (s ≤ position_or_len p xs → min s n ≤ position_or_len p (take n xs)) → min (suc s) (suc n) ≤ position_or_len p (x ∷ take n xs)
      go true e h rest = absurd (let bad : suc s ≤ 0 = rw e at h in omega arith)
      go false e h rest = let more : suc s ≤ 1 + position_or_len p xs = rw e at h in let is = rest (omega arith) in rw e (omega arith)
