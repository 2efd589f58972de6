-- Which safe quit of a rising list is the first of the history before a moment.
use Rattle.std.proofs.Common.{◌≡◌, ◌<◌, ◌≤◌, ◌-◌, ℕ, zero, suc, Bool, true, false, cond, nat_lt, List, [], ◌∷◌, ◌++◌, length, slice_index_or, refl, sym, ap, ◌∙◌, arith, take}
use Rattle.std.proofs.lemmas.List.Sums.{fold-append}
use Rattle.std.proofs.lemmas.Bool.Decides.{nat_tests}
use Rattle.fate_ledger.specs.declared.quits.SafeQuit.{SafeQuit}
use Rattle.fate_ledger.specs.Quits.{IsBoundAt, first_quit}

-- from index n on no quit was made before the moment
abbrev NoneFrom : ℕ → ℕ → List SafeQuit → Type 0
NoneFrom w n qs = (k : ℕ) (e : SafeQuit) → n ≤ k → k < length qs → nat_lt (slice_index_or qs k e).now w ≡ false

none_rest : (w n : ℕ) (q : SafeQuit) (qs : List SafeQuit) → NoneFrom w (suc n) (q ∷ qs) → NoneFrom w n qs
none_rest w n q qs h = λ k e low high. h (suc k) e (omega (arith, low)) (omega (arith, high))

none_there : (w d : ℕ) (qs : List SafeQuit) → NoneFrom w 0 qs → first_quit w d qs ≡ d
none_there w d [] h = refl
none_there w d (q ∷ qs) h =
    let miss : nat_lt q.now w ≡ false = h 0 q (omega arith) (omega arith) in
    rw miss (none_there w d qs (λ k e low high. h (suc k) e (omega arith) (omega (arith, high))))

-- where the quit at an index was made before the moment, and none behind it
pub quit_at : (w d : ℕ) (qs : List SafeQuit) (i : ℕ) (e : SafeQuit) → i < length qs → nat_lt (slice_index_or qs i e).now w ≡ true → NoneFrom w (suc i) qs → first_quit w d qs ≡ (slice_index_or qs i e).place
quit_at w d [] i e lt hit h = absurd (omega (arith, lt))
quit_at w d (q ∷ qs) zero e lt hit h = rw hit (none_there w q.place qs (none_rest w 0 q qs h))
quit_at w d (q ∷ qs) (suc i) e lt hit h = quit_at w (cond (nat_lt q.now w) q.place d) qs i e (omega (arith, lt)) hit (none_rest w (suc i) q qs h)

-- those from an index on, none of which was made before the moment, can be left out
pub quits_cut : (w d n : ℕ) (qs : List SafeQuit) → NoneFrom w n qs → first_quit w d (take n qs) ≡ first_quit w d qs
quits_cut w d zero qs h = sym (none_there w d qs h)
quits_cut w d (suc n) [] h = refl
quits_cut w d (suc n) (q ∷ qs) h = quits_cut w (cond (nat_lt q.now w) q.place d) n qs (none_rest w n q qs h)

-- the quit by how many were made before the moment
pub quit_counted : (w d n : ℕ) (qs : List SafeQuit) (e : SafeQuit) → IsBoundAt w qs n → (n ≡ 0 → ⊥) → e ≡ slice_index_or qs (n - 1) e → e.place ≡ first_quit w d qs
quit_counted w d zero qs e bound some is = absurd (some refl)
quit_counted w d (suc i) qs e bound some is =
    let one : suc i - 1 ≡ i = omega arith in
    let at : e ≡ slice_index_or qs i e = is ∙ ap (λ j. slice_index_or qs j e) one in
    let lt : i < length qs = omega (arith, bound.0) in
    ap (λ (q : SafeQuit). q.place) at ∙ sym (quit_at w d qs i e lt (bound.1.0 i e (omega arith) (omega arith)) (λ k g low high. bound.1.1 k g low high))

pub quit_uncounted : (w d n : ℕ) (qs : List SafeQuit) → IsBoundAt w qs n → n ≡ 0 → d ≡ first_quit w d qs
quit_uncounted w d n qs bound none = sym (none_there w d qs (λ k g low high. bound.1.1 k g (omega (arith, none, low)) high))

-- a new quit in front of all, where those that were made no earlier are let go
pub quit_added : (w d n : ℕ) (q : SafeQuit) (qs : List SafeQuit) → IsBoundAt q.now qs n → first_quit w d (take n qs ++ q ∷ []) ≡ cond (nat_lt q.now w) q.place (first_quit w d qs)
quit_added w d n q qs bound = fold-append (λ place x. cond (nat_lt x.now w) x.place place) d (take n qs) (q ∷ []) ∙ go (nat_lt q.now w) refl
  where
    later : nat_lt q.now w ≡ false → (m : ℕ) → nat_lt m q.now ≡ false → nat_lt m w ≡ false
    later h m g = grind (arith, nat_tests)

    go : (t : Bool) → nat_lt q.now w ≡ t → cond t q.place (first_quit w d (take n qs)) ≡ cond t q.place (first_quit w d qs)
    go true h = refl
    go false h = quits_cut w d n qs (λ k e low high. later h (slice_index_or qs k e).now (bound.1.1 k e low high))
