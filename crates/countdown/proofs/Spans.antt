-- Spans with one time more.
use Rattle.std.proofs.Common.{◌≡◌, ℕ, max, List, [], ◌∷◌, ◌++◌, ap, Option, Some, None, arith}
use Rattle.countdown.specs.Moments.{latest}
use Rattle.countdown.specs.Given.{span_of}

-- the greatest with one time more
pub latest-push : (ts : List ℕ) (t : ℕ) → latest (ts ++ t ∷ []) ≡ max (latest ts) t
latest-push [] t = omega arith
latest-push (s ∷ ts) t = let e : latest (ts ++ t ∷ []) ≡ max (latest ts) t = latest-push ts t in rw e (omega arith)

-- the span after a first time
pub span_first : (times : List ℕ) (time : ℕ) (s : Option (ℕ × ℕ)) → s ≡ None → s ≡ span_of times
    → Some (time, time) ≡ span_of (times ++ time ∷ [])
span_first [] time s none is = let e : time ≡ max time 0 = omega arith in ap (λ n. Some (time, n)) e
span_first (t ∷ ts) time s none is = cc

-- the span after a later time
pub span_later : (times : List ℕ) (time first greatest : ℕ) (s : Option (ℕ × ℕ)) → s ≡ Some (first, greatest) → s ≡ span_of times
    → Some (first, max greatest time) ≡ span_of (times ++ time ∷ [])
span_later [] time first greatest s some is = cc
span_later (t ∷ ts) time first greatest s some is =
    let pair : ◌≡◌ {A = ℕ × ℕ} (first, greatest) (t, max t (latest ts)) = cc in
    let one : first ≡ t = ap (λ p. p.0) pair in
    let two : greatest ≡ max t (latest ts) = ap (λ p. p.1) pair in
    let e : latest (ts ++ time ∷ []) ≡ max (latest ts) time = latest-push ts time in
    let more : max greatest time ≡ max t (latest (ts ++ time ∷ [])) = omega arith in
    cc

-- the first and the greatest of the times span alone what all of them do
pub span_of_ends : (times : List ℕ) (first greatest : ℕ) → ◌≡◌ {A = Option (ℕ × ℕ)} (Some (first, greatest)) (span_of times)
    → span_of (first ∷ greatest ∷ []) ≡ span_of times
span_of_ends [] first greatest is = cc
span_of_ends (t ∷ ts) first greatest is =
    let pair : ◌≡◌ {A = ℕ × ℕ} (first, greatest) (t, max t (latest ts)) = cc in
    let one : first ≡ t = ap (λ p. p.0) pair in
    let two : greatest ≡ max t (latest ts) = ap (λ p. p.1) pair in
    let e : max first (max greatest 0) ≡ max t (latest ts) = omega arith in
    cc
