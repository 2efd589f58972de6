-- What ends over frames ends once.
use Rattle.std.proofs.Common.{◌≡◌, ℕ, ◌-◌, ◌/◌, ◌≤◌, max, List, [], ◌∷◌, ◌++◌, refl, arith, true, false, Bool, nat_le, cond, append_assoc}
use Rattle.std.proofs.lemmas.List.{append-nil}
use Rattle.std.proofs.lemmas.Bool.{cond_both}
use Rattle.std.proofs.lemmas.Bool.Decides.{nat_tests}
use Rattle.countdown.specs.Moments.{latest, elapsed, has_ended}
use Rattle.countdown.specs.declared.timer.Ticked.TheVariants.{Tick, Quiet, Finished, Over}
use Rattle.countdown.specs.Ticking.{countdown_answer, ticks}
use Rattle.countdown.specs.Laws.{EndsAreToldOnce, HasFinished}

-- ---- the time at which something ends

-- the greatest of more times is no less
latest-front : (xs ys : List ℕ) → latest xs ≤ latest (xs ++ ys)
latest-front [] ys = omega arith
latest-front (x ∷ xs) ys = let le : latest xs ≤ latest (xs ++ ys) = latest-front xs ys in omega arith

-- what has ended has ended after more times
pub has_ended-front : (total : ℕ) (xs ys : List ℕ) → has_ended total xs ≡ true → has_ended total (xs ++ ys) ≡ true
has_ended-front total [] ys h = cc
has_ended-front total (x ∷ xs) ys h =
    let le : latest xs ≤ latest (xs ++ ys) = latest-front xs ys in
    let before : max x (latest xs) - x ≤ max x (latest (xs ++ ys)) - x = omega arith in
    let more : (max x (latest xs) - x) / 1000000 ≤ (max x (latest (xs ++ ys)) - x) / 1000000 = omega arith in
    longer total ((max x (latest xs) - x) / 1000000) ((max x (latest (xs ++ ys)) - x) / 1000000) more h
  where
    longer : (total m n : ℕ) → m ≤ n → nat_le total m ≡ true → nat_le total n ≡ true
    longer total m n le h = grind (arith, nat_tests)

-- one of the times is the first by which all has elapsed
pub record EndsAt (total : ℕ) (times : List ℕ) : Type 0 where
  pub before : List ℕ
  pub time : ℕ
  pub after : List ℕ
  pub are : times ≡ before ++ time ∷ after
  pub not_before : has_ended total before ≡ false
  pub ended : has_ended total (before ++ time ∷ []) ≡ true

found : (total : ℕ) (before rest : List ℕ) → has_ended total before ≡ false → has_ended total (before ++ rest) ≡ true → EndsAt total (before ++ rest)
found total before [] none ended =
    let e : has_ended total before ≡ true = rw append-nil at ended in
    cc
found total before (t ∷ rest) none ended =
    cond_both (has_ended total (before ++ t ∷ [])) true false (λ b. EndsAt total (before ++ t ∷ rest))
    (λ now. record { before = before; time = t; after = rest; are = refl; not_before = none; ended = now })
    (λ not_yet.
    let joined : (before ++ t ∷ []) ++ rest ≡ before ++ t ∷ rest = append_assoc before (t ∷ []) rest in
    let later : has_ended total ((before ++ t ∷ []) ++ rest) ≡ true = rw joined ended in
    let it : EndsAt total ((before ++ t ∷ []) ++ rest) = found total (before ++ t ∷ []) rest not_yet later in
    rw joined at it)

-- what has ended by these times ended at one of them
pub ends_at : (total : ℕ) (times : List ℕ) → has_ended total times ≡ true → EndsAt total times
ends_at total times h = found total [] times refl h

-- what has ended at one of the times has ended by all of them
pub ended_among : (total : ℕ) (times before : List ℕ) (time : ℕ) (after : List ℕ) → times ≡ before ++ time ∷ after → has_ended total (before ++ time ∷ []) ≡ true → has_ended total times ≡ true
ended_among total times before time after are now =
    let more : has_ended total ((before ++ time ∷ []) ++ after) ≡ true = has_ended-front total (before ++ time ∷ []) after now in
    let joined : (before ++ time ∷ []) ++ after ≡ before ++ time ∷ after = append_assoc before (time ∷ []) after in
    let whole : has_ended total (before ++ time ∷ after) ≡ true = rw joined at more in
    rw are whole

-- ---- what a countdown tells of it

-- it is over exactly where it has ended before
over_is : (total interval : ℕ) (times : List ℕ) (time : ℕ) → countdown_answer total interval times time ≡ Over → has_ended total times ≡ true
over_is total interval times time = go (has_ended total times) (has_ended total (times ++ time ∷ [])) (ticks interval times (elapsed (times ++ time ∷ [])))
  where
    go : (a b c : Bool) → cond a Over (cond b Finished (cond c (Tick (total - elapsed (times ++ time ∷ []))) Quiet)) ≡ Over → a ≡ true
    go true b c e = refl
    go false true c e = cc
    go false false true e = cc
    go false false false e = cc

is_over : (total interval : ℕ) (times : List ℕ) (time : ℕ) → has_ended total times ≡ true → countdown_answer total interval times time ≡ Over
is_over total interval times time h = rw h refl

-- where it finishes it has ended
finished_is : (total interval : ℕ) (times : List ℕ) (time : ℕ) → countdown_answer total interval times time ≡ Finished
    → has_ended total (times ++ time ∷ []) ≡ true
finished_is total interval times time = go (has_ended total times) (has_ended total (times ++ time ∷ [])) (ticks interval times (elapsed (times ++ time ∷ [])))
  where
    go : (a b c : Bool) → cond a Over (cond b Finished (cond c (Tick (total - elapsed (times ++ time ∷ []))) Quiet)) ≡ Finished → b ≡ true
    go true b c e = cc
    go false true c e = refl
    go false false true e = cc
    go false false false e = cc

-- it finishes where it has ended and had not before
finishes : (total interval : ℕ) (times : List ℕ) (time : ℕ) → has_ended total times ≡ false → has_ended total (times ++ time ∷ []) ≡ true
    → countdown_answer total interval times time ≡ Finished
finishes total interval times time none now = rw (none, now) refl

-- where it has ended it has finished
has_finished : (total interval : ℕ) (times : List ℕ) → has_ended total times ≡ true → HasFinished total interval times
has_finished total interval times h =
    let e = ends_at total times h in
    record { before = e.before; time = e.time; after = e.after; are = e.are; finished = finishes total interval e.before e.time e.not_before e.ended }

pub ends_are_told_once : EndsAreToldOnce
ends_are_told_once total interval times time = (
  (λ over. has_finished total interval times (over_is total interval times time over)),
  (λ h. is_over total interval times time (ended_among total times h.before h.time h.after h.are (finished_is total interval h.before h.time h.finished))),
)
