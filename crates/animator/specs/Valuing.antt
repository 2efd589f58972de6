-- What an animator tells at each frame.
use Rattle.std.specs.Prelude.{ℕ, ◌+◌, ◌-◌, ◌*◌, ◌/◌, ◌%◌, Bool, ◌&&◌, ◌==◌, nat_lt, nat_le, if◌then◌else◌, List, [], ◌∷◌, ◌++◌}
use Rattle.countdown.specs.Moments.{elapsed, has_ended}
use Rattle.animator.specs.declared.keys.Key.{Key}
use Rattle.animator.specs.declared.plan.Plan.{Plan}
use Rattle.animator.specs.declared.values.Valued.{Valued}
use Rattle.animator.specs.declared.values.Valued.TheVariants.{Value, End, Over}

-- the value of the first key
abbrev pub first_value : List Key → ℕ
first_value [] = 0
first_value (k ∷ ks) = k.value

-- the value of the last key
abbrev pub last_value : List Key → ℕ
last_value [] = 0
last_value (k ∷ []) = k.value
last_value (k ∷ l ∷ ks) = last_value (l ∷ ks)

-- when the last way ends, in milliseconds from the first frame
abbrev pub end_of : Plan → ℕ
end_of p = p.delay + p.duration * (p.repeats + 1)

-- the value that stays
abbrev pub end_value : Plan → ℕ
end_value p = if p.reverse && p.repeats % 2 == 1 then first_value p.keys else last_value p.keys

-- how far the animator is on its way after so many milliseconds
abbrev pub position : Plan → ℕ → ℕ
position p e =
    if nat_lt e p.delay then 0
    else (let way = (e - p.delay) / p.duration in
    let on_way = (e - p.delay) % p.duration in
    if p.reverse && way % 2 == 1 then p.duration - on_way else on_way)

-- the position lies from one key on and before the other
abbrev pub is_around : ℕ → ℕ → Key → Key → Bool
is_around duration p from to = nat_le (from.at * duration) (1000 * p) && nat_lt (1000 * p) (to.at * duration)

-- how far two values lie apart
abbrev pub distance : ℕ → ℕ → ℕ
distance m n = if nat_le m n then n - m else m - n

-- a value moved towards another by so much
abbrev pub towards : ℕ → ℕ → ℕ → ℕ
towards m n by = if nat_le m n then m + by else m - by

-- the value of one key, moved towards that of the next by the part of the way between them that is behind, rounded down
abbrev pub value_between : ℕ → ℕ → Key → Key → ℕ
value_between duration p from to =
    towards from.value to.value
    (distance from.value to.value * (1000 * p - from.at * duration) / ((to.at - from.at) * duration))

-- the value between the two keys that follow each other around the position
abbrev pub value_among : ℕ → ℕ → List Key → ℕ
value_among duration p [] = 0
value_among duration p (from ∷ []) = 0
value_among duration p (from ∷ to ∷ ks) =
    if is_around duration p from to then value_between duration p from to else value_among duration p (to ∷ ks)

-- the value at a position
abbrev pub value_at : Plan → ℕ → ℕ
value_at plan p = if p == plan.duration then last_value plan.keys else value_among plan.duration p plan.keys

-- what an animator answers at a time, after the times before
abbrev pub animator_answer : Plan → List ℕ → ℕ → Valued
animator_answer plan before time =
    if has_ended (end_of plan) before then Over
    else (if has_ended (end_of plan) (before ++ time ∷ []) then End (end_value plan)
    else Value (value_at plan (position plan (elapsed (before ++ time ∷ [])))))
