-- The limits of an animator's plan.
use Rattle.std.specs.Prelude.{◌≤◌, ◌<◌, ℕ, ◌+◌, ◌*◌, Bool, false, ◌&&◌, ◌==◌, nat_lt, List, [], ◌∷◌, length, All, IsTrue}
use Rattle.animator.specs.declared.keys.Key.{Key}
use Rattle.animator.specs.declared.plan.Plan.{Plan}

-- a key's place and value are within their limits
pub record IsKey (k : Key) : Type 0 where
  pub place : k.at ≤ 1000
  pub value : k.value ≤ 1000000

-- the keys behind one at this place rise, and the last key is at 1000
abbrev pub rise_from : ℕ → List Key → Bool
rise_from place [] = place == 1000
rise_from place (k ∷ ks) = nat_lt place k.at && rise_from k.at ks

-- the first key is at 0, and the others rise to 1000
abbrev pub rise : List Key → Bool
rise [] = false
rise (k ∷ ks) = k.at == 0 && rise_from k.at ks

-- the plan is within the limits
pub record IsPlan (p : Plan) : Type 0 where
  pub delay : p.delay ≤ 60000
  pub duration : p.duration ≤ 60000
  pub some_duration : 0 < p.duration
  pub repeats : p.repeats ≤ 99
  pub end : p.delay + p.duration * (p.repeats + 1) ≤ 60000
  pub keys : All IsKey p.keys
  pub few_keys : length p.keys ≤ 16
  pub rising : IsTrue (rise p.keys)
