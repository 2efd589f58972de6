-- The text of values, and their limits.
use Rattle.std.specs.Prelude.{◌≡◌, ◌≤◌, ◌<◌, ℕ, List, [], ◌∷◌, ◌++◌, map, length, All, if◌then◌else◌}
use Rattle.std.specs.List.{flat_map, join_with_byte}
use Rattle.dash_script.specs.Form.{filled}
use Rattle.animator.specs.declared.keys.Key.{Key}
use Rattle.animator.specs.declared.plan.Plan.{Plan}
use Rattle.animator.specs.Plans.{IsPlan}
use Rattle.value_animator.specs.declared.plan.Thing.{Thing}
use Rattle.value_animator.specs.declared.plan.Thing.TheVariants.{Animator, Countdown}
use Rattle.value_animator.specs.declared.plan.Values.{Values}
use Rattle.value_animator.specs.declared.row.RowKind.TheVariants as kind
use Rattle.value_animator.specs.declared.row.Row.{Row}
use Rattle.value_animator.specs.Reading.{row_form, say_row}

-- the line of a key
abbrev pub key_row : Key → Row
key_row k = say_row kind.Key (k.at ∷ k.value ∷ [])

-- the first line of an animator
abbrev pub plan_row : Plan → Row
plan_row p = say_row (if p.reverse then kind.Reverse else kind.Restart) (p.delay ∷ p.duration ∷ p.repeats ∷ [])

-- the lines of a thing
abbrev pub thing_rows : Thing → List Row
thing_rows (Animator p) = plan_row p ∷ map key_row p.keys
thing_rows (Countdown total interval) = say_row kind.Countdown (total ∷ interval ∷ []) ∷ []

-- the lines of values
abbrev pub rows : Values → List Row
rows v = say_row kind.Head [] ∷ say_row kind.Period (v.period ∷ []) ∷ flat_map thing_rows v.things ++ say_row kind.End [] ∷ []

-- a line: its words with single spaces, and a line feed
unfoldable pub row_text : Row → List ℕ
row_text r = join_with_byte 32 (filled (row_form r.kind) r.numbers) ++ 10 ∷ []

-- the text of values
abbrev pub values_text : Values → List ℕ
values_text v = flat_map row_text (rows v)

-- the thing is within the limits
abbrev pub IsThing : Thing → Type 0
IsThing (Animator p) = IsPlan p
IsThing (Countdown total interval) = (total ≤ 60000) × (0 < interval) × (interval ≤ 60000)

-- all is within the limits
pub record AreValues (v : Values) : Type 0 where
  pub low : 1000000 ≤ v.period
  pub high : v.period ≤ 1000000000
  pub things : All IsThing v.things
  pub few_things : length v.things ≤ 16

-- b is what v is written as, and v is within the limits
abbrev pub IsWritten : List ℕ → Values → Type 0
IsWritten b v = (b ≡ values_text v) × AreValues v
