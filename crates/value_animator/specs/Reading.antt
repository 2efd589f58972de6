-- The language of plans of values: the lines, what the lines so far hold, why a line may not come next, and which values a text spells.
use Rattle.std.specs.Prelude.{ℕ, Bool, true, false, ◌&&◌, ◌||◌, not, ◌==◌, nat_lt, nat_le, List, [], ◌∷◌, ◌++◌, length, slice_index, Option}
use Rattle.std.specs.Prelude.{Some, None, if◌then◌else◌}
use Rattle.dash_script.specs.declared.form.Role.{Role}
use Rattle.dash_script.specs.declared.form.Role.TheVariants.{Within}
use Rattle.dash_script.specs.declared.refusal.Cause.{Cause}
use Rattle.dash_script.specs.declared.refusal.Cause.TheVariants as cause
use Rattle.dash_script.specs.Causes.{each_number}
use Rattle.animator.specs.declared.keys.Key.{Key}
use Rattle.animator.specs.declared.plan.Plan.{Plan}
use Rattle.animator.specs.Valuing.{end_of}
use Rattle.value_animator.specs.declared.plan.Thing.{Thing}
use Rattle.value_animator.specs.declared.plan.Thing.TheVariants as thing_of
use Rattle.value_animator.specs.declared.row.RowKind.{RowKind}
use Rattle.value_animator.specs.declared.row.RowKind.TheVariants as kind
use Rattle.value_animator.specs.declared.row.Row.{Row}
use Rattle.value_animator.specs.declared.draft.Stage.{Stage}
use Rattle.value_animator.specs.declared.draft.Stage.TheVariants.{Start, Headed, Body, Ended}
use Rattle.line_words.specs.Refusing.{Language, IsTextOf, IsRefusalOf, form_or}
use Rattle.value_animator.specs.declared.plan.Values.{Values}
use Rattle.dash_script.specs.declared.form.Keyword.TheVariants as word
use Rattle.dash_script.specs.declared.form.Slot.{Slot}
use Rattle.dash_script.specs.declared.form.Slot.TheVariants.{Word}
use Rattle.line_words.specs.Words.{words}
use Rattle.dash_script.specs.Form.{within, said_among}

-- the words and numbers of each kind of line, in order: a period is in nanoseconds, a total, an interval, a delay and a duration in milliseconds, then an
-- animator has its repeats, and a key its place in thousandths and its value
abbrev pub row_form : RowKind → List Slot
row_form kind.Head = Word word.Animate ∷ Word word.One ∷ []
row_form kind.Period = Word word.Period ∷ within 1000000 1000000000 ∷ []
row_form kind.Countdown = Word word.Countdown ∷ within 0 60000 ∷ within 1 60000 ∷ []
row_form kind.Restart = Word word.Animator ∷ within 0 60000 ∷ within 1 60000 ∷ within 0 99 ∷ Word word.Restart ∷ []
row_form kind.Reverse = Word word.Animator ∷ within 0 60000 ∷ within 1 60000 ∷ within 0 99 ∷ Word word.Reverse ∷ []
row_form kind.Key = Word word.Key ∷ within 0 1000 ∷ within 0 1000000 ∷ []
row_form kind.End = Word word.End ∷ []

-- all kinds of line
abbrev pub all_row_kinds : List RowKind
all_row_kinds = kind.Head ∷ kind.Period ∷ kind.Countdown ∷ kind.Restart ∷ kind.Reverse ∷ kind.Key ∷ kind.End ∷ []

-- a line of this kind with these numbers
abbrev pub say_row : RowKind → List ℕ → Row
say_row k ns = record { kind = k; numbers = ns }

-- what a line says, where it has the form of some kind
abbrev pub row_of : List ℕ → Option Row
row_of line = said_among row_form say_row all_row_kinds (words line)

-- the period and the things so far, the animator whose last key is still to come, and how far the text has come
pub record SoFar : Type 0 where
  pub period : ℕ
  pub things : List Thing
  pub open_plan : Option Plan
  pub stage : Stage

-- nothing is read yet
abbrev pub empty_so_far : SoFar
empty_so_far = record { period = 0; things = []; open_plan = None; stage = Start }

-- a line of this kind may stand here: the head first, then the period, and behind it a key where one is missing, else a thing or the end
abbrev pub may_stand : Stage → Option Plan → RowKind → Bool
may_stand Start p kind.Head = true
may_stand Headed p kind.Period = true
may_stand Body (Some p) kind.Key = true
may_stand Body None kind.Countdown = true
may_stand Body None kind.Restart = true
may_stand Body None kind.Reverse = true
may_stand Body None kind.End = true
may_stand _ _ _ = false

-- the number is within its limits
abbrev pub is_within_limits : Role → ℕ → Bool
is_within_limits (Within low high) n = nat_le low n && nat_le n high
is_within_limits _ n = true

-- each number of the line is within its limits
abbrev pub numbers_fit : RowKind → List ℕ → Bool
numbers_fit k ns = each_number is_within_limits 0 (row_form k) ns

-- an animator without keys
abbrev pub keyless_plan : Bool → List ℕ → Plan
keyless_plan back ns = record { delay = slice_index ns 0; duration = slice_index ns 1; repeats = slice_index ns 2; reverse = back; keys = [] }

-- all ways of an animator end within 60,000 milliseconds
abbrev pub ways_fit : RowKind → List ℕ → Bool
ways_fit kind.Restart ns = nat_le (end_of (keyless_plan false ns)) 60000
ways_fit kind.Reverse ns = nat_le (end_of (keyless_plan true ns)) 60000
ways_fit _ ns = true

-- the place of the last key
abbrev pub last_place : List Key → ℕ
last_place [] = 0
last_place (k ∷ []) = k.at
last_place (k ∷ l ∷ ks) = last_place (l ∷ ks)

-- the place is 0 for the first key, and above the last one for another
abbrev pub may_be_placed : List Key → ℕ → Bool
may_be_placed [] place = place == 0
may_be_placed (k ∷ ks) place = nat_lt (last_place (k ∷ ks)) place

-- keys begin at 0 and rise
abbrev pub places_rise : Option Plan → RowKind → List ℕ → Bool
places_rise (Some p) kind.Key ns = may_be_placed p.keys (slice_index ns 0)
places_rise _ _ ns = true

-- there is room for one key more: behind the fifteenth only for the last
abbrev pub key_room : Option Plan → ℕ → Bool
key_room None place = true
key_room (Some p) place = nat_lt (length p.keys) 15 || place == 1000

-- there is room for one thing or one key more
abbrev pub row_has_room : SoFar → RowKind → List ℕ → Bool
row_has_room d kind.Countdown ns = nat_lt (length d.things) 16
row_has_room d kind.Restart ns = nat_lt (length d.things) 16
row_has_room d kind.Reverse ns = nat_lt (length d.things) 16
row_has_room d kind.Key ns = key_room d.open_plan (slice_index ns 0)
row_has_room d _ ns = true

-- the first cause for which a line may not come next
unfoldable pub row_cause : SoFar → Row → Option Cause
row_cause d r =
    if not (may_stand d.stage d.open_plan r.kind) then Some cause.Form
    else (if not (numbers_fit r.kind r.numbers) then Some cause.Range
    else (if not (ways_fit r.kind r.numbers) then Some cause.Range
    else (if not (places_rise d.open_plan r.kind r.numbers) then Some cause.Order
    else (if not (row_has_room d r.kind r.numbers) then Some cause.TooMany
    else None))))

-- a key goes to the animator that waits for it; one at 1000 ends it
abbrev pub with_given_key : SoFar → Option Plan → Key → SoFar
with_given_key d None key = d
with_given_key d (Some p) key =
    let q = record p { keys = p.keys ++ key ∷ [] } in
    if key.at == 1000 then record d { things = d.things ++ thing_of.Animator q ∷ []; open_plan = None } else record d { open_plan = Some q }

-- the key of a key's line
abbrev pub key_of : List ℕ → Key
key_of ns = record { at = slice_index ns 0; value = slice_index ns 1 }

-- what the lines so far hold with one more
abbrev pub with_row : SoFar → RowKind → List ℕ → SoFar
with_row d kind.Head ns = record d { stage = Headed }
with_row d kind.Period ns = record d { period = slice_index ns 0; stage = Body }
with_row d kind.Countdown ns = record d { things = d.things ++ thing_of.Countdown (slice_index ns 0) (slice_index ns 1) ∷ [] }
with_row d kind.Restart ns = record d { open_plan = Some (keyless_plan false ns) }
with_row d kind.Reverse ns = record d { open_plan = Some (keyless_plan true ns) }
with_row d kind.Key ns = with_given_key d d.open_plan (key_of ns)
with_row d kind.End ns = record d { stage = Ended }

-- the last line has come
abbrev pub is_ended_stage : Stage → Bool
is_ended_stage Ended = true
is_ended_stage _ = false

-- why the text may not stop here, where a piece without a line feed is left
abbrev pub plan_stop_cause : SoFar → List ℕ → Option Cause
plan_stop_cause d rest = if length rest == 0 && is_ended_stage d.stage then None else Some (if length rest == 0 then cause.Missing else cause.Form)

-- the values of the lines
abbrev pub values_of : SoFar → Values
values_of d = record { period = d.period; things = d.things }

-- the language of plans of values
abbrev pub plans : Language Row SoFar Values Cause
plans = record {
  start = empty_so_far;
  line_of = row_of;
  next = λ d r. with_row d r.kind r.numbers;
  cause = λ k d r. form_or cause.Form (row_cause d) r;
  stop = λ k d rest. plan_stop_cause d rest;
  whole = values_of;
}

-- b is a text of these values
abbrev pub IsPlanText : List ℕ → Values → Type 0
IsPlanText = IsTextOf plans

-- this is the least line of the text, counted from 1, that has a cause, and this is the first cause that it has
abbrev pub IsPlanRefusal : List ℕ → ℕ → Cause → Type 0
IsPlanRefusal = IsRefusalOf plans
