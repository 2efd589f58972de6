-- A line without a cause.
use Rattle.std.proofs.Common.{◌≡◌, true, false, Bool, Option, Some, None, refl, cond}
use Rattle.std.specs.Prelude.{not}
use Rattle.dash_script.specs.declared.refusal.Cause.{Cause}
use Rattle.dash_script.specs.declared.refusal.Cause.TheVariants as cause
use Rattle.value_animator.specs.declared.row.Row.{Row}
use Rattle.value_animator.specs.Reading.{SoFar, row_cause, may_stand, numbers_fit, ways_fit, places_rise, row_has_room}

-- all that is asked of a line holds
pub record IsGood (d : SoFar) (r : Row) : Type 0 where
  pub stands : may_stand d.stage d.open_plan r.kind ≡ true
  pub fits : numbers_fit r.kind r.numbers ≡ true
  pub ways : ways_fit r.kind r.numbers ≡ true
  pub rises : places_rise d.open_plan r.kind r.numbers ≡ true
  pub room : row_has_room d r.kind r.numbers ≡ true

abbrev pub first_cause : Bool → Bool → Bool → Bool → Bool → Option Cause
first_cause a b c d e =
    cond (not a) (Some cause.Form) (cond (not b) (Some cause.Range) (cond (not c) (Some cause.Range) (cond (not d) (Some cause.Order) (cond (not e) (Some cause.TooMany) None))))

all_true : (a b c d e : Bool) → first_cause a b c d e ≡ None → (a ≡ true) × (b ≡ true) × (c ≡ true) × (d ≡ true) × (e ≡ true)
all_true true true true true true h = (refl, refl, refl, refl, refl)
all_true false b c d e h = absurd cc
all_true true false c d e h = absurd cc
all_true true true false d e h = absurd cc
all_true true true true false e h = absurd cc
all_true true true true true false h = absurd cc

pub good_is : (d : SoFar) (r : Row) → row_cause d r ≡ None → IsGood d r
unfolding row_cause
good_is d r h =
    let p = all_true (may_stand d.stage d.open_plan r.kind) (numbers_fit r.kind r.numbers) (ways_fit r.kind r.numbers) (places_rise d.open_plan r.kind r.numbers) (row_has_room d r.kind r.numbers) h in
    record { stands = p.0; fits = p.1; ways = p.2; rises = p.3; room = p.4 }

pub is_good : (d : SoFar) (r : Row) → IsGood d r → row_cause d r ≡ None
unfolding row_cause
is_good d r g = rw (g.stands, g.fits, g.ways, g.rises, g.room) refl
