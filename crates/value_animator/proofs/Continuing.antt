-- What the lines read so far hold begins the text of some values.
use Rattle.std.proofs.Common.{◌≡◌, ◌<◌, ◌≤◌, ℕ, true, List, [], ◌∷◌, ◌++◌, length, map, Option, Some, None, refl, sym, ap, subst, ◌∙◌, arith, append_assoc, append-nil, All, length-append}
use Rattle.std.specs.List.{flat_map}
use Rattle.std.proofs.lemmas.List.{map-append}
use Rattle.std.proofs.lemmas.List.Elements.{All-push, All-nil}
use Rattle.std.proofs.lemmas.Grind.{flat_map-append}
use Rattle.animator.specs.declared.keys.Key.{Key}
use Rattle.animator.specs.declared.plan.Plan.{Plan}
use Rattle.value_animator.specs.declared.plan.Thing.{Thing}
use Rattle.value_animator.specs.declared.plan.Thing.TheVariants as thing_of
use Rattle.value_animator.specs.declared.plan.Values.{Values}
use Rattle.value_animator.specs.declared.row.RowKind.TheVariants as kind
use Rattle.value_animator.specs.declared.row.Row.{Row}
use Rattle.value_animator.specs.declared.draft.Stage.{Stage}
use Rattle.value_animator.specs.declared.draft.Stage.TheVariants.{Start, Headed, Body, Ended}
use Rattle.animator.specs.Plans.{IsKey, IsPlan}
use Rattle.value_animator.specs.Plans.{IsThing, AreValues}
use Rattle.value_animator.specs.Reading.{say_row}
use Rattle.value_animator.specs.Plans.{row_text}
use Rattle.value_animator.specs.Reading.{SoFar, may_be_placed, last_place}
use Rattle.line_words.specs.LeastBad.{Begins}
use Rattle.value_animator.specs.Plans.{key_row, plan_row, thing_rows, rows, values_text}
use Rattle.value_animator.specs.Reading.{IsPlanText}
use Rattle.value_animator.proofs.Found.{are_theirs}
use Rattle.value_animator.proofs.Leading.{lt_test}
use Rattle.value_animator.proofs.Holding.{rows_in, body_rows, upto, make, SoundIn, Limits, IsOpen, rising, rising_push, rising_rise, more_thing}

-- some values have these rows and more
abbrev pub Continues : List Row → Type 0
Continues rs = (v : Values) × (more : List Row) × (rs ++ more ≡ rows v) × AreValues v

end_row : Row
end_row = say_row kind.End []

all_within : (period : ℕ) (things : List Thing) → Limits period things → AreValues (record { period = period; things = things })
all_within period things h = record { low = h.low; high = h.high; things = h.things_fit; few_things = h.few }

plain : Values
plain = record { period = 1000000; things = [] }

plain_fits : AreValues plain
unfolding plain
plain_fits = record { low = omega arith; high = omega arith; things = All-nil IsThing; few_things = omega arith }

-- ---- an animator that waits for a key

top : Key
top = record { at = 1000; value = 0 }

bottom : Key
bottom = record { at = 0; value = 0 }

top_fits : IsKey top
unfolding top
top_fits = record { place = omega arith; value = omega arith }

bottom_fits : IsKey bottom
unfolding bottom
bottom_fits = record { place = omega arith; value = omega arith }

-- the animator with these keys is whole
closes : (p : Plan) (keys : List Key) → IsOpen p → All IsKey keys → length keys ≤ 15 → rising (keys ++ top ∷ []) ≡ true → IsPlan (record p { keys = keys ++ top ∷ [] })
unfolding top
closes p keys o all few up = record {
  delay = o.delay;
  duration = o.duration;
  some_duration = o.some_duration;
  repeats = o.repeats;
  end = o.end;
  keys = All-push IsKey keys top all top_fits;
  few_keys = omega (arith, length-append keys (top ∷ []));
  rising = rising_rise keys top up refl;
}

-- keys that end an animator, behind those that it has
missing_keys : List Key → List Key
missing_keys [] = bottom ∷ top ∷ []
missing_keys (k ∷ ks) = top ∷ []

closed : (p : Plan) (keys : List Key) → p.keys ≡ keys → IsOpen p → IsPlan (record p { keys = keys ++ missing_keys keys })
unfolding missing_keys bottom top
closed p [] e o = closes p (bottom ∷ []) o (All-push IsKey [] bottom (All-nil IsKey) bottom_fits) (omega arith) refl
closed p (k ∷ ks) e o =
    let few : length (k ∷ ks) ≤ 15 = subst (λ l. length l ≤ 15) e o.few_keys in
    let up : rising (k ∷ ks) ≡ true = subst (λ l. rising l ≡ true) e o.rising in
    let placed : may_be_placed p.keys 1000 ≡ true = subst (λ l. may_be_placed l 1000 ≡ true) (sym e) (below (subst (λ l. last_place l < 1000) e o.going)) in
    closes p (k ∷ ks) o (subst (All IsKey) e o.keys) few (rising_push (k ∷ ks) top up (subst (λ l. may_be_placed l 1000 ≡ true) e placed))
  where
    below : last_place (k ∷ ks) < 1000 → may_be_placed (k ∷ ks) 1000 ≡ true
    below lt = lt_test (last_place (k ∷ ks)) 1000 lt

open_continues : (period : ℕ) (things : List Thing) (p : Plan) → Limits period things → IsOpen p → length things ≤ 15 → Continues (body_rows period things (Some p))
unfolding end_row missing_keys
open_continues period things p h o few =
    let keys = p.keys ++ missing_keys p.keys in
    let whole : Plan = record p { keys = keys } in
    let all : List Thing = things ++ thing_of.Animator whole ∷ [] in
    let v : Values = record { period = period; things = all } in
    let more : List Row = map key_row (missing_keys p.keys) ++ end_row ∷ [] in
    let count : length all ≤ 16 = omega (arith, length-append things (thing_of.Animator whole ∷ [])) in
    let keys_are : body_rows period things (Some p) ++ map key_row (missing_keys p.keys) ≡ upto period things ++ thing_rows (thing_of.Animator whole) =
    append_assoc (upto period things) (plan_row p ∷ map key_row p.keys) (map key_row (missing_keys p.keys))
    ∙ ap (λ (l : List Row). upto period things ++ (plan_row p ∷ l)) (sym (map-append key_row p.keys (missing_keys p.keys))) in
    let body : body_rows period all None ≡ body_rows period things (Some p) ++ map key_row (missing_keys p.keys) = more_thing period things (thing_of.Animator whole) ∙ sym keys_are in
    let rows_are : body_rows period things (Some p) ++ more ≡ rows v =
    sym (append_assoc (body_rows period things (Some p)) (map key_row (missing_keys p.keys)) (end_row ∷ []))
    ∙ ap (λ l. l ++ end_row ∷ []) (sym body ∙ append-nil (upto period all)) in
    (v, more, rows_are, all_within period all (record { low = h.low; high = h.high; things_fit = All-push IsThing things (thing_of.Animator whole) h.things_fit (closed p p.keys refl o); few = count }))

-- ---- every draft

continues : (stage : Stage) (o : Option Plan) (period : ℕ) (things : List Thing) → SoundIn stage (make stage o period things) → Continues (rows_in stage (make stage o period things))
unfolding plain end_row
continues Start o period things h = (plain, rows plain, refl, plain_fits)
continues Headed o period things h = (plain, say_row kind.Period (1000000 ∷ []) ∷ end_row ∷ [], refl, plain_fits)
continues Body None period things h =
    (record { period = period; things = things }, end_row ∷ [], ap (λ l. l ++ end_row ∷ []) (append-nil (upto period things)), all_within period things h.0)
continues Body (Some p) period things h = open_continues period things p h.0 h.1.0 h.1.1
continues Ended o period things h =
    let none : body_rows period things o ≡ upto period things = ap (body_rows period things) h.1 ∙ append-nil (upto period things) in
    (record { period = period; things = things }, [], append-nil (body_rows period things o ++ end_row ∷ []) ∙ ap (λ l. l ++ end_row ∷ []) none, all_within period things h.0)

-- the text of the rows that a draft has seen begins the text of some values
pub begins : (d : SoFar) → SoundIn d.stage d → Begins IsPlanText (flat_map row_text (rows_in d.stage d))
begins d h =
    let c = continues d.stage d.open_plan d.period d.things h in
    let bytes : List ℕ = flat_map row_text (rows_in d.stage d) ++ flat_map row_text c.1 in
    let is : (bytes ≡ values_text c.0) × AreValues c.0 = (sym (flat_map-append row_text (rows_in d.stage d) c.1) ∙ ap (flat_map row_text) c.2, c.3) in
    (c.0, flat_map row_text c.1, (are_theirs bytes c.0).1 is)
