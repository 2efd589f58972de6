-- A looper tells no pulse behind a dispatch of its own millisecond: what it keeps of that between two acts, and that acts more keep it.
use Rattle.std.specs.Prelude.{◌≡◌, ◌≤◌, ℕ, Bool, true, List, [], ◌∷◌, ◌++◌, Option, Some, None, nat_le, nat_lt}
use Rattle.std.specs.List.{filter_map, list_all, cons_option}
use Rattle.std.specs.Option.{option_map_or}
use Rattle.std.proofs.Common.{refl, ap, ◌∙◌, arith}
use Rattle.std.proofs.lemmas.Bool.{and_parts, and_from, lt-ltb, ltb-true, leb-true}
use Rattle.std.proofs.lemmas.List.Folds.{list_all-append}
use Rattle.std.proofs.lemmas.List.Elements.{filter_map-append}
use Rattle.loop_model.specs.declared.journal.Act.{Act}
use Rattle.loop_model.specs.declared.journal.Act.TheVariants.{Dispatch, Idle, Event, Vsync, Paint}
use Rattle.loop_model.specs.Dispatches.{act_dispatch, dispatches}
use Rattle.looper_run.specs.Acts.{IsQuietAct}
use Rattle.run_model.specs.FrameRecords.{millis_up}
use Rattle.run_model.specs.Loopers.{pulse_stamp, pulses_are_later, pulses_come_first}

-- the acts tell no pulse behind a dispatch of its own millisecond, and each dispatch with this time or an earlier one
pub record TellsPulsesFirst (dispatched : ℕ) (acts : List Act) : Type 0 where
  pub first : pulses_come_first acts ≡ true
  pub up_to : list_all (λ (n, now). nat_le now dispatched) (dispatches acts) ≡ true

-- ---- acts more

later_append : (time : ℕ) (acts more : List Act) → pulses_are_later time acts ≡ true → pulses_are_later time more ≡ true
    → pulses_are_later time (acts ++ more) ≡ true
later_append time acts more a b =
    let test : ℕ → Bool = λ stamp. nat_lt time (millis_up stamp) in
    ap (list_all test) (filter_map-append pulse_stamp acts more)
    ∙ (list_all-append test (filter_map pulse_stamp acts) (filter_map pulse_stamp more)
    ∙ and_from (pulses_are_later time acts) (pulses_are_later time more) a b)

up_append : (d : ℕ) (acts more : List Act) → list_all (λ (n, now). nat_le now d) (dispatches acts) ≡ true
    → list_all (λ (n, now). nat_le now d) (dispatches more) ≡ true → list_all (λ (n, now). nat_le now d) (dispatches (acts ++ more)) ≡ true
up_append d acts more a b =
    let test : ℕ × ℕ → Bool = λ (n, now). nat_le now d in
    ap (list_all test) (filter_map-append act_dispatch acts more)
    ∙ (list_all-append test (dispatches acts) (dispatches more) ∙ and_from (list_all test (dispatches acts)) (list_all test (dispatches more)) a b)

-- what is later than a time is later than an earlier one
later_still : (time d : ℕ) (stamps : List ℕ) → time ≤ d → list_all (λ stamp. nat_lt d (millis_up stamp)) stamps ≡ true
    → list_all (λ stamp. nat_lt time (millis_up stamp)) stamps ≡ true
later_still time d [] le is = refl
later_still time d (stamp ∷ stamps) le is =
    let p = and_parts (nat_lt d (millis_up stamp)) (list_all (λ z. nat_lt d (millis_up z)) stamps) is in
    let lt = ltb-true d (millis_up stamp) p.0 in
    and_from (nat_lt time (millis_up stamp)) (list_all (λ z. nat_lt time (millis_up z)) stamps) (lt-ltb time (millis_up stamp) (omega (arith, le, lt)))
    (later_still time d stamps le p.1)

-- the dispatch of an act, if it is one, and those behind it
up_parts : (d : ℕ) (o : Option (ℕ × ℕ)) (l : List (ℕ × ℕ)) → list_all (λ (n, now). nat_le now d) (cons_option o l) ≡ true
    → (option_map_or (λ (n, now). nat_le now d) o true ≡ true) × (list_all (λ (n, now). nat_le now d) l ≡ true)
up_parts d None l is = (refl, is)
up_parts d (Some (n, now)) l is = and_parts (nat_le now d) (list_all (λ (k, z). nat_le z d) l) is

one_append : (d : ℕ) (acts more : List Act) (o : Option (ℕ × ℕ)) → pulses_are_later d more ≡ true
    → option_map_or (λ (n, now). pulses_are_later now acts) o true ≡ true
    → option_map_or (λ (n, now). nat_le now d) o true ≡ true → option_map_or (λ (n, now). pulses_are_later now (acts ++ more)) o true ≡ true
one_append d acts more None later is le = refl
one_append d acts more (Some (n, now)) later is le = later_append now acts more is (later_still now d (filter_map pulse_stamp more) (leb-true now d le) later)

-- no dispatch of the first acts is later than this time, and all pulses of the others are: so none of these comes behind a dispatch of its millisecond
first_append : (d : ℕ) (acts more : List Act) → list_all (λ (n, now). nat_le now d) (dispatches acts) ≡ true → pulses_are_later d more ≡ true
    → pulses_come_first acts ≡ true → pulses_come_first more ≡ true → pulses_come_first (acts ++ more) ≡ true
first_append d [] more up later first rest = rest
first_append d (x ∷ acts) more up later first rest =
    let p = and_parts (option_map_or (λ (n, now). pulses_are_later now acts) (act_dispatch x) true) (pulses_come_first acts) first in
    let u = up_parts d (act_dispatch x) (dispatches acts) up in
    and_from (option_map_or (λ (n, now). pulses_are_later now (acts ++ more)) (act_dispatch x) true) (pulses_come_first (acts ++ more))
    (one_append d acts more (act_dispatch x) later p.0 u.0) (first_append d acts more u.1 later p.1 rest)

-- acts more that tell it too, with pulses that are later than all dispatches so far
pub tells_more : (d : ℕ) (acts more : List Act) → pulses_are_later d more ≡ true → TellsPulsesFirst d acts → TellsPulsesFirst d more
    → TellsPulsesFirst d (acts ++ more)
tells_more d acts more later a b = record { first = first_append d acts more a.up_to later a.first b.first; up_to = up_append d acts more a.up_to b.up_to }

-- an act of an idle handler or an event
pub tells_quiet : (d : ℕ) (acts : List Act) (x : Act) → IsQuietAct x → TellsPulsesFirst d acts → TellsPulsesFirst d (acts ++ x ∷ [])
tells_quiet d acts (Idle i t) is a = tells_more d acts (Idle i t ∷ []) refl a (record { first = refl; up_to = refl })
tells_quiet d acts (Event f e m) is a = tells_more d acts (Event f e m ∷ []) refl a (record { first = refl; up_to = refl })
tells_quiet d acts (Dispatch n m r) is a = absurd is
tells_quiet d acts (Vsync v) is a = absurd is
tells_quiet d acts (Paint g v) is a = absurd is
