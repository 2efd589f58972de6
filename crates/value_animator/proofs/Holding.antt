-- Rows that run are the lines of the values that they run to.
use Rattle.std.proofs.Common.{◌≡◌, ◌<◌, ◌≤◌, ◌+◌, ◌*◌, ℕ, true, false, Bool, List, [], ◌∷◌, ◌++◌, length, map, Option, Some, None, refl, sym, ap, subst, ◌∙◌, arith, append_assoc, append-nil, nat_le, nat_lt, ◌==◌, All, length-append, if◌then◌else◌, inl, inr}
use Rattle.std.specs.Prelude.{◌&&◌, ◌||◌, slice_index}
use Rattle.std.specs.List.{flat_map}
use Rattle.std.proofs.lemmas.Bool.{and_parts, and_from, or_cases, eqb-false}
use Rattle.std.proofs.lemmas.Bool.Decides.{nat_tests}
use Rattle.std.proofs.lemmas.List.{map-append}
use Rattle.std.proofs.lemmas.List.Elements.{All-push, All-nil}
use Rattle.std.proofs.lemmas.Grind.{flat_map-append}
use Rattle.dash_script.specs.declared.refusal.Cause.{Cause}
use Rattle.dash_script.specs.Writing.{hole_count}
use Rattle.animator.specs.declared.keys.Key.{Key}
use Rattle.animator.specs.declared.plan.Plan.{Plan}
use Rattle.value_animator.specs.declared.plan.Thing.{Thing}
use Rattle.value_animator.specs.declared.plan.Thing.TheVariants as thing_of
use Rattle.value_animator.specs.declared.plan.Values.{Values}
use Rattle.value_animator.specs.declared.row.RowKind.{RowKind}
use Rattle.value_animator.specs.declared.row.RowKind.TheVariants as kind
use Rattle.value_animator.specs.declared.row.Row.{Row}
use Rattle.value_animator.specs.declared.draft.Stage.{Stage}
use Rattle.value_animator.specs.declared.draft.Stage.TheVariants.{Start, Headed, Body, Ended}
use Rattle.animator.specs.Plans.{IsKey, IsPlan, rise, rise_from}
use Rattle.value_animator.specs.Plans.{IsThing, AreValues}
use Rattle.value_animator.specs.Reading.{row_form, say_row}
use Rattle.value_animator.specs.Reading.{SoFar, row_cause, with_row, last_place, may_be_placed, key_of, keyless_plan}
use Rattle.line_words.specs.RefusedReading.{goes_on, run}
use Rattle.line_words.proofs.Refusing.{answer}
use Rattle.value_animator.specs.Plans.{key_row, plan_row, thing_rows, rows}
use Rattle.value_animator.specs.Reading.{plans, values_of, plan_stop_cause}
use Rattle.value_animator.proofs.Limits.{key_fits, countdown_fits, restart_fits, reverse_fits, period_fits, WayFits}
use Rattle.std.specs.List.{AllByRecursion}
use Rattle.value_animator.proofs.Lines.{IsGood, good_is}
use Rattle.value_animator.proofs.Running.{IsCounted}
use Rattle.value_animator.proofs.Leading.{last_place-push}

-- ---- the rows that a draft has seen

-- the rows of the animator that waits for a key
abbrev pub open_rows : Option Plan → List Row
open_rows None = []
open_rows (Some p) = plan_row p ∷ map key_row p.keys

-- the rows from the first on to the last key
abbrev pub body_rows : ℕ → List Thing → Option Plan → List Row
body_rows period things o = (say_row kind.Head [] ∷ say_row kind.Period (period ∷ []) ∷ flat_map thing_rows things) ++ open_rows o

abbrev pub rows_in : Stage → SoFar → List Row
rows_in Start d = []
rows_in Headed d = say_row kind.Head [] ∷ []
rows_in Body d = body_rows d.period d.things d.open_plan
rows_in Ended d = body_rows d.period d.things d.open_plan ++ say_row kind.End [] ∷ []

-- ---- what holds of a draft

-- keys so far rise from 0
abbrev pub chain : ℕ → List Key → Bool
chain place [] = true
chain place (k ∷ ks) = nat_lt place k.at && chain k.at ks

abbrev pub rising : List Key → Bool
rising [] = true
rising (k ∷ ks) = k.at == 0 && chain k.at ks

-- the animator waits for a key
pub record IsOpen (p : Plan) : Type 0 where
  pub delay : p.delay ≤ 60000
  pub duration : p.duration ≤ 60000
  pub some_duration : 0 < p.duration
  pub repeats : p.repeats ≤ 99
  pub end : p.delay + p.duration * (p.repeats + 1) ≤ 60000
  pub keys : All IsKey p.keys
  pub few_keys : length p.keys ≤ 15
  pub rising : rising p.keys ≡ true
  pub going : last_place p.keys < 1000

-- the period and the things are within the limits
pub record Limits (period : ℕ) (things : List Thing) : Type 0 where
  pub low : 1000000 ≤ period
  pub high : period ≤ 1000000000
  pub things_fit : All IsThing things
  pub few : length things ≤ 16

abbrev pub OpenFits : List Thing → Option Plan → Type 0
OpenFits things None = Unit {0}
OpenFits things (Some p) = IsOpen p × (length things ≤ 15)

abbrev pub SoundIn : Stage → SoFar → Type 0
SoundIn Start d = (d.things ≡ []) × (d.open_plan ≡ None)
SoundIn Headed d = (d.things ≡ []) × (d.open_plan ≡ None)
SoundIn Body d = Limits d.period d.things × OpenFits d.things d.open_plan
SoundIn Ended d = Limits d.period d.things × (d.open_plan ≡ None)

-- one row more
pub record Steps (d : SoFar) (r : Row) (e : SoFar) : Type 0 where
  pub rows : rows_in e.stage e ≡ rows_in d.stage d ++ r ∷ []
  pub sound : SoundIn e.stage e

-- ---- numbers of a row

one_number : (ns : List ℕ) → 1 ≡ length ns → ns ≡ slice_index ns 0 ∷ []
one_number [] h = absurd (omega arith)
one_number (a ∷ []) h = refl
one_number (a ∷ b ∷ ns) h = absurd (omega arith)

two_numbers : (ns : List ℕ) → 2 ≡ length ns → ns ≡ slice_index ns 0 ∷ slice_index ns 1 ∷ []
two_numbers [] h = absurd (omega arith)
two_numbers (a ∷ []) h = absurd (omega arith)
two_numbers (a ∷ b ∷ []) h = refl
two_numbers (a ∷ b ∷ c ∷ ns) h = absurd (omega arith)

three_numbers : (ns : List ℕ) → 3 ≡ length ns → ns ≡ slice_index ns 0 ∷ slice_index ns 1 ∷ slice_index ns 2 ∷ []
three_numbers [] h = absurd (omega arith)
three_numbers (a ∷ []) h = absurd (omega arith)
three_numbers (a ∷ b ∷ []) h = absurd (omega arith)
three_numbers (a ∷ b ∷ c ∷ []) h = refl
three_numbers (a ∷ b ∷ c ∷ d ∷ ns) h = absurd (omega arith)

no_number : (ns : List ℕ) → 0 ≡ length ns → ns ≡ []
no_number [] h = refl
no_number (a ∷ ns) h = absurd (omega arith)

-- ---- keys that rise

-- the place of the last of these keys, where there is one, else this place
last_from : ℕ → List Key → ℕ
last_from place [] = place
last_from place (k ∷ ks) = last_from k.at ks

last_is : (x : Key) (ks : List Key) → last_place (x ∷ ks) ≡ last_from x.at ks
unfolding last_from
last_is x [] = refl
last_is x (y ∷ ys) = last_is y ys

chain_push : (place : ℕ) (ks : List Key) (k : Key) → chain place ks ≡ true → nat_lt (last_from place ks) k.at ≡ true → chain place (ks ++ k ∷ []) ≡ true
unfolding last_from
chain_push place [] k h lt = and_from _ _ lt refl
chain_push place (x ∷ xs) k h lt =
    let p = and_parts (nat_lt place x.at) (chain x.at xs) h in and_from _ _ p.0 (chain_push x.at xs k p.1 lt)

pub rising_push : (ks : List Key) (k : Key) → rising ks ≡ true → may_be_placed ks k.at ≡ true → rising (ks ++ k ∷ []) ≡ true
rising_push [] k h placed = and_from _ _ placed refl
rising_push (x ∷ xs) k h placed =
    let p = and_parts (x.at == 0) (chain x.at xs) h in
    and_from _ _ p.0 (chain_push x.at xs k p.1 (ap (λ n. nat_lt n k.at) (sym (last_is x xs)) ∙ placed))

chain_rise : (place : ℕ) (ks : List Key) (k : Key) → chain place (ks ++ k ∷ []) ≡ true → (k.at == 1000) ≡ true → rise_from place (ks ++ k ∷ []) ≡ true
chain_rise place [] k h top = let p = and_parts (nat_lt place k.at) true h in and_from _ _ p.0 top
chain_rise place (x ∷ xs) k h top =
    let p = and_parts (nat_lt place x.at) (chain x.at (xs ++ k ∷ [])) h in and_from _ _ p.0 (chain_rise x.at xs k p.1 top)

-- a first key at 0 is not the last
pub rising_rise : (ks : List Key) (k : Key) → rising (ks ++ k ∷ []) ≡ true → (k.at == 1000) ≡ true → rise (ks ++ k ∷ []) ≡ true
rising_rise [] k h top = let p = and_parts (k.at == 0) true h in and_from _ _ p.0 top
rising_rise (x ∷ xs) k h top =
    let p = and_parts (x.at == 0) (chain x.at (xs ++ k ∷ [])) h in and_from _ _ p.0 (chain_rise x.at xs k p.1 top)

-- ---- one row more

abbrev pub make : Stage → Option Plan → ℕ → List Thing → SoFar
make stage o period things = record { period = period; things = things; open_plan = o; stage = stage }

-- the rows up to the things
abbrev pub upto : ℕ → List Thing → List Row
upto period things = say_row kind.Head [] ∷ say_row kind.Period (period ∷ []) ∷ flat_map thing_rows things

pub more_thing : (period : ℕ) (things : List Thing) (t : Thing) → body_rows period (things ++ t ∷ []) None ≡ upto period things ++ thing_rows t
more_thing period things t =
    append-nil (upto period (things ++ t ∷ []))
    ∙ ap (λ (l : List Row). say_row kind.Head [] ∷ say_row kind.Period (period ∷ []) ∷ l) (flat_map-append thing_rows things (t ∷ []) ∙ ap (λ l. flat_map thing_rows things ++ l) (append-nil (thing_rows t)))

le_is : (m n : ℕ) → nat_le m n ≡ true → m ≤ n
le_is m n h = grind (arith, nat_tests)

lt_is : (m n : ℕ) → nat_lt m n ≡ true → m < n
lt_is m n h = grind (arith, nat_tests)

start_open : (b : Bool) (ns : List ℕ) → WayFits ns → nat_le (slice_index ns 0 + slice_index ns 1 * (slice_index ns 2 + 1)) 60000 ≡ true → IsOpen (keyless_plan b ns)
start_open b ns h ways = record {
  delay = h.delay;
  duration = h.duration;
  some_duration = h.some_duration;
  repeats = h.repeats;
  end = le_is (slice_index ns 0 + slice_index ns 1 * (slice_index ns 2 + 1)) 60000 ways;
  keys = All-nil IsKey;
  few_keys = omega arith;
  rising = refl;
  going = omega arith;
}

-- the rows with one key more
key_rows : (period : ℕ) (things : List Thing) (p : Plan) (ns : List ℕ) → 2 ≡ length ns
    → upto period things ++ (plan_row p ∷ map key_row (p.keys ++ key_of ns ∷ [])) ≡ body_rows period things (Some p) ++ say_row kind.Key ns ∷ []
key_rows period things p ns two =
    ap (λ (l : List Row). upto period things ++ (plan_row p ∷ l)) (map-append key_row p.keys (key_of ns ∷ []))
    ∙ (ap (λ (n : List ℕ). upto period things ++ (plan_row p ∷ (map key_row p.keys ++ say_row kind.Key n ∷ []))) (sym (two_numbers ns two))
    ∙ sym (append_assoc (upto period things) (plan_row p ∷ map key_row p.keys) (say_row kind.Key ns ∷ [])))

key_steps : (period : ℕ) (things : List Thing) (p : Plan) (ns : List ℕ) (b : Bool) → (slice_index ns 0 == 1000) ≡ b → 2 ≡ length ns
    → IsGood (make Body (Some p) period things) (say_row kind.Key ns) → Limits period things → IsOpen p → length things ≤ 15
    → Steps (make Body (Some p) period things) (say_row kind.Key ns)
    (if b then make Body None period (things ++ thing_of.Animator (record p { keys = p.keys ++ key_of ns ∷ [] }) ∷ [])
    else make Body (Some (record p { keys = p.keys ++ key_of ns ∷ [] })) period things)
key_steps period things p ns true top two good h o few =
    let up = rising_push p.keys (key_of ns) o.rising good.rises in
    let n : length (p.keys ++ key_of ns ∷ []) ≤ 16 = omega (arith, length-append p.keys (key_of ns ∷ []), o.few_keys) in
    let m : length (things ++ thing_of.Animator (record p { keys = p.keys ++ key_of ns ∷ [] }) ∷ []) ≤ 16 =
    omega (arith, length-append things (thing_of.Animator (record p { keys = p.keys ++ key_of ns ∷ [] }) ∷ [])) in
    let whole : IsPlan (record p { keys = p.keys ++ key_of ns ∷ [] }) = record {
      delay = o.delay;
      duration = o.duration;
      some_duration = o.some_duration;
      repeats = o.repeats;
      end = o.end;
      keys = All-push IsKey p.keys (key_of ns) o.keys (key_fits ns good.fits);
      few_keys = n;
      rising = rising_rise p.keys (key_of ns) up top;
    } in
    record {
      rows = more_thing period things (thing_of.Animator (record p { keys = p.keys ++ key_of ns ∷ [] })) ∙ key_rows period things p ns two;
      sound = (record { low = h.low; high = h.high; things_fit = All-push IsThing things (thing_of.Animator (record p { keys = p.keys ++ key_of ns ∷ [] })) h.things_fit whole; few = m }, tt);
    }
key_steps period things p ns false top two good h o few =
    let up = rising_push p.keys (key_of ns) o.rising good.rises in
    let less : length p.keys < 15 = has_less (length p.keys) (slice_index ns 0) top good.room in
    let n : length (p.keys ++ key_of ns ∷ []) ≤ 15 = omega (arith, length-append p.keys (key_of ns ∷ [])) in
    let fits : IsKey (key_of ns) = key_fits ns good.fits in
    let below : last_place (p.keys ++ key_of ns ∷ []) < 1000 = omega (arith, last_place-push p.keys (key_of ns), fits.place, eqb-false (slice_index ns 0) 1000 top) in
    record {
      rows = key_rows period things p ns two;
      sound = (
        h,
        (
          record {
            delay = o.delay;
            duration = o.duration;
            some_duration = o.some_duration;
            repeats = o.repeats;
            end = o.end;
            keys = All-push IsKey p.keys (key_of ns) o.keys (key_fits ns good.fits);
            few_keys = n;
            rising = up;
            going = below;
          },
          few,
        ),
      );
    }
  where
    has_less : (m place : ℕ) → (place == 1000) ≡ false → (nat_lt m 15 || place == 1000) ≡ true → m < 15
    has_less m place other room = elim (or_cases (nat_lt m 15) (place == 1000) room) [
      | inl less ↦ lt_is m 15 less
      | inr top ↦ let wrong : false ≡ true = sym other ∙ top in absurd cc
    ]

pub step : (stage : Stage) (o : Option Plan) (k : RowKind) (period : ℕ) (things : List Thing) (ns : List ℕ) → hole_count (row_form k) ≡ length ns
    → IsGood (make stage o period things) (say_row k ns) → SoundIn stage (make stage o period things) → Steps (make stage o period things) (say_row k ns) (with_row (make stage o period things) k ns)
step Start o kind.Head period things ns c good h =
    record { rows = ap (λ (n : List ℕ). say_row kind.Head n ∷ []) (sym (no_number ns c)); sound = h }
step Headed o kind.Period period things ns c good h =
    let fits = period_fits ns good.fits in
    let none : length things ≡ 0 = ap length h.0 in
    record {
      rows = ap (λ ts. body_rows (slice_index ns 0) ts o) h.0 ∙ (ap (λ q. body_rows (slice_index ns 0) [] q) h.1 ∙ ap (λ (n : List ℕ). say_row kind.Head [] ∷ say_row kind.Period n ∷ []) (sym (one_number ns c)));
      sound = (record { low = fits.0; high = fits.1; things_fit = subst (λ ts. All IsThing ts) (sym h.0) (All-nil IsThing); few = omega arith }, subst (λ q. OpenFits things q) (sym h.1) tt);
    }
step Body None kind.Countdown period things ns c good h =
    let t : Thing = thing_of.Countdown (slice_index ns 0) (slice_index ns 1) in
    let room : length things < 16 = lt_is (length things) 16 good.room in
    let few : length (things ++ t ∷ []) ≤ 16 = omega (arith, length-append things (t ∷ [])) in
    record {
      rows = more_thing period things t ∙ (ap (λ (n : List ℕ). upto period things ++ say_row kind.Countdown n ∷ []) (sym (two_numbers ns c)) ∙ ap (λ l. l ++ say_row kind.Countdown ns ∷ []) (sym (append-nil (upto period things))));
      sound = (record { low = h.0.low; high = h.0.high; things_fit = All-push IsThing things t h.0.things_fit (countdown_fits ns good.fits); few = few }, tt);
    }
step Body None kind.Restart period things ns c good h =
    let room : length things < 16 = lt_is (length things) 16 good.room in
    record {
      rows = ap (λ (n : List ℕ). upto period things ++ say_row kind.Restart n ∷ []) (sym (three_numbers ns c)) ∙ ap (λ l. l ++ say_row kind.Restart ns ∷ []) (sym (append-nil (upto period things)));
      sound = (h.0, (start_open false ns (restart_fits ns good.fits) good.ways, omega arith));
    }
step Body None kind.Reverse period things ns c good h =
    let room : length things < 16 = lt_is (length things) 16 good.room in
    record {
      rows = ap (λ (n : List ℕ). upto period things ++ say_row kind.Reverse n ∷ []) (sym (three_numbers ns c)) ∙ ap (λ l. l ++ say_row kind.Reverse ns ∷ []) (sym (append-nil (upto period things)));
      sound = (h.0, (start_open true ns (reverse_fits ns good.fits) good.ways, omega arith));
    }
step Body None kind.End period things ns c good h =
    record { rows = ap (λ (n : List ℕ). body_rows period things None ++ say_row kind.End n ∷ []) (sym (no_number ns c)); sound = (h.0, refl) }
step Body (Some p) kind.Key period things ns c good h = key_steps period things p ns (slice_index ns 0 == 1000) refl c good h.0 h.1.0 h.1.1
step stage o k period things ns c good h = let wrong : false ≡ true = good.stands in absurd cc

-- ---- all rows

pub record Held (d : SoFar) (rs : List Row) (v : Values) : Type 0 where
  pub rows_are : rows_in d.stage d ++ rs ≡ rows v
  pub limits : AreValues v

held_end : (stage : Stage) (o : Option Plan) (period : ℕ) (things : List Thing) (k : ℕ) (v : Values) → SoundIn stage (make stage o period things)
    → goes_on k (plan_stop_cause (make stage o period things) []) (make stage o period things) (λ e. answer (values_of e)) ≡ answer v → Held (make stage o period things) [] v
held_end Start o period things k v h e = absurd cc
held_end Headed o period things k v h e = absurd cc
held_end Body o period things k v h e = absurd cc
held_end Ended o period things k v h e =
    let made : Values = record { period = period; things = things } in
    let same : made ≡ v = cc in
    let here : Held (make Ended o period things) [] made = record {
      rows_are = append-nil (body_rows period things o ++ say_row kind.End [] ∷ [])
          ∙ (ap (λ q. body_rows period things q ++ say_row kind.End [] ∷ []) h.1 ∙ ap (λ l. l ++ say_row kind.End [] ∷ []) (append-nil (upto period things)));
      limits = record { low = h.0.low; high = h.0.high; things = h.0.things_fit; few_things = h.0.few };
    } in
    subst (λ w. Held (make Ended o period things) [] w) same here

held_more : (k : ℕ) (d : SoFar) (r : Row) (rs : List Row) (v : Values) (o : Option Cause) → row_cause d r ≡ o → hole_count (row_form r.kind) ≡ length r.numbers → SoundIn d.stage d
    → ((e : SoFar) → SoundIn e.stage e → run plans (k + 1) e rs ≡ answer v → Held e rs v)
    → goes_on k o (with_row d r.kind r.numbers) (λ e. run plans (k + 1) e rs) ≡ answer v → Held d (r ∷ rs) v
held_more k d r rs v (Some c) bad counted h later e = absurd cc
held_more k d r rs v None good counted h later e =
    let one = step d.stage d.open_plan r.kind d.period d.things r.numbers counted (good_is d r good) h in
    let rest = later (with_row d r.kind r.numbers) one.sound e in
    record {
      rows_are = sym (append_assoc (rows_in d.stage d) (r ∷ []) rs) ∙ (ap (λ l. l ++ rs) (sym one.rows) ∙ rest.rows_are);
      limits = rest.limits;
    }

pub held : (rs : List Row) (k : ℕ) (d : SoFar) (v : Values) → AllByRecursion IsCounted rs → SoundIn d.stage d → run plans k d rs ≡ answer v → Held d rs v
unfolding run
held [] k d v counted h e = held_end d.stage d.open_plan d.period d.things k v h e
held (r ∷ rs) k d v counted h e = held_more k d r rs v (row_cause d r) refl counted.0 h (λ x s g. held rs (k + 1) x v counted.1 s g) e
