-- The rows of values within the limits lead to them.
use Rattle.std.proofs.Common.{◌≡◌, ◌<◌, ◌≤◌, ◌+◌, ◌*◌, ◌^◌, ℕ, zero, suc, true, false, Bool, List, [], ◌∷◌, ◌++◌, length, map, Some, None, refl, sym, ap, subst, ◌∙◌, arith, append_assoc, append-nil, nat_le, nat_lt, ◌==◌, All, length-append, if◌then◌else◌}
use Rattle.std.specs.Prelude.{◌&&◌, ◌||◌}
use Rattle.std.specs.List.{flat_map}
use Rattle.std.proofs.lemmas.Bool.{and_parts, and_from, or_left, or_right}
use Rattle.std.proofs.lemmas.Bool.Decides.{nat_tests}
use Rattle.dash_script.specs.Causes.{each_number}
use Rattle.animator.specs.declared.keys.Key.{Key}
use Rattle.animator.specs.declared.plan.Plan.{Plan}
use Rattle.value_animator.specs.declared.plan.Thing.{Thing}
use Rattle.value_animator.specs.declared.plan.Thing.TheVariants as thing_of
use Rattle.value_animator.specs.declared.plan.Values.{Values}
use Rattle.value_animator.specs.declared.row.RowKind.{RowKind}
use Rattle.value_animator.specs.declared.row.RowKind.TheVariants as kind
use Rattle.value_animator.specs.declared.row.Row.{Row}
use Rattle.value_animator.specs.declared.draft.Stage.TheVariants.{Headed, Body, Ended}
use Rattle.animator.specs.Plans.{IsKey, IsPlan, rise, rise_from}
use Rattle.value_animator.specs.Plans.{IsThing, AreValues}
use Rattle.value_animator.specs.Reading.{SoFar, empty_so_far, with_row, numbers_fit, last_place, may_be_placed}
use Rattle.std.specs.List.{AllByRecursion}
use Rattle.value_animator.specs.Plans.{key_row, thing_rows, rows, values_text}
use Rattle.value_animator.specs.Reading.{plans}
use Rattle.value_animator.specs.Reading.{say_row}
use Rattle.line_words.specs.RefusedReading.{read_text, run}
use Rattle.line_words.proofs.Refusing.{answer}
use Rattle.line_words.proofs.RefusedLines.{texts_run}
use Rattle.value_animator.proofs.Lines.{IsGood}
use Rattle.value_animator.proofs.Rows.{IsWhole}
use Rattle.value_animator.proofs.Running.{Leads, leads-append, leads_run, spelled}

-- a number within its limits passes their test
test_is : (low high n : ℕ) → low ≤ n → n ≤ high → (nat_le low n && nat_le n high) ≡ true
test_is low high n a b = and_from _ _ (le_test low n a) (le_test n high b)
  where
    le_test : (m n : ℕ) → m ≤ n → nat_le m n ≡ true
    le_test m n le = grind (arith, nat_tests)

one_fits : (a : Bool) → a ≡ true → (a && true) ≡ true
one_fits a h = and_from _ _ h refl

key_numbers : (at value : ℕ) → at ≤ 1000 → value ≤ 1000000 → numbers_fit kind.Key (at ∷ value ∷ []) ≡ true
unfolding each_number
key_numbers at value a b =
    and_from _ _ (test_is 0 1000 at (omega arith) a) (one_fits _ (test_is 0 1000000 value (omega arith) b))

countdown_numbers : (total interval : ℕ) → total ≤ 60000 → 0 < interval → interval ≤ 60000 → numbers_fit kind.Countdown (total ∷ interval ∷ []) ≡ true
unfolding each_number
countdown_numbers total interval a some b =
    and_from _ _ (test_is 0 60000 total (omega arith) a) (one_fits _ (test_is 1 60000 interval (omega arith) b))

period_numbers : (period : ℕ) → 1000000 ≤ period → period ≤ 1000000000 → numbers_fit kind.Period (period ∷ []) ≡ true
unfolding each_number
period_numbers period a b = one_fits _ (test_is 1000000 1000000000 period a b)

way_numbers : (k : RowKind) (p : Plan) → IsPlan p
    → ((nat_le 0 p.delay && nat_le p.delay 60000) && ((nat_le 1 p.duration && nat_le p.duration 60000) && ((nat_le 0 p.repeats && nat_le p.repeats 99) && true))) ≡ true
way_numbers k p h =
    let some : 0 < p.duration = h.some_duration in
    and_from _ _ (test_is 0 60000 p.delay (omega arith) h.delay)
    (and_from _ _ (test_is 1 60000 p.duration (omega arith) h.duration) (one_fits _ (test_is 0 99 p.repeats (omega arith) h.repeats)))

-- ---- keys

-- the draft between things
abbrev pub between : ℕ → List Thing → SoFar
between period things = record { period = period; things = things; open_plan = None; stage = Body }

-- the draft behind some keys of an animator
abbrev pub behind : ℕ → List Thing → Plan → List Key → SoFar
behind period things p done = record { period = period; things = things; open_plan = Some (record p { keys = done }); stage = Body }

pub last_place-push : (ks : List Key) (k : Key) → last_place (ks ++ k ∷ []) ≡ k.at
last_place-push [] k = refl
last_place-push (x ∷ []) k = refl
last_place-push (x ∷ y ∷ ks) k = last_place-push (y ∷ ks) k

placed_after : (ks : List Key) (k : Key) (place : ℕ) → may_be_placed (ks ++ k ∷ []) place ≡ nat_lt k.at place
placed_after [] k place = refl
placed_after (x ∷ xs) k place = ap (λ n. nat_lt n place) (last_place-push (x ∷ xs) k)

pub lt_test : (m n : ℕ) → m < n → nat_lt m n ≡ true
lt_test m n lt = grind (arith, nat_tests)

lt_is : (m n : ℕ) → nat_lt m n ≡ true → m < n
lt_is m n h = grind (arith, nat_tests)

other_place : (m : ℕ) → m < 1000 → (m == 1000) ≡ false
other_place m lt = grind (arith, nat_tests)

key_good : (period : ℕ) (things : List Thing) (p : Plan) (done : List Key) (k : Key) → IsKey k → may_be_placed done k.at ≡ true → (nat_lt (length done) 15 || k.at == 1000) ≡ true
    → IsGood (behind period things p done) (key_row k)
key_good period things p done k h placed room =
    record { stands = refl; fits = key_numbers k.at k.value h.place h.value; ways = refl; rises = placed; room = room }

keys_lead : (ks : List Key) (k : Key) (period : ℕ) (things : List Thing) (p : Plan) (done : List Key) → IsKey k → All IsKey ks → may_be_placed done k.at ≡ true
    → rise_from k.at ks ≡ true → length done + length ks + 1 ≤ 16
    → Leads (behind period things p done) (map key_row (k ∷ ks)) (between period (things ++ thing_of.Animator (record p { keys = done ++ k ∷ ks }) ∷ []))
keys_lead [] k period things p done h all placed up few = (
  key_good period things p done k h placed (or_right (nat_lt (length done) 15) (k.at == 1000) up),
  rw up refl,
)
keys_lead (l ∷ ls) k period things p done h all placed up few =
    let two = and_parts (nat_lt k.at l.at) (rise_from l.at ls) up in
    let next : IsKey l = all zero l (omega arith) in
    let high : l.at ≤ 1000 = next.place in
    let lt : k.at < l.at = lt_is k.at l.at two.0 in
    let other : (k.at == 1000) ≡ false = other_place k.at (omega arith) in
    let few_done : length done < 15 = omega arith in
    let more : length (done ++ k ∷ []) + length ls + 1 ≤ 16 = omega (arith, length-append done (k ∷ [])) in
    let rest = keys_lead ls l period things p (done ++ k ∷ []) next (λ i d within. all (suc i) d (omega arith)) (placed_after done k l.at ∙ two.0) two.1 more in
    let whole : (done ++ k ∷ []) ++ l ∷ ls ≡ done ++ k ∷ l ∷ ls = append_assoc done (k ∷ []) (l ∷ ls) in (
      key_good period things p done k h placed (or_left (nat_lt (length done) 15) (k.at == 1000) (lt_test (length done) 15 few_done)),
      rw other (subst (λ ks. Leads (behind period things p (done ++ k ∷ [])) (map key_row (l ∷ ls)) (between period (things ++ thing_of.Animator (record p { keys = ks }) ∷ []))) whole rest),
    )

-- ---- things

-- the numbers of an animator's line
abbrev pub way_list : Plan → List ℕ
way_list p = p.delay ∷ p.duration ∷ p.repeats ∷ []

ways_test : (p : Plan) → IsPlan p → nat_le (p.delay + p.duration * (p.repeats + 1)) 60000 ≡ true
ways_test p h = le_test (p.delay + p.duration * (p.repeats + 1)) 60000 h.end
  where
    le_test : (m n : ℕ) → m ≤ n → nat_le m n ≡ true
    le_test m n le = grind (arith, nat_tests)

start_lead : (period : ℕ) (things : List Thing) (p : Plan) (b : Bool) → p.reverse ≡ b → IsPlan p → length things < 16
    → IsGood (between period things) (say_row (if b then kind.Reverse else kind.Restart) (way_list p))
    × (with_row (between period things) (if b then kind.Reverse else kind.Restart) (way_list p) ≡ behind period things p [])
unfolding each_number
start_lead period things p true e h room = (
  record { stands = refl; fits = way_numbers kind.Reverse p h; ways = ways_test p h; rises = refl; room = lt_test (length things) 16 room },
  ap (λ (r : Bool). record { period = period; things = things; open_plan = Some (record { delay = p.delay; duration = p.duration; repeats = p.repeats; reverse = r; keys = [] }); stage = Body }) (sym e),
)
start_lead period things p false e h room = (
  record { stands = refl; fits = way_numbers kind.Restart p h; ways = ways_test p h; rises = refl; room = lt_test (length things) 16 room },
  ap (λ (r : Bool). record { period = period; things = things; open_plan = Some (record { delay = p.delay; duration = p.duration; repeats = p.repeats; reverse = r; keys = [] }); stage = Body }) (sym e),
)

plan_keys_lead : (period : ℕ) (things : List Thing) (p : Plan) (keys : List Key) → All IsKey keys → length keys ≤ 16 → rise keys ≡ true
    → Leads (behind period things p []) (map key_row keys) (between period (things ++ thing_of.Animator (record p { keys = keys }) ∷ []))
plan_keys_lead period things p [] all few up = absurd cc
plan_keys_lead period things p (k ∷ ks) all few up =
    let two = and_parts (k.at == 0) (rise_from k.at ks) up in
    keys_lead ks k period things p [] (all zero k (omega arith)) (λ i d within. all (suc i) d (omega arith)) two.0 two.1 (omega arith)

thing_lead : (t : Thing) (period : ℕ) (things : List Thing) → IsThing t → length things < 16 → Leads (between period things) (thing_rows t) (between period (things ++ t ∷ []))
thing_lead (thing_of.Countdown total interval) period things h room = (
  record { stands = refl; fits = countdown_numbers total interval h.0 h.1 h.2; ways = refl; rises = refl; room = lt_test (length things) 16 room },
  refl,
)
thing_lead (thing_of.Animator p) period things h room =
    let first = start_lead period things p p.reverse refl h room in (
      first.0,
      subst (λ d. Leads d (map key_row p.keys) (between period (things ++ thing_of.Animator p ∷ []))) (sym first.1)
          (plan_keys_lead period things p p.keys h.keys h.few_keys h.rising),
    )

things_lead : (ts : List Thing) (period : ℕ) (done : List Thing) → All IsThing ts → length done + length ts ≤ 16
    → Leads (between period done) (flat_map thing_rows ts) (between period (done ++ ts))
things_lead [] period done all few = ap (between period) (sym (append-nil done))
things_lead (t ∷ ts) period done all few =
    let one = thing_lead t period done (all zero t (omega arith)) (omega arith) in
    let more : length (done ++ t ∷ []) + length ts ≤ 16 = omega (arith, length-append done (t ∷ [])) in
    let rest = things_lead ts period (done ++ t ∷ []) (λ i d within. all (suc i) d (omega arith)) more in
    leads-append (thing_rows t) (flat_map thing_rows ts) (between period done) (between period (done ++ t ∷ [])) (between period (done ++ t ∷ ts)) one
    (subst (λ l. Leads (between period (done ++ t ∷ [])) (flat_map thing_rows ts) (between period l)) (append_assoc done (t ∷ []) ts) rest)

-- ---- all

head_good : IsGood empty_so_far (say_row kind.Head [])
unfolding each_number
head_good = record { stands = refl; fits = refl; ways = refl; rises = refl; room = refl }

end_good : (period : ℕ) (things : List Thing) → IsGood (between period things) (say_row kind.End [])
unfolding each_number
end_good period things = record { stands = refl; fits = refl; ways = refl; rises = refl; room = refl }

abbrev pub at_end : Values → SoFar
at_end v = record { period = v.period; things = v.things; open_plan = None; stage = Ended }

pub rows_lead : (v : Values) → AreValues v → Leads empty_so_far (rows v) (at_end v)
rows_lead v h =
    let period_good : IsGood (record { period = 0; things = []; open_plan = None; stage = Headed }) (say_row kind.Period (v.period ∷ [])) =
    record { stands = refl; fits = period_numbers v.period h.low h.high; ways = refl; rises = refl; room = refl } in
    let things = things_lead v.things v.period [] h.things (omega (arith, h.few_things)) in
    let to_end : Leads (between v.period v.things) (say_row kind.End [] ∷ []) (at_end v) = (end_good v.period v.things, refl) in
    (head_good, (period_good, leads-append (flat_map thing_rows v.things) (say_row kind.End [] ∷ []) (between v.period []) (between v.period v.things) (at_end v) things to_end))

pub rows_run : (v : Values) → AreValues v → run plans 1 empty_so_far (rows v) ≡ answer v
rows_run v h = leads_run (rows v) 1 empty_so_far (at_end v) (rows_lead v h) refl

-- ---- the rows are whole

small : (n : ℕ) → n ≤ 1000000000 → n < 2 ^ 64
small n le = omega arith

keys_whole : (ks : List Key) → All IsKey ks → AllByRecursion IsWhole (map key_row ks)
keys_whole [] all = tt
keys_whole (k ∷ ks) all =
    let h : IsKey k = all zero k (omega arith) in
    let place : k.at ≤ 1000 = h.place in
    let value : k.value ≤ 1000000 = h.value in
    ((refl, (small k.at (omega arith), (small k.value (omega arith), tt))), keys_whole ks (λ i d within. all (suc i) d (omega arith)))

whole-append : (xs ys : List Row) → AllByRecursion IsWhole xs → AllByRecursion IsWhole ys → AllByRecursion IsWhole (xs ++ ys)
whole-append [] ys h more = more
whole-append (x ∷ xs) ys h more = (h.0, whole-append xs ys h.1 more)

plan_whole : (p : Plan) (b : Bool) → IsPlan p → IsWhole (say_row (if b then kind.Reverse else kind.Restart) (way_list p))
plan_whole p true h =
    let a : p.delay ≤ 60000 = h.delay in let b : p.duration ≤ 60000 = h.duration in let c : p.repeats ≤ 99 = h.repeats in
    (refl, (small p.delay (omega arith), (small p.duration (omega arith), (small p.repeats (omega arith), tt))))
plan_whole p false h =
    let a : p.delay ≤ 60000 = h.delay in let b : p.duration ≤ 60000 = h.duration in let c : p.repeats ≤ 99 = h.repeats in
    (refl, (small p.delay (omega arith), (small p.duration (omega arith), (small p.repeats (omega arith), tt))))

thing_whole : (t : Thing) → IsThing t → AllByRecursion IsWhole (thing_rows t)
thing_whole (thing_of.Countdown total interval) h =
    let a : total ≤ 60000 = h.0 in let b : interval ≤ 60000 = h.2 in
    ((refl, (small total (omega arith), (small interval (omega arith), tt))), tt)
thing_whole (thing_of.Animator p) h = (plan_whole p p.reverse h, keys_whole p.keys h.keys)

things_whole : (ts : List Thing) → All IsThing ts → AllByRecursion IsWhole (flat_map thing_rows ts)
things_whole [] all = tt
things_whole (t ∷ ts) all =
    whole-append (thing_rows t) (flat_map thing_rows ts) (thing_whole t (all zero t (omega arith))) (things_whole ts (λ i d within. all (suc i) d (omega arith)))

rows_whole : (v : Values) → AreValues v → AllByRecursion IsWhole (rows v)
rows_whole v h =
    let high : v.period ≤ 1000000000 = h.high in
    ((refl, tt), ((refl, (small v.period high, tt)), whole-append (flat_map thing_rows v.things) (say_row kind.End [] ∷ []) (things_whole v.things h.things) ((refl, tt), tt)))

-- the text of values within the limits is read as theirs
pub texts_are_read : (v : Values) → AreValues v → read_text plans (values_text v) ≡ answer v
texts_are_read v h = texts_run spelled 1 empty_so_far (rows v) (rows_whole v h) ∙ rows_run v h
