-- What the limits of a line's numbers say.
use Rattle.std.proofs.Common.{◌≡◌, ℕ, ◌<◌, ◌≤◌, ◌^◌, List, true, arith, nat_le, IsTrue}
use Rattle.std.specs.Prelude.{◌&&◌, slice_index}
use Rattle.std.proofs.lemmas.Bool.{and_parts}
use Rattle.std.proofs.lemmas.Bool.Decides.{nat_tests}
use Rattle.dash_script.specs.Causes.{each_number}
use Rattle.value_animator.specs.declared.row.RowKind.{RowKind}
use Rattle.value_animator.specs.declared.row.RowKind.TheVariants as kind
use Rattle.value_animator.specs.declared.plan.Thing.TheVariants as thing_of
use Rattle.animator.specs.Plans.{IsKey}
use Rattle.value_animator.specs.Plans.{IsThing}
use Rattle.value_animator.specs.Reading.{numbers_fit, key_of}

within_is : (low high n : ℕ) → (nat_le low n && nat_le n high) ≡ true → (low ≤ n) × (n ≤ high)
within_is low high n h =
    let p = and_parts (nat_le low n) (nat_le n high) h in
    (le_is low n p.0, le_is n high p.1)
  where
    le_is : (m n : ℕ) → nat_le m n ≡ true → m ≤ n
    le_is m n h = grind (arith, nat_tests)

pub key_fits : (ns : List ℕ) → numbers_fit kind.Key ns ≡ true → IsKey (key_of ns)
unfolding each_number
key_fits ns h =
    let p = and_parts (nat_le 0 (slice_index ns 0) && nat_le (slice_index ns 0) 1000) ((nat_le 0 (slice_index ns 1) && nat_le (slice_index ns 1) 1000000) && true) h in
    let q = and_parts (nat_le 0 (slice_index ns 1) && nat_le (slice_index ns 1) 1000000) true p.1 in
    record { place = (within_is 0 1000 (slice_index ns 0) p.0).1; value = (within_is 0 1000000 (slice_index ns 1) q.0).1 }

pub countdown_fits : (ns : List ℕ) → numbers_fit kind.Countdown ns ≡ true → IsThing (thing_of.Countdown (slice_index ns 0) (slice_index ns 1))
unfolding each_number
countdown_fits ns h =
    let p = and_parts (nat_le 0 (slice_index ns 0) && nat_le (slice_index ns 0) 60000) ((nat_le 1 (slice_index ns 1) && nat_le (slice_index ns 1) 60000) && true) h in
    let q = and_parts (nat_le 1 (slice_index ns 1) && nat_le (slice_index ns 1) 60000) true p.1 in
    let a = within_is 0 60000 (slice_index ns 0) p.0 in
    let b = within_is 1 60000 (slice_index ns 1) q.0 in
    let some : 0 < slice_index ns 1 = let low : 1 ≤ slice_index ns 1 = b.0 in omega arith in
    (a.1, some, b.1)

-- the numbers of an animator's line
pub record WayFits (ns : List ℕ) : Type 0 where
  pub delay : slice_index ns 0 ≤ 60000
  pub some_duration : 0 < slice_index ns 1
  pub duration : slice_index ns 1 ≤ 60000
  pub repeats : slice_index ns 2 ≤ 99

way_fits : (ns : List ℕ)
    → ((nat_le 0 (slice_index ns 0) && nat_le (slice_index ns 0) 60000) && ((nat_le 1 (slice_index ns 1) && nat_le (slice_index ns 1) 60000) && ((nat_le 0 (slice_index ns 2) && nat_le (slice_index ns 2) 99) && true))) ≡ true
    → WayFits ns
way_fits ns h =
    let p = and_parts (nat_le 0 (slice_index ns 0) && nat_le (slice_index ns 0) 60000) ((nat_le 1 (slice_index ns 1) && nat_le (slice_index ns 1) 60000) && ((nat_le 0 (slice_index ns 2) && nat_le (slice_index ns 2) 99) && true)) h in
    let q = and_parts (nat_le 1 (slice_index ns 1) && nat_le (slice_index ns 1) 60000) ((nat_le 0 (slice_index ns 2) && nat_le (slice_index ns 2) 99) && true) p.1 in
    let r = and_parts (nat_le 0 (slice_index ns 2) && nat_le (slice_index ns 2) 99) true q.1 in
    let b = within_is 1 60000 (slice_index ns 1) q.0 in
    let some : 0 < slice_index ns 1 = let low : 1 ≤ slice_index ns 1 = b.0 in omega arith in
    record {
      delay = (within_is 0 60000 (slice_index ns 0) p.0).1;
      some_duration = some;
      duration = b.1;
      repeats = (within_is 0 99 (slice_index ns 2) r.0).1;
    }

pub restart_fits : (ns : List ℕ) → numbers_fit kind.Restart ns ≡ true → WayFits ns
unfolding each_number
restart_fits ns h = way_fits ns h

pub reverse_fits : (ns : List ℕ) → numbers_fit kind.Reverse ns ≡ true → WayFits ns
unfolding each_number
reverse_fits ns h = way_fits ns h

pub period_fits : (ns : List ℕ) → numbers_fit kind.Period ns ≡ true → (1000000 ≤ slice_index ns 0) × (slice_index ns 0 ≤ 1000000000)
unfolding each_number
period_fits ns h =
    let p = and_parts (nat_le 1000000 (slice_index ns 0) && nat_le (slice_index ns 0) 1000000000) true h in
    within_is 1000000 1000000000 (slice_index ns 0) p.0

-- ---- what the code takes as 32 bits

pub repeats_narrow : (k : RowKind) (ns : List ℕ) → k ≡ kind.Restart → IsTrue (numbers_fit k ns) → slice_index ns 2 < 2 ^ 32
repeats_narrow k ns e h = let few : slice_index ns 2 ≤ 99 = (restart_fits ns (rw e at h)).repeats in omega arith

pub repeats_narrow_back : (k : RowKind) (ns : List ℕ) → k ≡ kind.Reverse → IsTrue (numbers_fit k ns) → slice_index ns 2 < 2 ^ 32
repeats_narrow_back k ns e h = let few : slice_index ns 2 ≤ 99 = (reverse_fits ns (rw e at h)).repeats in omega arith

pub place_narrow : (k : RowKind) (ns : List ℕ) → k ≡ kind.Key → IsTrue (numbers_fit k ns) → slice_index ns 0 < 2 ^ 32
place_narrow k ns e h = let few : slice_index ns 0 ≤ 1000 = (key_fits ns (rw e at h)).place in omega arith

pub value_narrow : (k : RowKind) (ns : List ℕ) → k ≡ kind.Key → IsTrue (numbers_fit k ns) → slice_index ns 1 < 2 ^ 32
value_narrow k ns e h = let few : slice_index ns 1 ≤ 1000000 = (key_fits ns (rw e at h)).value in omega arith
