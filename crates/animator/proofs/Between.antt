-- Keys, and values between them.
use Rattle.std.proofs.Common.{◌≡◌, ℕ, zero, suc, ◌+◌, ◌-◌, ◌*◌, ◌/◌, ◌<◌, ◌≤◌, List, [], ◌∷◌, length, refl, arith, true, false, slice_index_or, subst, sym, All, drop, get_or, add-one, IsTrue, ◌==◌, ◌%◌}
use Rattle.std.proofs.Math.Seq.{drop-cons}
use Rattle.std.proofs.Math.Nat.{mul_comm, mul-sub, div-le_of_le-mul, mul-le-mul_left}
use Rattle.animator.specs.declared.keys.Key.{Key}
use Rattle.animator.specs.Valuing.{last_value, is_around, value_among, value_at, end_value}
use Rattle.animator.specs.declared.plan.Plan.{Plan}
use Rattle.std.proofs.lemmas.Bool.Decides.{nat_tests}
use Rattle.animator.specs.Plans.{IsKey, rise}

-- the key at the last place is the last
pub last_at : (ks : List Key) (i : ℕ) (d : Key) → i + 1 ≡ length ks → (slice_index_or ks i d).value ≡ last_value ks
last_at [] i d e = absurd (omega arith)
last_at (k ∷ []) zero d e = refl
last_at (k ∷ []) (suc i) d e = absurd (omega arith)
last_at (k ∷ l ∷ ks) zero d e = absurd (omega arith)
last_at (k ∷ l ∷ ks) (suc i) d e = last_at (l ∷ ks) i d (omega arith)

-- rising keys are at least two
pub some_keys : (ks : List Key) → IsTrue (rise ks) → 0 < length ks
some_keys [] h = cc
some_keys (k ∷ ks) h = omega arith

-- the key before the end is the last
pub last_of : (ks given : List Key) (d : Key) → IsTrue (rise ks) → given ≡ ks → (slice_index_or given (length given - 1) d).value ≡ last_value ks
last_of ks given d h e =
    let some : 0 < length ks = some_keys ks h in
    let at : (slice_index_or ks (length ks - 1) d).value ≡ last_value ks = last_at ks (length ks - 1) d (omega arith) in
    rw e at

-- the way between two keys around a position is not empty
pub whole_is : (a b d : ℕ) → (b - a) * d ≡ b * d - a * d
whole_is a b d =
    let one : (b - a) * d ≡ d * (b - a) = mul_comm (b - a) d in
    let two : d * (b - a) ≡ d * b - d * a = mul-sub d b a in
    let three : d * b ≡ b * d = mul_comm d b in
    let four : d * a ≡ a * d = mul_comm d a in
    omega arith

pub some_whole : (a b d p : ℕ) → a * d ≤ p → p < b * d → 0 < (b - a) * d
some_whole a b d p after before = let e : (b - a) * d ≡ b * d - a * d = whole_is a b d in omega arith

-- a part of the distance is no more than it
pub step_within : (a b d p n : ℕ) → a * d ≤ p → p < b * d → n * (p - a * d) / ((b - a) * d) ≤ n
step_within a b d p n after before =
    let e : (b - a) * d ≡ b * d - a * d = whole_is a b d in
    let part : p - a * d ≤ (b - a) * d = omega arith in
    let more : n * (p - a * d) ≤ n * ((b - a) * d) = mul-le-mul_left n part in
    let turned : n * ((b - a) * d) ≡ ((b - a) * d) * n = mul_comm n ((b - a) * d) in
    let whole : n * (p - a * d) ≤ ((b - a) * d) * n = omega arith in
    div-le_of_le-mul ((b - a) * d) whole

-- a key behind the first is a key
pub key_behind : (keys rest : List Key) (first : Key) (i : ℕ) (d : Key) → All IsKey keys → keys ≡ first ∷ rest → i < length rest
    → IsKey (slice_index_or rest i d)
key_behind keys rest first i d all e lt =
    let whole : All IsKey (first ∷ rest) = subst (λ ks. All IsKey ks) e all in
    let within : suc i < length (first ∷ rest) = omega arith in
    whole (suc i) d within

-- where the next key isn't behind the position, the value is among the later ones
pub among_next : (d p : ℕ) (from : Key) (rest : List Key) (i : ℕ) (k : Key) (v : ℕ) → i < length rest
    → is_around d p from (slice_index_or rest i k) ≡ false → value_among d p (from ∷ drop i rest) ≡ v
    → value_among d p (slice_index_or rest i k ∷ drop (i + 1) rest) ≡ v
among_next d p from rest i k v lt test e =
    let split : drop i rest ≡ get_or rest i k ∷ drop (suc i) rest = drop-cons rest i k lt in
    let opened : value_among d p (from ∷ get_or rest i k ∷ drop (suc i) rest) ≡ v = subst (λ ks. value_among d p (from ∷ ks) ≡ v) split e in
    let later : value_among d p (get_or rest i k ∷ drop (suc i) rest) ≡ v = rw test at opened in
    let n : i + 1 ≡ suc i = add-one i in
    subst (λ m. value_among d p (get_or rest i k ∷ drop m rest) ≡ v) (sym n) later

-- at the end of the way the value is the last key's
pub by_last : (plan : Plan) (p v : ℕ) → p ≡ plan.duration → v ≡ last_value plan.keys → v ≡ value_at plan p
by_last plan p v e last = let test : (p == plan.duration) ≡ true = grind (arith, nat_tests) in rw test last

-- the last key's value stays where the last way goes forwards
pub stays_without : (plan : Plan) → plan.reverse ≡ false → last_value plan.keys ≡ end_value plan
stays_without plan e = rw e refl

pub stays_forwards : (plan : Plan) → plan.reverse ≡ true → (plan.repeats % 2 ≡ 1 → ⊥) → last_value plan.keys ≡ end_value plan
stays_forwards plan e no_ = let test : (plan.repeats % 2 == 1) ≡ false = grind (arith, nat_tests) in rw (e, test) refl
