-- A pulse's stamp in milliseconds, rounded up.
use Rattle.std.proofs.Common.{◌≡◌, ℕ, ◌+◌, ◌/◌, ◌%◌, Option, Some, None, sym, ap, ◌∙◌, arith}
use Rattle.std.specs.Prelude.{min}
use Rattle.std.specs.Option.{option_map}
use Rattle.std.proofs.lemmas.Grind.{div_ceil_times}
use Rattle.std.proofs.Math.Nat.{div-eq_of_lt-le}
use Rattle.run_model.specs.FrameRecords.{millis_up}

-- a quotient that is rounded up is that of the number and a million less one
pub rounded_up : (stamp time : ℕ) → time ≡ stamp / 1000000 + min 1 (stamp % 1000000) → millis_up stamp ≡ time
rounded_up stamp time is =
    let b = div_ceil_times stamp 1000000 (omega arith) in
    let low = b.0 in
    let high = b.1 in
    div-eq_of_lt-le {k = time} 1000000 {m = stamp + 999999} (omega (arith, is, high)) (omega (arith, is, low))

-- where none was asked for, the answer is none; else it is the stamp, rounded up
pub none_rounded : (stamp pulse : Option ℕ) → stamp ≡ None → pulse ≡ None → pulse ≡ option_map millis_up stamp
none_rounded stamp pulse none is = is ∙ sym (ap (option_map millis_up) none)

pub some_rounded : (stamp : Option ℕ) (n time : ℕ) → stamp ≡ Some n → time ≡ n / 1000000 + min 1 (n % 1000000) → Some time ≡ option_map millis_up stamp
some_rounded stamp n time some is = sym (ap (option_map millis_up) some ∙ ap (λ (t : ℕ). Some t) (rounded_up n time is))
