-- What was read of a source that wasn't read whole.
use Rattle.std.specs.Prelude.{◌≡◌, ℕ, ◌+◌, ◌<◌, ◌≤◌, List, length, ◌↔◌}
use Rattle.std.specs.Io.KnownBytes.{Consumes}
use Rattle.dashboard_cli.specs.declared.reading.ReadError.{ReadError}
use Rattle.dashboard_cli.specs.declared.reading.ReadError.TheVariants.{Failed, TooLong}
use Rattle.loop_io.specs.Causes.{one_more}
use Rattle.dashboard_cli.specs.Works.{ToldBytes}

-- some bytes were read, at most one more than the limit, and one more exactly where the input is too long
pub record ReadsPart (most : ℕ) (before after : ToldBytes) (error : ReadError) : Type 0 where
  pub input : List ℕ
  pub consumed : Consumes before after input
  pub bounded : length input ≤ most + 1
  pub too_long : (error ≡ TooLong) ↔ (most < length input)

-- where a read failed, the source counted one fault, and else none
abbrev pub CountsFault : ReadError → ℕ → ℕ → Type 0
CountsFault Failed before now = now ≡ one_more before
CountsFault error before now = now ≡ before
