-- What reading a text line by line may stop with.
use Rattle.std.specs.Prelude.{◌≡◌, ℕ, Result, Ok, Err}
use Rattle.line_words.specs.declared.reader.Stop.{Stop}
use Rattle.line_words.specs.declared.reader.Stop.TheVariants as stop

-- reading stopped for this reason, or when out of memory
abbrev pub Stops : {T C : Type 0} → Stop C → Result T (ℕ × C) → Type 0
Stops (stop.Bad line c) read = read ≡ Err (line, c)
Stops stop.Memory read = Unit {0}

-- what was read, or why reading stopped
abbrev pub Reads : {T C : Type 0} → Result T (Stop C) → Result T (ℕ × C) → Type 0
Reads (Ok t) read = read ≡ Ok t
Reads (Err e) read = Stops e read
