-- What the steps of the top call answer.
use Rattle.std.specs.Prelude.{ℕ, List, ◌≡◌, ◌+◌, ◌≤◌, length}
use Rattle.std.specs.Io.KnownBytes.{Consumes}
use Rattle.dashboard_cli.specs.Works.{ToldBytes, Input, Work}
use Rattle.dashboard_cli.specs.declared.making.Product.{Product}
use Rattle.dashboard_cli.specs.declared.status.Status.{Status}
use Rattle.dashboard_cli.specs.declared.status.Status.TheVariants.{Script, ReadFault, NoMemory, TooLong, Trace}
use Rattle.dashboard_cli.specs.Answers.{MakesOf, IsRefused, IsTooLong, ReadsAtMost}

-- the text, and what is returned beside it, are what this work makes of its input
abbrev pub MakesProduct : Work → ToldBytes → ToldBytes → Product → Type 0
MakesProduct work before after product = MakesOf work before after product.text.items product.returned

-- why a command stopped before its text was made
abbrev pub StopsBeforeText : Input → ToldBytes → ToldBytes → Status → Type 0
StopsBeforeText wanted before after ReadFault = ReadsAtMost wanted.most before after
StopsBeforeText wanted before after TooLong = IsTooLong wanted.most before after
StopsBeforeText wanted before after (Script line cause) = IsRefused wanted before after (Script line cause)
StopsBeforeText wanted before after (Trace line) = IsRefused wanted before after (Trace line)
StopsBeforeText wanted before after NoMemory = ReadsAtMost wanted.most before after
StopsBeforeText wanted before after status = ⊥

-- so many bytes and one more were read
abbrev pub ReadsPast : ℕ → ToldBytes → ToldBytes → Type 0
ReadsPast most before after = (input : List ℕ) × Consumes before after input × (length input ≡ most + 1)

-- no more bytes were read than these
abbrev pub ReadsWithin : ℕ → ToldBytes → ToldBytes → Type 0
ReadsWithin most before after = (input : List ℕ) × Consumes before after input × (length input ≤ most)

-- why an input was not read whole
abbrev pub StopsReading : ℕ → ToldBytes → ToldBytes → Status → Type 0
StopsReading most before after ReadFault = ReadsWithin most before after
StopsReading most before after TooLong = ReadsPast most before after
StopsReading most before after NoMemory = ReadsWithin most before after
StopsReading most before after status = ⊥

-- the status refuses the input, which is none that is taken, or there was no memory
abbrev pub IsRefusedInput : Input → List ℕ → Status → Type 0
IsRefusedInput wanted input NoMemory = Unit {0}
IsRefusedInput wanted input status = wanted.Refuses input status × (wanted.Takes input → ⊥)
