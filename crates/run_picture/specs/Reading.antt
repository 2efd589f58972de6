-- What words say of a message.
use Rattle.std.specs.Prelude.{ℕ, ◌^◌, List, codes, Option, Some, None, if◌then◌else◌}
use Rattle.std.specs.Option.{option_map}
use Rattle.std.specs.Str.{bytes_eq}
use Rattle.line_words.specs.Words.{spelled_number}
use Rattle.line_words.specs.Taking.{Rest, read, and_then, word, below, long}
use Rattle.run_picture.specs.declared.report.Subject.{Subject}
use Rattle.run_picture.specs.declared.report.Subject.TheVariants.{What, Callback}

-- a callback's number behind this word
abbrev pub callback : List ℕ → Rest → Option (Subject × Rest)
callback w rest = if bytes_eq w (codes "callback") then and_then (long rest) (λ c more. Some (Callback c, more)) else None

-- a number is a what, and other words begin a callback
abbrev pub subject_by : List ℕ → Option ℕ → Rest → Option (Subject × Rest)
subject_by w (Some n) rest = read (option_map What (below (2 ^ 32) n)) rest
subject_by w None rest = callback w rest

-- a message by its what, or by its callback
unfoldable pub subject : Rest → Option (Subject × Rest)
subject rest = and_then (word rest) (λ w more. subject_by w (spelled_number w) more)
