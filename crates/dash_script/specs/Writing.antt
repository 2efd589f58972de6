-- What stands before a word of a line, and how many numbers a form takes.
use Rattle.std.specs.Prelude.{ℕ, ◌+◌, Bool, true, false, List, [], ◌∷◌}
use Rattle.dash_script.specs.declared.form.Slot.{Slot}
use Rattle.dash_script.specs.declared.form.Slot.TheVariants.{Word, Number}

-- what stands before a word
abbrev pub separator : Bool → List ℕ
separator true = []
separator false = 32 ∷ []

-- how many words of a form are numbers
abbrev pub hole_count : List Slot → ℕ
hole_count [] = 0
hole_count (Word w ∷ slots) = hole_count slots
hole_count (Number r ∷ slots) = hole_count slots + 1
