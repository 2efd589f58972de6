-- Lists of messages that wait to be handed out.
use Rattle.std.specs.Prelude.{◌+◌, ◌^◌, List, [], ◌∷◌, ◌++◌, length, nat_lt, if◌then◌else◌}

-- what waits once these have been dropped too; the earlier ones are let go where a list can't count both
abbrev pub joined : {X : Type 0} → List X → List X → List X
joined ds [] = ds
joined ds (e ∷ es) = if nat_lt (length ds + length (e ∷ es)) (2 ^ 64) then ds ++ e ∷ es else e ∷ es
