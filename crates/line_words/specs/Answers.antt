-- What a reader answers of a text: what it is the text of, its refusal, or that there was no memory.
use Rattle.std.specs.Prelude.{◌≡◌, ◌⊎◌, ℕ, List}

-- something is found only where the bytes are its text
abbrev pub Finds : {P T : Type 0} → (T → P) → (List ℕ → T → Type 0) → P → List ℕ → Type 0
Finds {P} {T} ok IsText p b = (t : T) → p ≡ ok t → IsText b t

-- the text of something is found to be that, unless memory ran out
abbrev pub FindsAll : {P T : Type 0} → (T → P) → P → (List ℕ → T → Type 0) → P → List ℕ → Type 0
FindsAll {P} {T} ok memory IsText p b = (t : T) → IsText b t → (p ≡ ok t) ⊎ (p ≡ memory)

-- a line is named only where it is the least bad one
abbrev pub Names : {P : Type 0} → (ℕ → P) → (List ℕ → ℕ → Type 0) → P → List ℕ → Type 0
Names bad IsLeastBad p b = (line : ℕ) → p ≡ bad line → IsLeastBad b line

-- so it is where a cause is answered beside the line
abbrev pub NamesSo : {P C : Type 0} → (ℕ → C → P) → (List ℕ → ℕ → Type 0) → P → List ℕ → Type 0
NamesSo {P} {C} bad IsLeastBad p b = (line : ℕ) (c : C) → p ≡ bad line c → IsLeastBad b line

-- a line and a cause are answered only where they are the refusal, and the text is that of nothing
abbrev pub Refuses : {P T C : Type 0} → (ℕ → C → P) → (List ℕ → ℕ → C → Type 0) → (List ℕ → T → Type 0) → P → List ℕ → Type 0
Refuses {P} {T} {C} bad IsRefusal IsText p b = (line : ℕ) (c : C) → p ≡ bad line c → IsRefusal b line c × ((t : T) → IsText b t → ⊥)

-- the refusal of a text is answered, unless memory ran out
abbrev pub RefusesAll : {P C : Type 0} → (ℕ → C → P) → P → (List ℕ → ℕ → C → Type 0) → P → List ℕ → Type 0
RefusesAll {P} {C} bad memory IsRefusal p b = (line : ℕ) (c : C) → IsRefusal b line c → (p ≡ bad line c) ⊎ (p ≡ memory)
