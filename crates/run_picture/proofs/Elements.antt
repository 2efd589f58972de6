-- Elements one after the other.
use Rattle.std.proofs.Common.{◌≡◌, ◌<◌, ◌≤◌, ◌+◌, ℕ, List, ◌∷◌, ◌++◌, length, get_or, drop, Option, Some, None, refl, sym, ap, subst, ◌∙◌, append_assoc}
use Rattle.std.proofs.lemmas.List.{drop_more, drop_all}
use Rattle.run_picture.specs.declared.group.Group.{Group}
use Rattle.run_picture.specs.declared.shelf.Shelf.{Shelf}
use Rattle.run_picture.specs.Drawn.{AreElements, HasNoElement, IsElement}
use Rattle.run_picture.specs.Rows.{IsRowOf, StandsBehind, level}

-- the elements of the groups from number i on, behind what is written, make those of all groups
abbrev pub Leads : ℕ → List Group → List ℕ → ℕ → Option Shelf → List ℕ → Type 0
Leads most gs start i last out = (after : List ℕ) → AreElements most last (drop i gs) out after → AreElements most None gs start after

-- one element more
pub element_more : (most : ℕ) (gs : List Group) (start : List ℕ) (i : ℕ) (d : Group) (last : Option Shelf) (s : Shelf) (g : Group) (y : ℕ) (shape before between : List ℕ) → i < length gs
    → Leads most gs start i last before → g ≡ get_or gs i d → IsRowOf g s → StandsBehind last s → HasNoElement shape → y ≡ level most s g g.place.row → IsElement g y shape before between
    → Leads most gs start (i + 1) (Some s) between
element_more most gs start i d last s g y shape before between lt lead is row behind flat high one after rest =
    let here : drop i gs ≡ g ∷ drop (i + 1) gs = drop_more gs i d lt ∙ ap (λ h. h ∷ drop (i + 1) gs) (sym is) in
    lead after (subst (λ l. AreElements most last l before after) (sym here) (s, shape, between, row, behind, flat, subst (λ z. IsElement g z shape before between) high one, rest))

-- no group is left
pub elements_all : (most : ℕ) (gs : List Group) (start : List ℕ) (i : ℕ) (last : Option Shelf) (out : List ℕ) → length gs ≤ i → Leads most gs start i last out → AreElements most None gs start out
elements_all most gs start i last out le lead = lead out (subst (λ l. AreElements most last l out out) (sym (drop_all i gs le)) refl)

-- five pieces, written one after the other
pub five : (was p q r s t a b d e after : List ℕ) → a ≡ was ++ p → b ≡ a ++ q → d ≡ b ++ r → e ≡ d ++ s → after ≡ e ++ t → after ≡ was ++ (p ++ q ++ r ++ s ++ t)
five was p q r s t a b d e after ea eb ed ee et =
    let two : b ≡ was ++ (p ++ q) = eb ∙ ap (λ l. l ++ q) ea ∙ append_assoc was p q in
    let three : d ≡ was ++ (p ++ q ++ r) = ed ∙ ap (λ l. l ++ r) two ∙ append_assoc was (p ++ q) r in
    let four : e ≡ was ++ (p ++ q ++ r ++ s) = ee ∙ ap (λ l. l ++ s) three ∙ append_assoc was (p ++ q ++ r) s in
    et ∙ ap (λ l. l ++ t) four ∙ append_assoc was (p ++ q ++ r ++ s) t
