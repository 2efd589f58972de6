-- Lists that lack one element of another, and elements at one place of two lists.
use Rattle.std.proofs.Common.{◌≡◌, ℕ, suc, ◌+◌, ◌<◌, ◌≤◌, inl, inr, List, [], ◌∷◌, ◌++◌, map, length, take, drop, get_or, set, Some, refl, sym, ap, ap₂, ◌∙◌, subst, arith}
use Rattle.std.specs.List.{insert, remove, slice_get}
use Rattle.std.specs.Option.{option_map}
use Rattle.std.proofs.lemmas.List.{map-append, take-map, drop-map, take_at, drop_at, length-take-le, take-append-drop, map-set, set-get_or}
use Rattle.std.proofs.lemmas.List.Edits.{get_or-remove_below, get_or-remove_above, length-remove}
use Rattle.std.proofs.lemmas.Option.{slice_get-map, slice_get_within, get_or_from_slice_get}
use Rattle.std.proofs.Math.Seq.{drop-cons}
use Rattle.dash_loopers.specs.Players.{PlaceWithout}

pub map-remove : {X Y : Type 0} (f : X → Y) (xs : List X) (i : ℕ) → map f (remove xs i) ≡ remove (map f xs) i
map-remove f xs i =
    map-append f (take i xs) (drop (suc i) xs) ∙ ap₂ (λ p q. p ++ q) (sym (take-map f i xs)) (sym (drop-map f (suc i) xs))

pub map-insert : {X Y : Type 0} (f : X → Y) (xs : List X) (i : ℕ) (x : X) → map f (insert xs i x) ≡ insert (map f xs) i (f x)
map-insert f xs i x =
    map-append f (take i xs) (x ∷ drop i xs) ∙ ap₂ (λ p q. p ++ f x ∷ q) (sym (take-map f i xs)) (sym (drop-map f i xs))

-- an element that is taken out and put back at its place
pub insert_removed : {X : Type 0} (xs : List X) (i : ℕ) (x : X) → slice_get xs i ≡ Some x → insert (remove xs i) i x ≡ xs
insert_removed xs i x at =
    let within : i < length xs = slice_get_within xs i x at in
    let few : i ≤ length xs = omega arith in
    let front = take_at (take i xs) (drop (suc i) xs) i (length-take-le i xs few) in
    let back = drop_at (take i xs) (drop (suc i) xs) i (length-take-le i xs few) in
    let head : drop i xs ≡ x ∷ drop (suc i) xs = drop-cons xs i x within ∙ ap (λ y. y ∷ drop (suc i) xs) (get_or_from_slice_get xs i x x at) in
    ap₂ (λ p q. p ++ x ∷ q) front back ∙ (ap (λ l. take i xs ++ l) (sym head) ∙ take-append-drop i xs)

-- the element behind the first ones
pub at_seam : {X : Type 0} (xs : List X) (x : X) (ys : List X) → slice_get (xs ++ x ∷ ys) (length xs) ≡ Some x
at_seam [] x ys = refl
at_seam (y ∷ xs) x ys = at_seam xs x ys

-- what two lists are mapped to agrees at each place
pub at_same : {X Y Z : Type 0} (f : X → Y) (g : Z → Y) (xs : List X) (zs : List Z) (i : ℕ) (x : X) (z : Z) → map f xs ≡ map g zs → slice_get xs i ≡ Some x → slice_get zs i ≡ Some z → f x ≡ g z
at_same f g xs zs i x z e p q =
    let a : Some (f x) ≡ Some (g z) = sym (ap (option_map f) p) ∙ (sym (slice_get-map f xs i) ∙ (ap (λ l. slice_get l i) e ∙ (slice_get-map g zs i ∙ ap (option_map g) q))) in
    let same : f x ≡ g z = cc in
    same

at_without : {Y : Type 0} (zs : List Y) (n place j : ℕ) (y : Y) → n < length zs → PlaceWithout n place j → get_or (remove zs n) j y ≡ get_or zs place y
at_without zs n place j y within (inl p) =
    subst (λ (k : ℕ). get_or (remove zs n) k y ≡ get_or zs place y) (sym p.1) (get_or-remove_below zs n y place p.0 within)
at_without zs n place j y within (inr p) =
    let lt : n < place = p.0 in
    let is : place ≡ j + 1 = p.1 in
    let le : n ≤ j = omega arith in
    get_or-remove_above zs n y j le within ∙ ap (λ (k : ℕ). get_or zs k y) (sym is)

pub at_removed : {Y : Type 0} (ys zs : List Y) (n place j : ℕ) (y z : Y) → ys ≡ remove zs n → n < length zs → PlaceWithout n place j → slice_get ys j ≡ Some y → slice_get zs place ≡ Some z → y ≡ z
at_removed ys zs n place j y z e within w p q =
    sym (get_or_from_slice_get ys j y y p) ∙ (ap (λ l. get_or l j y) e ∙ (at_without zs n place j y within w ∙ get_or_from_slice_get zs place z y q))

pub within_removed : {Y : Type 0} (ys zs : List Y) (n place j : ℕ) → ys ≡ remove zs n → n < length zs → place < length zs → PlaceWithout n place j → j < length ys
within_removed ys zs n place j e within near (inl p) =
    let few : length ys ≡ length (remove zs n) = ap length e in
    let lt : place < n = p.0 in
    let is : j ≡ place = p.1 in
    omega (arith, few, length-remove zs n within)
within_removed ys zs n place j e within near (inr p) =
    let few : length ys ≡ length (remove zs n) = ap length e in
    let is : place ≡ j + 1 = p.1 in
    omega (arith, few, length-remove zs n within)

-- one element is replaced by another that is mapped to the same
pub map_set_same : {X Y : Type 0} (f : X → Y) (xs : List X) (i : ℕ) (x y : X) → slice_get xs i ≡ Some x → f y ≡ f x → map f (set xs i y) ≡ map f xs
map_set_same f xs i x y at e =
    map-set f xs i y ∙ (ap (λ z. set (map f xs) i z) (e ∙ ap f (sym (get_or_from_slice_get xs i x x at))) ∙ (sym (map-set f xs i (get_or xs i x)) ∙ ap (map f) (set-get_or xs i x)))
