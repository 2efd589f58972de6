-- The marks of a window.
use Rattle.std.proofs.Common.{◌≡◌, ◌<◌, ◌≤◌, ◌+◌, ℕ, Bool, true, false, List, [], ◌∷◌, ◌++◌, length, get_or, take, drop, refl, sym, ap, subst, ◌∙◌, Option}
use Rattle.std.specs.List.{AllByRecursion, filter}
use Rattle.std.proofs.lemmas.List.{take_more, drop_all, drop_more}
use Rattle.std.proofs.lemmas.List.Elements.{filter-append}
use Rattle.run_picture.specs.declared.mark.Mark.{Mark}
use Rattle.run_picture.specs.declared.view.Window.{Window}
use Rattle.run_picture.specs.View.{IsSeen, is_seen}
use Rattle.run_picture.specs.Rows.{last_painted, value}

-- one mark more is looked at
pub seen_more : (p : Mark → Bool) (ms : List Mark) (i : ℕ) (d : Mark) (out now : List Mark) → i < length ms → out ≡ filter p (take i ms) → now ≡ out ++ filter p (get_or ms i d ∷ [])
    → now ≡ filter p (take (i + 1) ms)
seen_more p ms i d out now lt before e =
    e ∙ ap (λ l. l ++ filter p (get_or ms i d ∷ [])) before ∙ sym (filter-append p (take i ms) (get_or ms i d ∷ [])) ∙ ap (filter p) (sym (take_more ms i d lt))

-- what is seen lies in the window
pub all_seen : (w : Option Window) (ms : List Mark) → AllByRecursion (IsSeen w) (filter (is_seen w) ms)
all_seen w [] = tt
all_seen w (m ∷ ms) = go (is_seen w m) refl (all_seen w ms)
  where
    go : (b : Bool) → is_seen w m ≡ b → AllByRecursion (IsSeen w) (filter (is_seen w) ms) → AllByRecursion (IsSeen w) (filter (is_seen w) (m ∷ ms))
    go true e rest = rw e (e, rest)
    go false e rest = rw e rest

-- one value more is looked at
pub value_more : (ms xs : List Mark) → xs ≡ ms → (i : ℕ) (d : Mark) (last now whole : ℕ) → i < length xs → last_painted last (drop i ms) ≡ whole → now ≡ value (get_or xs i d).kind
    → last_painted now (drop (i + 1) ms) ≡ whole
value_more ms xs same i d last now whole lt before e =
    let inside : i < length ms = subst (λ l. i < length l) same lt in
    ap (λ v. last_painted v (drop (i + 1) ms)) (e ∙ ap (λ l. value (get_or l i d).kind) same) ∙ ap (last_painted last) (sym (drop_more ms i d inside)) ∙ before

-- all values are looked at
pub value_all : (ms xs : List Mark) → xs ≡ ms → (i last whole : ℕ) → length xs ≤ i → last_painted last (drop i ms) ≡ whole → last ≡ whole
value_all ms xs same i last whole le before = sym (ap (last_painted last) (drop_all i ms (subst (λ l. length l ≤ i) same le))) ∙ before
