-- Calls that come first at their time, and times that are reached, as a history goes on.
use Rattle.std.proofs.Common.{◌≡◌, inl, inr, ℕ, Bool, true, List, [], ◌∷◌, ◌++◌, refl, ◌∙◌}
use Rattle.std.specs.Prelude.{◌==◌}
use Rattle.std.specs.List.{list_any}
use Rattle.std.proofs.lemmas.Bool.{and_from, or_cases, or_left, or_right, eq-eqb}
use Rattle.std.proofs.lemmas.List.Folds.{list_any-append}
use Rattle.std.proofs.lemmas.List.Sums.{fold-append}
use Rattle.loop_model.specs.declared.entry.Entry.{Entry}
use Rattle.loop_model.specs.Entries.{moment_of}
use Rattle.loop_model.proofs.Sorting.{AllByRecursion-append, AllByRecursion-weaker}
use Rattle.dash_script.specs.declared.script.Block.{Block}
use Rattle.run_model.specs.Control.{is_advance, is_fresh, is_reached, AreReached}
use Rattle.run_model.specs.Parts.{fresh_behind, moves_to}

-- one more entry
fresh-snoc : (theirs : Entry → Bool) (es : List Entry) (e : Entry) → is_fresh theirs (es ++ e ∷ []) ≡ fresh_behind theirs (is_fresh theirs es) e
unfolding is_fresh
fresh-snoc theirs es e = fold-append (fresh_behind theirs) true es (e ∷ [])

-- nothing was called
pub nothing_fresh : (theirs : Entry → Bool) → is_fresh theirs [] ≡ true
unfolding is_fresh
nothing_fresh theirs = refl

-- the time was moved last
pub fresh_moved : (theirs : Entry → Bool) (es : List Entry) (e : Entry) → is_advance e.call ≡ true → is_fresh theirs (es ++ e ∷ []) ≡ true
fresh_moved theirs es e moves = fresh-snoc theirs es e ∙ or_left (is_advance e.call) _ moves

-- one of them called last
pub fresh_called : (theirs : Entry → Bool) (es : List Entry) (e : Entry) → theirs e ≡ true → is_fresh theirs es ≡ true → is_fresh theirs (es ++ e ∷ []) ≡ true
fresh_called theirs es e is fresh = fresh-snoc theirs es e ∙ or_right (is_advance e.call) _ (and_from _ _ fresh is)

-- the start's time is reached
pub start_reached : (es : List Entry) → is_reached 0 es ≡ true
unfolding is_reached
start_reached es = refl

-- a time that was reached stays so
pub reached_on : (time : ℕ) (es more : List Entry) → is_reached time es ≡ true → is_reached time (es ++ more) ≡ true
unfolding is_reached
reached_on time es more h = elim (or_cases (time == 0) (list_any (moves_to time) es) h) [
  | inl start ↦ or_left _ _ start
  | inr moved ↦ or_right (time == 0) _ (list_any-append (moves_to time) es more ∙ or_left _ _ moved)
]

-- the time to which the last entry moved
pub reached_by_last : (es : List Entry) (e : Entry) → is_advance e.call ≡ true → is_reached (moment_of e.call) (es ++ e ∷ []) ≡ true
unfolding is_reached
reached_by_last es e moves =
    let time = moment_of e.call in
    let here : moves_to time e ≡ true = and_from _ _ moves (eq-eqb time time refl) in
    or_right (time == 0) _ (list_any-append (moves_to time) es (e ∷ []) ∙ or_right (list_any (moves_to time) es) _ (or_left _ _ here))

-- so do the times of blocks
pub all_reached_on : (blocks : List Block) (es more : List Entry) → AreReached blocks es → AreReached blocks (es ++ more)
all_reached_on blocks es more h =
    AllByRecursion-weaker (λ (b : Block). is_reached b.time es ≡ true) (λ (b : Block). is_reached b.time (es ++ more) ≡ true) (λ b was. reached_on b.time es more was) blocks h

-- one block more, whose time was reached
pub one_reached : (blocks : List Block) (b : Block) (es : List Entry) → AreReached blocks es → is_reached b.time es ≡ true → AreReached (blocks ++ b ∷ []) es
one_reached blocks b es h one = AllByRecursion-append (λ (z : Block). is_reached z.time es ≡ true) blocks (b ∷ []) h (one, tt)
