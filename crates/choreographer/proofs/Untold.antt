-- Views that were told nothing.
use Rattle.std.proofs.Common.{◌≡◌, ℕ, List, [], ◌∷◌, ◌++◌, set, sym, ap, ◌∙◌}
use mathlib.Core.Logic.{dite}
use mathlib.Core.Option.{some, some-injective}
use native.Mathlib.Decide.{ℕ_discrete}
use lib.ListN.{get_elem?}
use Rattle.atomic_table.proofs.Lists.{set_else, at_longer}
use Rattle.loop_model.proofs.Sums.{set_at, has_first}
use Rattle.frame_phases.specs.declared.entry.FrameEntry.{FrameEntry}
use Rattle.choreographer.specs.declared.view.View.{View}
use Rattle.choreographer.specs.Turn.{AreUntold}

-- where one view changed and none was told anything since, none was before
pub untold_before : (views : List View) (id : ℕ) (v w : View) → get_elem? views id ≡ some v → (w.told ≡ [] → v.told ≡ []) → AreUntold (set views id w) → AreUntold views
untold_before views id v w at back untold j u there = dite (ℕ_discrete j id)
    (λ is. let same : u ≡ v = some-injective u v (sym there ∙ (ap (get_elem? views) is ∙ at)) in ap (λ (x : View). x.told) same ∙ back (untold id w (set_at views id v w at)))
    (λ apart. untold j u (set_else views id j w apart ∙ there))

-- nor where a view came behind them
pub untold_front : (views more : List View) → AreUntold (views ++ more) → AreUntold views
untold_front views more untold j u there = untold j u (at_longer views more j u there)

-- a view that was told a list is told one
pub told_one : (views : List View) (id : ℕ) (v w : View) (x : List (ℕ × FrameEntry)) (xs : List (List (ℕ × FrameEntry))) → get_elem? views id ≡ some v → w.told ≡ x ∷ xs → AreUntold (set views id w) → ⊥
told_one views id v w x xs at is untold = has_first x xs (sym is ∙ untold id w (set_at views id v w at))
