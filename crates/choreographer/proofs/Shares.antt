-- A measure of the state, and what the views have of it.
use Rattle.std.proofs.Common.{◌≡◌, ℕ, zero, suc, ◌+◌, ◌≤◌, ◌≢◌, true, false, true≢false, List, [], ◌∷◌, ◌++◌, set, refl, sym, ap, ◌∙◌, subst, ⊎_elim, arith, Some}
use Rattle.std.specs.Prelude.{◌-◌}
use mathlib.Core.Option.{some, some-ne-none, some-injective}
use lib.ListN.{get_elem?}
use Rattle.atomic_table.proofs.Lists.{at_set, at_snoc}
use Rattle.loop_model.specs.Lists.{total}
use Rattle.loop_model.proofs.Sums.{total-append, total-set}
use Rattle.choreographer.specs.declared.state.StampedFrames.{StampedFrames}
use Rattle.choreographer.specs.declared.view.View.{View}
use Rattle.choreographer.specs.Turn.{Board, measured, SumsUp, KnowsOf}

-- a sum to which nothing adds
all_zero : (f : View → ℕ) (views : List View) → ((j : ℕ) (u : View) → get_elem? views j ≡ some u → f u ≡ 0) → total f views ≡ 0
all_zero f [] none_of = refl
all_zero f (u ∷ us) none_of = omega (arith, none_of 0 u refl, all_zero f us (λ j x e. none_of (suc j) x e))

-- a sum to which one view alone adds
pub only_one : (f : View → ℕ) (views : List View) (id : ℕ) (v : View) → get_elem? views id ≡ some v → ((j : ℕ) (u : View) → get_elem? views j ≡ some u → j ≢ id → f u ≡ 0) → total f views ≡ f v
only_one f [] id v at others = absurd (some-ne-none v (sym at))
only_one f (u ∷ us) zero v at others = omega (arith, ap f (some-injective u v at), all_zero f us (λ j x there. others (suc j) x there (λ e. omega (arith, e))))
only_one f (u ∷ us) (suc id) v at others = omega (arith, others 0 u refl (λ e. omega (arith, e)), only_one f us id v at (λ j x there apart. others (suc j) x there (λ e. apart (omega (arith, e)))))

-- what holds of the view that changed and of the others holds of each
pub set_each : (P : View → Type 0) (views : List View) (id : ℕ) (w : View) → P w → ((j : ℕ) (u : View) → j ≢ id → get_elem? views j ≡ some u → P u)
    → (j : ℕ) (u : View) → get_elem? (set views id w) j ≡ some u → P u
set_each P views id w mine others j u e = ⊎_elim
    (λ (t : (j ≡ id) × (w ≡ u)). subst P t.1 mine)
    (λ (t : (j ≢ id) × (get_elem? views j ≡ some u)). others j u t.0 t.1)
    (at_set views id j w u e)

-- the view stands among these
abbrev pub IsAmong : List View → View → Type 0
IsAmong was u = (i : ℕ) × (get_elem? was i ≡ some u)

-- each of the views that has the turn stands among these
abbrev pub AreStill : List View → List View → Type 0
AreStill was views = (j : ℕ) (u : View) → get_elem? views j ≡ some u → u.has_turn ≡ true → IsAmong was u

pub still_self : (views : List View) → AreStill views views
still_self views = λ j u there has. (j, there)

-- where one view changed to one without the turn
pub still_set : (was views : List View) (id : ℕ) (w : View) → AreStill was views → w.has_turn ≡ false → AreStill was (set views id w)
still_set was views id w still no_turn =
    set_each (λ u. u.has_turn ≡ true → IsAmong was u) views id w (λ has. absurd (true≢false (sym has ∙ no_turn))) (λ j u apart there. still j u there)

-- and where one without the turn came behind them
pub still_snoc : (was views : List View) (w : View) → AreStill was views → w.has_turn ≡ false → AreStill was (views ++ w ∷ [])
still_snoc was views w still no_turn = λ j u there has. ⊎_elim
    (λ (t : get_elem? views j ≡ some u). still j u t has)
    (λ (t : w ≡ u). absurd (true≢false (sym has ∙ (ap (λ (x : View). x.has_turn) (sym t) ∙ no_turn))))
    (at_snoc views w u j there)

-- no view has the turn
abbrev pub AreIdle : List View → Type 0
AreIdle views = (j : ℕ) (u : View) → get_elem? views j ≡ some u → u.has_turn ≡ true → ⊥

-- the views have as much as before where the one that changed has
pub set_same : (share : View → ℕ) (views : List View) (id : ℕ) (v w : View) → get_elem? views id ≡ some v → share w ≡ share v → total share (set views id w) ≡ total share views
set_same share views id v w at same = let t = total-set share views id v w at in omega (arith, t, same)

-- and where one came behind them
pub snoc_same : (share : View → ℕ) (views : List View) (w : View) → share w ≡ 0 → total share (views ++ w ∷ []) ≡ total share views
snoc_same share views w empty = let a = total-append share views (w ∷ []) in omega (arith, a, empty)

-- or where one gave it a part of its own
pub split_same : (share : View → ℕ) (views : List View) (id : ℕ) (v w u : View) → get_elem? views id ≡ some v → share w + share u ≡ share v → total share (set views id w ++ u ∷ []) ≡ total share views
split_same share views id v w u at both = let a = total-append share (set views id w) (u ∷ []) in let t = total-set share views id v w at in omega (arith, a, t, both)

-- or where one has what two had, and the other nothing
pub join_same : (share : View → ℕ) (views : List View) (id other : ℕ) (v w b rest : View) → get_elem? views id ≡ some v → get_elem? (set views id b) other ≡ some w → share b ≡ share v + share w → share rest ≡ 0
    → total share (set (set views id b) other rest) ≡ total share views
join_same share views id other v w b rest at there both empty =
    let t = total-set share (set views id b) other w rest there in let t' = total-set share views id v b at in omega (arith, t, t', both, empty)

module _ (measure : StampedFrames → ℕ) (share : View → ℕ) where
  -- the state is where it was, and so is who has the turn
  pub adds_same : (s : Board) (words : List ℕ) (views : List View) → SumsUp measure share s → total share views ≡ total share s.views → AreStill s.views views
      → SumsUp measure share (record { words = words; homes = s.homes; views = views })
  adds_same s words views a same still = record {
    home = λ x here. a.home x here ∙ sym same;
    out = λ j u there has. let was = still j u there has in a.out was.0 u was.1 has ∙ sym same;
  }

  -- the state was taken by a view that found it
  pub adds_taken : (s t : Board) (x : StampedFrames) → SumsUp measure share s → get_elem? s.homes 0 ≡ some (some (Some x)) → ((y : StampedFrames) → get_elem? t.homes 0 ≡ some (some (Some y)) → ⊥)
      → total share t.views ≡ total share s.views → ((j : ℕ) (u : View) → get_elem? t.views j ≡ some u → u.has_turn ≡ true → u.found ≡ Some x) → SumsUp measure share t
  adds_taken s t x a here nothing same found = record {
    home = λ y there. absurd (nothing y there);
    out = λ j u there has. ap (measured measure) (found j u there has) ∙ (a.home x here ∙ sym same);
  }

  -- the state is at home
  pub adds_home : (t : Board) (x : StampedFrames) → ((y : StampedFrames) → get_elem? t.homes 0 ≡ some (some (Some y)) → x ≡ y) → measure x ≡ total share t.views → AreIdle t.views → SumsUp measure share t
  adds_home t x this same idle = record {
    home = λ y there. ap measure (sym (this y there)) ∙ same;
    out = λ j u there has. absurd (idle j u there has);
  }

  -- what the views have, once one gave back the state that it had found, changed as the state was
  pub given_sum : (s : Board) (x : StampedFrames) (id : ℕ) (v w : View) → SumsUp measure share s → get_elem? s.views id ≡ some v → v.has_turn ≡ true
      → measured measure v.found ≤ share v + measure x → share w ≡ share v + measure x - measured measure v.found → measure x ≡ total share (set s.views id w)
  given_sum s x id v w a at has enough is = let t = total-set share s.views id v w at in let was = a.out id v at has in omega (arith, t, was, enough, is)

  -- so it is with what they know of a measure, where they know anything
  pub knows_same : (s : Board) (words : List ℕ) (views : List View) → KnowsOf measure share s → total share views ≡ total share s.views → AreStill s.views views
      → KnowsOf measure share (record { words = words; homes = s.homes; views = views })
  knows_same s words views a same still = record {
    home = λ x here any. a.home x here (λ none. any (same ∙ none)) ∙ sym same;
    out = λ j u there has any. let was = still j u there has in a.out was.0 u was.1 has (λ none. any (same ∙ none)) ∙ sym same;
  }

  pub knows_taken : (s t : Board) (x : StampedFrames) → KnowsOf measure share s → get_elem? s.homes 0 ≡ some (some (Some x)) → ((y : StampedFrames) → get_elem? t.homes 0 ≡ some (some (Some y)) → ⊥)
      → total share t.views ≡ total share s.views → ((j : ℕ) (u : View) → get_elem? t.views j ≡ some u → u.has_turn ≡ true → u.found ≡ Some x) → KnowsOf measure share t
  knows_taken s t x a here nothing same found = record {
    home = λ y there. absurd (nothing y there);
    out = λ j u there has any. ap (measured measure) (found j u there has) ∙ (a.home x here (λ none. any (same ∙ none)) ∙ sym same);
  }

  pub knows_home : (t : Board) (x : StampedFrames) → ((y : StampedFrames) → get_elem? t.homes 0 ≡ some (some (Some y)) → x ≡ y) → (total share t.views ≢ 0 → measure x ≡ total share t.views) → AreIdle t.views → KnowsOf measure share t
  knows_home t x this same idle = record {
    home = λ y there any. ap measure (sym (this y there)) ∙ same any;
    out = λ j u there has. absurd (idle j u there has);
  }
