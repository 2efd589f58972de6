-- What all passes but one recorded, where it only posts and removes callbacks.
use Rattle.std.proofs.Common.{◌≡◌, ◌≢◌, ℕ, ◌==◌, Bool, true, false, Option, Some, None, List, [], ◌∷◌, ◌++◌, drop, length, sym, ap, ◌∙◌, subst, eq-eqb}
use Rattle.std.specs.Prelude.{if◌then◌else◌}
use Rattle.std.specs.List.{cons_option}
use mathlib.Core.List.{IsPrefix}
use mathlib.Core.Logic.{dite}
use native.Mathlib.Decide.{ℕ_discrete}
use Rattle.frame_phases.specs.declared.entry.FrameEntry.{FrameEntry}
use Rattle.frame_phases.specs.declared.entry.FrameEntry.TheVariants.{Posted, Removed, Begin, Take, Ran}
use Rattle.frame_phases.specs.Parting.{dealt_to}
use Rattle.choreographer.specs.Frame.{IsQuiet, GrowsQuietly}
use Rattle.choreographer.specs.Turn.{AreQuietBut, made_entries, all_by}
use Rattle.choreographer.proofs.Counting.{drop_prefix}
use Rattle.choreographer.proofs.Quiet.{quiet-append}

-- each of some quiet entries is
quiet_first : (e : FrameEntry) (es : List FrameEntry) → IsQuiet (e ∷ es) → IsQuiet (e ∷ []) × IsQuiet es
quiet_first (Posted c) es q = (tt, q)
quiet_first (Removed p i t n) es q = (tt, q)
quiet_first (Begin v s t) es q = absurd q
quiet_first (Take p n t) es q = absurd q
quiet_first (Ran n) es q = absurd q

-- what stands behind the beginning of a list that grows quietly
pub quiet_behind : (seen whole : List FrameEntry) → GrowsQuietly seen whole → IsQuiet (drop (length seen) whole)
quiet_behind seen whole g = subst IsQuiet (sym (drop_prefix seen g.0 whole g.1)) g.2

module _ (n : ℕ) where
  pub quiet_but-append : (xs ys : List (ℕ × FrameEntry)) → AreQuietBut n xs → AreQuietBut n ys → AreQuietBut n (xs ++ ys)
  quiet_but-append [] ys q r = r
  quiet_but-append (d ∷ xs) ys q r = (q.0, quiet_but-append xs ys q.1 r)

  pub quiet_but_rest : (xs ys : List (ℕ × FrameEntry)) → AreQuietBut n (xs ++ ys) → AreQuietBut n ys
  quiet_but_rest [] ys q = q
  quiet_but_rest (d ∷ xs) ys q = quiet_but_rest xs ys q.1

  pub quiet_but_begin : (xs ys : List (ℕ × FrameEntry)) → IsPrefix xs ys → AreQuietBut n ys → AreQuietBut n xs
  quiet_but_begin xs ys begins q = first xs begins.0 (subst (AreQuietBut n) (sym begins.1) q)
    where
      first : (es fs : List (ℕ × FrameEntry)) → AreQuietBut n (es ++ fs) → AreQuietBut n es
      first [] fs all = tt
      first (d ∷ es) fs all = (all.0, first es fs all.1)

  -- what the pass itself recorded
  own_entries : (k : ℕ) (es : List FrameEntry) → k ≡ n → AreQuietBut n (all_by k es)
  own_entries k [] is = tt
  own_entries k (e ∷ es) is = ((λ apart. absurd (apart is)), own_entries k es is)

  -- and quiet entries of any
  quiet_entries : (k : ℕ) (es : List FrameEntry) → IsQuiet es → AreQuietBut n (all_by k es)
  quiet_entries k [] q = tt
  quiet_entries k (e ∷ es) q = let both = quiet_first e es q in ((λ apart. both.0), quiet_entries k es both.1)

  -- entries of one pass, which are quiet where it is another one
  pub entries_by : (k : ℕ) (es : List FrameEntry) → (k ≢ n → IsQuiet es) → AreQuietBut n (all_by k es)
  entries_by k es quiet = dite (ℕ_discrete k n) (λ is. own_entries k es is) (λ apart. quiet_entries k es (quiet apart))

  abbrev dealt_first : ℕ → FrameEntry → Option FrameEntry
  dealt_first k e = if k == n then Some e else None

  -- a list in which nothing stands beside the pass's number
  pub quiet_others : (es : List (ℕ × FrameEntry)) → dealt_to n es ≡ [] → AreQuietBut n es → IsQuiet (made_entries es)
  quiet_others [] none q = tt
  quiet_others ((k, e) ∷ es) none q = quiet-append (e ∷ []) (made_entries es) (q.0 apart) (quiet_others es (rest (k == n) none) q.1)
    where
      apart : k ≢ n
      apart is =
          let first : dealt_first k e ≡ Some e = ap (λ (b : Bool). if b then Some e else None) (eq-eqb k n is) in
          let wrong : e ∷ dealt_to n es ≡ [] = sym (ap (λ o. cons_option o (dealt_to n es)) first) ∙ none in absurd (cc (wrong))

      rest : (b : Bool) → cons_option (if b then Some e else None) (dealt_to n es) ≡ [] → dealt_to n es ≡ []
      rest true all = let wrong : e ∷ dealt_to n es ≡ [] = all in absurd (cc (wrong))
      rest false all = all
