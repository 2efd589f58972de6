-- The entries of the first parts.
use Rattle.std.proofs.Common.{◌≡◌, ◌+◌, ◌<◌, ℕ, zero, suc, List, [], ◌∷◌, ◌++◌, length, take, get_or, ap, sym, ◌∙◌, arith, append-nil, append_assoc}
use Rattle.frame_phases.specs.declared.entry.FrameEntry.{FrameEntry}
use Rattle.choreographer.specs.Ends.{entries_in}

-- with one part more
entries_taken : (ps : List (List FrameEntry)) (i : ℕ) (d : List FrameEntry) → i < length ps → entries_in (take (i + 1) ps) ≡ entries_in (take i ps) ++ get_or ps i d
entries_taken [] i d l = absurd (omega arith)
entries_taken (p ∷ ps) zero d l = append-nil p
entries_taken (p ∷ ps) (suc i) d l =
    let one : suc i + 1 ≡ suc (i + 1) = omega arith in
    ap (λ n. entries_in (take n (p ∷ ps))) one ∙ (ap (λ es. p ++ es) (entries_taken ps i d (omega arith)) ∙ sym (append_assoc p (entries_in (take i ps)) (get_or ps i d)))

-- the same, where the part is named
pub entries_more : (ps : List (List FrameEntry)) (i : ℕ) (d p : List FrameEntry) → i < length ps → p ≡ get_or ps i d → entries_in (take (i + 1) ps) ≡ entries_in (take i ps) ++ p
entries_more ps i d p l is = entries_taken ps i d l ∙ ap (λ (q : List FrameEntry). entries_in (take i ps) ++ q) (sym is)

-- and where one more part stands behind them
pub entries_behind : (ps : List (List FrameEntry)) (p : List FrameEntry) → entries_in (ps ++ p ∷ []) ≡ entries_in ps ++ p
entries_behind [] p = append-nil p
entries_behind (q ∷ ps) p = ap (λ es. q ++ es) (entries_behind ps p) ∙ sym (append_assoc q (entries_in ps) p)
