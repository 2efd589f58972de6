-- The entries of the first parts.
use Rattle.std.proofs.Common.{◌≡◌, ◌+◌, ◌<◌, ℕ, zero, suc, List, [], ◌∷◌, ◌++◌, length, take, get_or, ap, sym, ◌∙◌, arith, append-nil, append_assoc}
use Rattle.loop_model.specs.declared.segment.Segment.{Segment}
use Rattle.loop_model.specs.Chain.{entries_of}

-- with one part more
pub entries_taken : (ps : List Segment) (i : ℕ) (d : Segment) → i < length ps → entries_of (take (i + 1) ps) ≡ entries_of (take i ps) ++ (get_or ps i d).entries
entries_taken [] i d l = absurd (omega arith)
entries_taken (p ∷ ps) zero d l = append-nil p.entries
entries_taken (p ∷ ps) (suc i) d l =
    let one : suc i + 1 ≡ suc (i + 1) = omega arith in
    ap (λ n. entries_of (take n (p ∷ ps))) one ∙ (ap (λ es. p.entries ++ es) (entries_taken ps i d (omega arith)) ∙ sym (append_assoc p.entries (entries_of (take i ps)) (get_or ps i d).entries))

-- the same, where the part is named
pub entries_more : (ps : List Segment) (i : ℕ) (d p : Segment) → i < length ps → p ≡ get_or ps i d → entries_of (take (i + 1) ps) ≡ entries_of (take i ps) ++ p.entries
entries_more ps i d p l is = entries_taken ps i d l ∙ ap (λ (q : Segment). entries_of (take i ps) ++ q.entries) (sym is)
