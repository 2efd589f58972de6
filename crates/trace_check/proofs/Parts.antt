-- The entries of the first parts of a history.
use Rattle.std.proofs.Common.{◌≡◌, ◌+◌, ◌<◌, ℕ, zero, suc, List, [], ◌∷◌, ◌++◌, map, length, take, get_or, ap, sym, ◌∙◌, arith, append-nil, append_assoc}
use Rattle.std.specs.List.{flat_map}
use Rattle.std.proofs.lemmas.List.{map-append}
use Rattle.std.proofs.lemmas.List.Concat.{flat_map-append}
use Rattle.loop_model.specs.declared.entry.Entry.{Entry as EntryData}
use Rattle.loop_model.specs.declared.segment.Segment.{Segment}
use Rattle.loop_model.specs.Chain.{entries_of}
use Rattle.trace_check.specs.declared.line.TraceLine.TheVariants.{Entry}
use Rattle.trace_check.specs.Text.{trace_line_text}

-- with one part more
pub parts_taken : (ps : List Segment) (i : ℕ) (d : Segment) → i < length ps → entries_of (take (i + 1) ps) ≡ entries_of (take i ps) ++ (get_or ps i d).entries
parts_taken [] i d l = absurd (omega (arith, l))
parts_taken (p ∷ ps) zero d l = append-nil p.entries
parts_taken (p ∷ ps) (suc i) d l =
    let one : suc i + 1 ≡ suc (i + 1) = omega arith in
    ap (λ n. entries_of (take n (p ∷ ps))) one ∙ (ap (λ es. p.entries ++ es) (parts_taken ps i d (omega (arith, l))) ∙ sym (append_assoc p.entries (entries_of (take i ps)) (get_or ps i d).entries))

-- the lines of entries, one list behind the other
pub entry_lines_more : (out : List ℕ) (es more : List EntryData)
    → (out ++ flat_map trace_line_text (map Entry es)) ++ flat_map trace_line_text (map Entry more) ≡ out ++ flat_map trace_line_text (map Entry (es ++ more))
entry_lines_more out es more =
    append_assoc out (flat_map trace_line_text (map Entry es)) (flat_map trace_line_text (map Entry more))
    ∙ ap (λ l. out ++ l) (sym (flat_map-append trace_line_text (map Entry es) (map Entry more)) ∙ ap (flat_map trace_line_text) (sym (map-append Entry es more)))
