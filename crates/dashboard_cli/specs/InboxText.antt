-- How the report of a run through an inbox is printed.
use Rattle.std.specs.Prelude.{ℕ, ◌==◌, Bool, List, [], ◌∷◌, ◌++◌, codes, count_by, map, sum_by}
use Rattle.std.specs.List.{flat_map, range_with_len}
use Rattle.std.specs.Fmt.{decimal}
use Rattle.loop_model.specs.Fates.{fates}
use Rattle.run_model.specs.Planned.{history_of}
use Rattle.run_model.specs.Text.{LineWords, fates_line, history_lines, line_text}
use Rattle.inbox_queue.specs.declared.parcel.Parcel.{Parcel}
use Rattle.inbox_queue.specs.declared.run.InboxReport.{InboxReport}

-- the parcel is the thread's
abbrev pub is_from : ℕ → Parcel → Bool
is_from thread parcel = parcel.from == thread

-- how many of the thread's parcels were admitted, over all blocks
abbrev pub admitted_from : ℕ → List (List Parcel) → ℕ
admitted_from thread lists = sum_by (λ (parcels : List Parcel). count_by (is_from thread) parcels) lists

-- the line of a thread
abbrev pub from_line : List (List Parcel) → ℕ → LineWords
from_line lists thread = codes "from" ∷ decimal thread ∷ decimal (admitted_from thread lists) ∷ []

-- the main looper's lines, and then one for each thread
unfoldable pub inbox_lines : InboxReport → List LineWords
inbox_lines r =
    (codes "inbox" ∷ codes "1" ∷ []) ∷ (codes "looper" ∷ codes "0" ∷ []) ∷ history_lines (history_of r.kept) ++ fates_line (fates (history_of r.kept))
    ∷ map (from_line r.admitted) (range_with_len 0 r.script.threads) ++ (codes "end" ∷ []) ∷ []

-- the text of the report
unfoldable pub inbox_text : InboxReport → List ℕ
inbox_text r = flat_map line_text (inbox_lines r)
