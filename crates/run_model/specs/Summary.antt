-- How a summary of a report is printed.
use Rattle.std.specs.Prelude.{ℕ, Bool, true, false, List, [], ◌∷◌, count_by, sum_by, codes, length}
use Rattle.std.specs.List.{flat_map}
use Rattle.std.specs.Fmt.{decimal}
use Rattle.loop_model.specs.declared.journal.Act.{Act}
use Rattle.loop_model.specs.declared.journal.Act.TheVariants.{Paint}
use Rattle.loop_model.specs.declared.journal.Journal.{Journal}
use Rattle.loop_model.specs.declared.record.QueueRecord.{QueueRecord}
use Rattle.loop_model.specs.Fates.{fates, is_dispatched}
use Rattle.frame_phases.specs.declared.entry.FrameRecord.{FrameRecord}
use Rattle.run_model.specs.declared.report.Report.{Report}
use Rattle.run_model.specs.FrameRecords.{is_begin}
use Rattle.run_model.specs.Planned.{history_of}
use Rattle.run_model.specs.Text.{LineWords, line_text}

abbrev pub is_paint : Act → Bool
is_paint (Paint gauge value) = true
is_paint _ = false

abbrev pub accepted_in : List QueueRecord → ℕ
accepted_in qs = sum_by (λ (q : QueueRecord). length (fates (history_of q))) qs

abbrev pub dispatched_in : List QueueRecord → ℕ
dispatched_in qs = sum_by (λ (q : QueueRecord). count_by is_dispatched (fates (history_of q))) qs

abbrev pub frames_in : List FrameRecord → ℕ
frames_in fs = sum_by (λ (f : FrameRecord). count_by is_begin f.entries) fs

abbrev pub paints_in : List Journal → ℕ
paints_in js = sum_by (λ (j : Journal). count_by is_paint j.acts) js

-- the five lines of a summary of the run of script number n
unfoldable pub summary_lines : ℕ → Report → List LineWords
summary_lines n r =
    (codes "summary" ∷ decimal n ∷ []) ∷ (codes "accepted" ∷ decimal (accepted_in r.queues) ∷ []) ∷ (codes "dispatched" ∷ decimal (dispatched_in r.queues) ∷ [])
    ∷ (codes "frames" ∷ decimal (frames_in r.frames) ∷ []) ∷ (codes "paints" ∷ decimal (paints_in r.journals) ∷ []) ∷ []

unfoldable pub summary : ℕ → Report → List ℕ
summary n r = flat_map line_text (summary_lines n r)
