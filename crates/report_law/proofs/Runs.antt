-- What a run gives of the law's premises: its queues are numbered, and no callback runs before the first frame.
use Rattle.std.proofs.Common.{◌≡◌, ◌+◌, ℕ, zero, suc, true, List, [], ◌∷◌, map, refl, sym, subst}
use Rattle.std.specs.List.{AllByRecursion, list_all, range_with_len}
use Rattle.loop_model.specs.declared.record.QueueRecord.{QueueRecord}
use Rattle.frame_phases.specs.declared.entry.Callback.{Callback}
use Rattle.frame_phases.specs.declared.entry.FrameEntry.{FrameEntry}
use Rattle.frame_phases.specs.declared.entry.FrameEntry.TheVariants.{Posted, Removed, Begin, Take, Ran}
use Rattle.frame_phases.specs.declared.entry.FrameRecord.{FrameRecord}
use Rattle.frame_phases.specs.Frames.{lawful, next_phase, owed_callbacks}
use Rattle.frame_phases.specs.Between.{ran_before_begin}
use Rattle.frame_phases.proofs.EndsOfFrames.{nothing_runs_between_frames}
use Rattle.dash_script.specs.declared.script.Script.{Script}
use Rattle.dash_script.specs.Reading.{IsEdition}
use Rattle.run_model.specs.Run.{IsFrameRun}
use Rattle.run_model.specs.declared.report.Report.{Report as RunReport}
use Rattle.report_law.specs.Widths.{ReportFits}
use Rattle.report_law.specs.Seen.{posted_in, runs_first}
use Rattle.report_law.specs.Laws.{AreCounted, ARunIsRead, IsFramed, is_countable}
use Rattle.report_law.proofs.Limits.{printed_read}
use Rattle.report_law.proofs.Fitting.{report_fits}

counted : (n k : ℕ) (qs : List QueueRecord) → map (λ q. q.looper) qs ≡ range_with_len n k → AreCounted n qs
counted n k [] e = tt
counted n zero (q ∷ qs) e = cc
counted n (suc k) (q ∷ qs) e =
    let first : q.looper ≡ n = cc in
    let rest : map (λ x. x.looper) qs ≡ range_with_len (n + 1) k = cc in
    (first, counted (n + 1) k qs rest)

none_first : (cs : List Callback) (es : List FrameEntry) → ran_before_begin es ≡ [] → runs_first cs es ≡ []
unfolding ran_before_begin
none_first cs [] e = refl
none_first cs (Posted c ∷ es) e = none_first cs es e
none_first cs (Removed p i t n ∷ es) e = none_first cs es e
none_first cs (Begin v s t ∷ es) e = refl
none_first cs (Take p n t ∷ es) e = none_first cs es e
none_first cs (Ran n ∷ es) e = cc

framed : (interval phases : ℕ) (es : List FrameEntry) → lawful interval phases es ≡ true → runs_first (posted_in es) es ≡ []
unfolding next_phase owed_callbacks
framed interval phases es e = none_first (posted_in es) es (nothing_runs_between_frames interval phases [] es e refl refl)

all_framed : (s : Script) (fs : List FrameRecord) → AllByRecursion (IsFrameRun s) fs → AllByRecursion IsFramed fs
all_framed s [] runs = tt
all_framed s (f ∷ fs) runs = (framed f.interval f.phases f.entries runs.0.lawful, all_framed s fs runs.1)

pub run_read : (r : RunReport) → ReportFits r → list_all is_countable r.queues ≡ true → ARunIsRead r
run_read r fits countable m s run text =
    let edition : IsEdition r.script.edition = subst (λ (x : Script). IsEdition x.edition) (sym run.report.script) text.edition in
    printed_read r (counted 0 s.loopers r.queues run.report.queues) (all_framed s r.frames run.frames) (report_fits r fits edition countable)
