-- Reports that are no runs of their script, for one clause alone.
use Rattle.std.proofs.Common.{◌≡◌, ◌<◌, ℕ, zero, suc, Bool, true, false, List, [], ◌∷◌, refl, sym, ◌∙◌, arith}
use Rattle.std.specs.Prelude.{◌&&◌, not, map}
use Rattle.std.specs.List.{AllByRecursion, list_all}
use Rattle.std.proofs.lemmas.Bool.{and_parts, not-true}
use Rattle.loop_model.specs.declared.record.QueueRecord.{QueueRecord}
use Rattle.dash_script.specs.declared.script.Script.{Script}
use Rattle.run_model.specs.Planned.{history_of, controller}
use Rattle.run_model.specs.Moments.{in_lockstep}
use Rattle.run_model.specs.Control.{is_called_in_time, are_before_quit}
use Rattle.run_model.specs.Run.{IsRun, IsTimely, are_in_order}
use Rattle.run_model.specs.Parts.{IsBeforeQuit}
use Rattle.run_model.proofs.RunBut.{Clause, IsRunBut}
use Rattle.run_model.proofs.Table.{Row, report_of, queues_from, found, wanted, run_but_by, firsts, others, down_from, has_called_then}

-- the report is no run of the script, and but for this clause it is one
pub record FailsBy (out : Clause) (s : Script) (rows : List Row) : Type 0 where
  pub no_run : IsRun in_lockstep s (report_of s rows) → ⊥
  pub otherwise : IsRunBut out s (report_of s rows)

pub fails_by : (out : Clause) (s : Script) (rows : List Row) → (IsRun in_lockstep s (report_of s rows) → ⊥) → found out s rows ≡ wanted out s rows → FailsBy out s rows
fails_by out s rows no_run same = record { no_run = no_run; otherwise = run_but_by out s rows same }

-- a report as data, and the clause that refuses it
pub record Faulty : Type 0 where
  pub clause : Clause
  pub script : Script
  pub rows : List Row

abbrev pub faulty : Clause → Script → List Row → Faulty
faulty out s rows = record { clause = out; script = s; rows = rows }

abbrev pub Fails : Faulty → Type 0
Fails f = FailsBy f.clause f.script f.rows

-- each of these reports fails by its clause: none passes a test that every run passes, and all else of it is right
pub each_fails : (passes : Script → List Row → Bool) → ((s : Script) (rows : List Row) → IsRun in_lockstep s (report_of s rows) → passes s rows ≡ true) → (fs : List Faulty)
    → list_all (λ f. not (passes f.script f.rows)) fs ≡ true → map (λ f. found f.clause f.script f.rows) fs ≡ map (λ f. wanted f.clause f.script f.rows) fs → AllByRecursion Fails fs
each_fails passes sound [] refused same = tt
each_fails passes sound (f ∷ fs) refused same =
    let p = and_parts (not (passes f.script f.rows)) (list_all (λ g. not (passes g.script g.rows)) fs) refused in
    let first = found f.clause f.script f.rows in
    let second = wanted f.clause f.script f.rows in
    let firsts_behind = map (λ g. found g.clause g.script g.rows) fs in
    let seconds_behind = map (λ g. wanted g.clause g.script g.rows) fs in
    (fails_by f.clause f.script f.rows (no_run f p.0) (firsts first second firsts_behind seconds_behind same), each_fails passes sound fs p.1 (others first second firsts_behind seconds_behind same))
  where
    no_run : (g : Faulty) → not (passes g.script g.rows) ≡ true → IsRun in_lockstep g.script (report_of g.script g.rows) → ⊥
    no_run g refuses r = let wrong : false ≡ true = sym (not-true (passes g.script g.rows) refuses) ∙ sound g.script g.rows r in cc

-- ---- histories

-- the controller and the threads have called on this queue in time
abbrev is_timely : Script → QueueRecord → Bool
is_timely s q =
    is_called_in_time (controller s) (history_of q) && are_before_quit s.threads (controller s) (history_of q)
    && list_all (λ called. called) (down_from s.threads (has_called_then s q)) && are_in_order s q.looper (history_of q)

all_down : (n : ℕ) (f : ℕ → Bool) → ((k : ℕ) → k < n → f k ≡ true) → list_all (λ b. b) (down_from n f) ≡ true
all_down zero f each = refl
all_down (suc n) f each = rw (each n (omega arith), all_down n f (λ k lt. each k (omega (arith, lt)))) refl

timely : (s : Script) (q : QueueRecord) → IsBeforeQuit s q → IsTimely s q → is_timely s q ≡ true
timely s q before_quit h = rw (h.controls, before_quit, all_down s.threads (has_called_then s q) h.threads, h.in_order) refl

all_timely : (s : Script) (qs : List QueueRecord) → AllByRecursion (IsBeforeQuit s) qs → AllByRecursion (IsTimely s) qs → list_all (is_timely s) qs ≡ true
all_timely s [] before all = refl
all_timely s (q ∷ qs) before all = rw (timely s q before.0 all.0, all_timely s qs before.1 all.1) refl

abbrev are_timely : Script → List Row → Bool
are_timely s rows = list_all (is_timely s) (queues_from s 0 rows)

-- each of these has a history that is not timely, and fails by the clause of it
pub each_untimely : (fs : List Faulty) → list_all (λ f. not (are_timely f.script f.rows)) fs ≡ true → map (λ f. found f.clause f.script f.rows) fs ≡ map (λ f. wanted f.clause f.script f.rows) fs
    → AllByRecursion Fails fs
each_untimely fs refused same = each_fails are_timely (λ s rows r. all_timely s (queues_from s 0 rows) r.timely.before_quit r.timely.histories) fs refused same
