-- What is found of the histories of a trace, and the line that tells it.
use Rattle.std.specs.Prelude.{◌≡◌, ℕ, List, [], ◌∷◌, ◌++◌, All, Some, codes, slice_get, take}
use Rattle.std.specs.Fmt.{decimal}
use Rattle.trace_check.specs.declared.trace.TraceQueue.{TraceQueue}
use Rattle.trace_check.specs.Good.{IsFirstBad}
pub use Rattle.trace_check.specs.Good.{IsLegalQueue}
use Rattle.dashboard_cli.specs.declared.verdict.Verdict.{Verdict}
use Rattle.dashboard_cli.specs.declared.verdict.Verdict.TheVariants.{Legal, Illegal}

-- the first queue that is not legal has this looper, and this entry is its first bad one
pub record IsFirstIllegal (queues : List TraceQueue) (looper place : ℕ) : Type 0 where
  pub index : ℕ
  pub queue : TraceQueue
  pub found : slice_get queues index ≡ Some queue
  pub legal_before : All IsLegalQueue (take index queues)
  pub looper_is : queue.looper ≡ looper
  pub first_bad : IsFirstBad queue place

-- the verdict on these queues
abbrev pub IsVerdict : List TraceQueue → Verdict → Type 0
IsVerdict queues Legal = All IsLegalQueue queues
IsVerdict queues (Illegal looper place) = IsFirstIllegal queues looper place

-- the line that tells a verdict, with its line feed
abbrev pub verdict_text : Verdict → List ℕ
verdict_text Legal = codes "legal" ++ 10 ∷ []
verdict_text (Illegal looper place) = (codes "illegal queue " ++ decimal looper ++ codes " entry " ++ decimal place) ++ 10 ∷ []
