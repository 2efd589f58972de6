-- By a clock: the controller calls behind all that the threads call.
use Rattle.std.specs.Prelude.{◌≡◌, ◌<◌, ◌≤◌, ℕ, List, [], length, slice_index_or}
use mathlib.Core.List.{IsPrefix}
use Rattle.loop_model.specs.declared.entry.Entry.{Entry}
use Rattle.dash_script.specs.declared.script.Script.{Script}
use Rattle.looper_run.specs.Holding.{Sender}
use Rattle.run_model.specs.Planned.{entries_by, controller}
use Rattle.dash_hall.specs.Growth.{own}
use Rattle.dash_hall.specs.Hearing.{AreKnown}
use Rattle.dash_threads.specs.declared.thread.PostingThread.{PostingThread}
use Rattle.dash_stage.specs.declared.control.Controller.{Controller}
use Rattle.dash_stage.specs.Sharing.{OfThreads}
use Rattle.dash_stage.specs.Timeliness.{whole_on}

-- it has seen what it had seen of each queue, and maybe more
pub record SeesMore (before after : Controller) : Type 0 where
  pub long : length after.kit.posters.items ≡ length before.kit.posters.items
  pub each : (q : ℕ) (d : Sender) → q < length before.kit.posters.items → IsPrefix (whole_on before q d) (whole_on after q d)

-- the controller has seen of each queue all that the threads have
abbrev pub HasHeardThreads : List PostingThread → Controller → Type 0
HasHeardThreads ts c = (q : ℕ) (d : Sender) → q < length c.kit.posters.items → OfThreads (AreKnown q (whole_on c q d)) ts

-- in this history of a queue the poster has as many entries as it has made there
abbrev pub HasMadeAll : List Entry → Sender → Type 0
HasMadeAll past p = length (own p) ≤ length (entries_by p.sender past)

-- a queue's history begins with one in which the threads have made all their calls there, and the controller none
pub record CallsBehind (s : Script) (ts : List PostingThread) (q : ℕ) (es : List Entry) : Type 0 where
  pub past : List Entry
  pub begins : IsPrefix past es
  pub none : entries_by (controller s) past ≡ []
  pub threads : OfThreads (λ posters. (p : Sender) → q < length posters → HasMadeAll past (slice_index_or posters q p)) ts

-- so it is with what the controller has seen of each queue
abbrev pub CallsBehindThreads : Script → List PostingThread → Controller → Type 0
CallsBehindThreads s ts c = (q : ℕ) (d : Sender) → q < length c.kit.posters.items → CallsBehind s ts q (whole_on c q d)
