-- What a thread has when it works, and what its work leaves of it.
use Rattle.std.specs.Prelude.{◌≡◌, ℕ, true, false, List, Result, OnOk}
use Rattle.dash_script.specs.declared.script.Script.{Script}
use Rattle.dash_script.specs.Reading.{HasText}
use Rattle.run_model.specs.Planned.{TimedCommand}
use Rattle.dash_hall.specs.declared.hall.Hall.{Hall}
use Rattle.dash_hall.specs.Kits.{IsHall}
use Rattle.dash_threads.specs.declared.thread.PostingThread.{PostingThread}
use Rattle.dash_threads.specs.Threads.{IsThread, ThreadKeeps, HaveSeenSame, HasPassed, rungs_of}

-- the thread is one of the script, which has a text, with what it needs in the hall
pub record IsAtWork (s : Script) (h : Hall) (t : PostingThread) : Type 0 where
  pub text : HasText s
  pub hall : IsHall s h
  pub thread : IsThread s h t

-- the thread is the same, and came no further to the gate
pub record StaysAtWork (s : Script) (h : Hall) (before after : PostingThread) : Type 0 where
  pub thread : IsThread s h after
  pub number : after.number ≡ before.number
  pub passed : after.passed ≡ before.passed

-- so it is, and the thread rang no bell and goes on as before
pub record WorksOn (s : Script) (h : Hall) (before after : PostingThread) : Type 0 where
  pub thread : IsThread s h after
  pub number : after.number ≡ before.number
  pub passed : after.passed ≡ before.passed
  pub goes : after.gave_up ≡ before.gave_up
  pub bells : rungs_of after ≡ rungs_of before

-- the thread is the same: one that had given up is as it was, and one that goes on went on before
pub record RunsUnlessGivenUp (s : Script) (h : Hall) (before after : PostingThread) : Type 0 where
  pub thread : IsThread s h after
  pub number : after.number ≡ before.number
  pub goes : after.gave_up ≡ false → before.gave_up ≡ false
  pub stays : before.gave_up ≡ true → after ≡ before

-- so it is, and unless it has given up the thread did this, and came to the gate once for each of these lines
pub record RunsLines (s : Script) (h : Hall) (lines : List TimedCommand) (Did : PostingThread → PostingThread → Type 0) (before after : PostingThread)
    : Type 0 where
  pub runs : RunsUnlessGivenUp s h before after
  pub made : after.gave_up ≡ false → Did before after
  pub passed : HasPassed lines before after

-- the thread works on, and unless memory ran out it did this
pub record DoesWork {A E : Type 0} (s : Script) (h : Hall) (Did : PostingThread → PostingThread → Type 0) (before after : PostingThread) (result : Result A E)
    : Type 0 where
  pub works : WorksOn s h before after
  pub made : OnOk result (Did before after)

-- the thread is as it was but for its bells, which it has rung so often
pub record RingsBells (s : Script) (h : Hall) (rungs : List ℕ) (before after : PostingThread) : Type 0 where
  pub thread : IsThread s h after
  pub kept : ThreadKeeps HaveSeenSame before after
  pub rung : rungs_of after ≡ rungs
