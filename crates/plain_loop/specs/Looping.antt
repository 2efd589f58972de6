-- What a looper does that lets its records go now and then.
use Rattle.std.specs.Prelude.{◌≡◌, ◌≢◌, ℕ, zero, suc, min, Bool, IsTrue, true, false, List, Option, Some, None, Result, Ok}
use Rattle.loop_model.specs.declared.entry.Entry.{Entry}
use Rattle.loop_model.specs.declared.journal.Act.{Act}
use Rattle.loop_model.specs.declared.memory.NoMemory.{NoMemory}
use Rattle.loop_model.specs.Answers.{Setting}
use Rattle.loop_model.specs.Posts.{moment_after}
use Rattle.looper_run.specs.declared.by_clock.Loop.{Loop}
use Rattle.looper_run.specs.declared.by_clock.Loop.TheVariants as loop
use Rattle.looper_run.specs.Holding.{Looping, Workplace, workplace}
use Rattle.looper_run.specs.Loops.{LoopsOrGoes, is_over_then}
use Rattle.looper_run.specs.LettingGo.{LetsGo, untold}
use Rattle.atomic_table.specs.Seated.{TableId}
use Rattle.shared_queue.specs.Known.{Shared}
use Rattle.plain_loop.specs.Senders.{IsQueueLooper}

-- where its queue's entries are kept a looper waits until a second from now at the most, and else as long as it is to
abbrev pub WaitsTo : (ℕ → Bool) → Bool → Option ℕ → Option ℕ → Type 0
WaitsTo shows false until cap = cap ≡ until
WaitsTo shows true None cap = (now : ℕ) × IsTrue (shows now) × (cap ≡ Some (moment_after now 1000))
WaitsTo shows true (Some until) cap = (now : ℕ) × IsTrue (shows now) × (cap ≡ Some (min until (moment_after now 1000)))

-- the acts were let go, and where its queue's entries are kept a part of them was, unless memory ran out
abbrev pub LetsGoOf : Bool → Result (Unit {0}) NoMemory → Looping → Looping → Type 0
LetsGoOf true gone before after = LetsGo gone before after
LetsGoOf false gone before after = (gone ≡ Ok tt) × (after ≡ untold before)

-- the test of this dispatcher's kind is always true
abbrev pub IsAlwaysMet : {D : Type 0} → (D → ℕ → List Entry → List Act → Type 0) → Type 0
IsAlwaysMet {D} Meets = (d : D) (s : ℕ) (es : List Entry) (acts : List Act) → Meets d s es acts

-- a loop may dispatch by it: it serves this place, awaits none, and its test is always true
pub record ServesAlways {D : Type 0} (Works : D → Workplace → Type 0) (Awaiting : D → Option ℕ → Type 0) (Passing : D → ℕ → List Entry → List Act → Type 0)
    (d : D) (at : Workplace) : Type 0 where
  pub serves : Works d at
  pub awaits : Awaiting d None
  pub meets : IsAlwaysMet Passing

-- of a dispatcher: it serves what it served, and its origin stays
pub record KeepsDispatcher {D : Type 0} {O : Type 0} (Works : D → Workplace → Type 0) (source : D → O) (before after : D) : Type 0 where
  pub serves : (w : Workplace) → Works before w → Works after w
  pub origin : source after ≡ source before

module _ (keeps : Bool) (shows : ℕ → Bool) (s : Setting) (until : Option ℕ) where
  -- a loop by the clock with this answer, which waits no longer than it may; none where it was left in between
  abbrev pub LoopsOnce : Option Loop → Looping → Looping → Type 0
  LoopsOnce answer before after = (cap : Option ℕ) × WaitsTo shows keeps until cap × LoopsOrGoes shows 0 cap s before.held after.held answer

  -- a loop that found memory and did not end the looper, behind which it let its records go
  abbrev pub LoopsAndLetsGo : Looping → Looping → Type 0
  LoopsAndLetsGo before after =
      (answer : Option Loop) × (is_over_then answer ≡ false) × (answer ≢ Some loop.NoMemory)
      × (looped : Looping) × LoopsOnce answer before looped × LetsGoOf keeps (Ok tt) looped after

  -- a loop that ended the looper, or one behind which it let its records go
  abbrev pub EndsOrLetsGo : Bool → Looping → Looping → Type 0
  EndsOrLetsGo true before after = LoopsOnce (Some loop.Ended) before after
  EndsOrLetsGo false before after = LoopsAndLetsGo before after

  -- so many of these, one behind another
  abbrev pub LoopsTimes : ℕ → Looping → Looping → Type 0
  LoopsTimes zero before after = after ≡ before
  LoopsTimes (suc n) before after = (between : Looping) × LoopsTimes n before between × LoopsAndLetsGo between after

  -- so many of these, and then a loop that ended the looper
  abbrev pub LoopsToItsEnd : Looping → Looping → Type 0
  LoopsToItsEnd before after = (n : ℕ) × (last : Looping) × LoopsTimes n before last × LoopsOnce (Some loop.Ended) last after

-- a looper of this queue and this pool that looped on in its place: it has ended where it is over, and else it may loop again
pub record HasLoopedOn (keeps : Bool) (shows : ℕ → Bool) (until : Option ℕ) (queue : Shared TableId) (pool : TableId)
    (before after : Looping) (over : Bool) : Type 0 where
  pub loops : EndsOrLetsGo keeps shows queue.constants.setting until over before after
  pub ended : after.ended ≡ over
  pub looper : over ≡ false → IsQueueLooper queue pool after
  pub place : workplace after.held ≡ workplace before.held
