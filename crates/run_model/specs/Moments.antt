-- How the uptime goes in a run: by the controller's Advances in lockstep, or by a clock.
use Rattle.std.specs.Prelude.{◌≡◌, ℕ, ◌-◌, ◌≤◌, Bool, true, false, List, [], ◌∷◌, ◌++◌, MatchBool, ◌⊎◌}
use Rattle.loop_model.specs.declared.call.Call.{Call}
use Rattle.loop_model.specs.declared.call.Call.TheVariants.{Post, Unbarrier, Remove}
use Rattle.loop_model.specs.declared.entry.Entry.{Entry}
use Rattle.loop_model.specs.Entries.{moment_of}
use Rattle.loop_model.specs.Base.{empty_base}
use Rattle.loop_model.specs.Answers.{clock}

pub record Mode : Type 0 where
  pub lockstep : Bool
  -- the numbers that the clock shows
  pub shows : ℕ → Bool
  -- its reading at the start
  pub start : ℕ

-- in lockstep no clock is read; this is so in lockstep, and this in free mode
abbrev pub in_lockstep : Mode
in_lockstep = record { lockstep = true; shows = λ reading. true; start = 0 }

abbrev pub IfLockstep : Mode → Type 0 → Type 0
IfLockstep m P = MatchBool m.lockstep P (Unit {0})

abbrev pub IfFree : Mode → Type 0 → Type 0
IfFree m P = MatchBool m.lockstep (Unit {0}) P

-- a moment is what a number that the clock shows is past the start
pub record IsMomentOf (m : Mode) (now : ℕ) : Type 0 where
  pub reading : ℕ
  pub shown : m.shows reading ≡ true
  pub since : now ≡ reading - m.start

-- the uptime of a command is the time of its block, and in free mode a moment no earlier
abbrev pub IsUptime : Mode → ℕ → ℕ → Type 0
IsUptime m time uptime = MatchBool m.lockstep (uptime ≡ time) ((time ≤ uptime) × IsMomentOf m uptime)

-- the moment of the call, where it has one of its own, is a moment of the clock or the time of the queue
abbrev pub has_moment : Call → Bool
has_moment (Post p) = false
has_moment (Unbarrier token) = false
has_moment (Remove f) = false
has_moment _ = true

abbrev pub IsOfClock : Mode → ℕ → Call → Type 0
IsOfClock m time call = MatchBool (has_moment call) (IsMomentOf m (moment_of call) ⊎ (moment_of call ≡ time)) (Unit {0})

-- each entry that passes the test has such a moment
abbrev pub AreOfClockAfter : Mode → (Entry → Bool) → List Entry → List Entry → Type 0
AreOfClockAfter m test past [] = Unit {0}
AreOfClockAfter m test past (e ∷ es) =
    MatchBool (test e) (IsOfClock m (clock (empty_base 0) past) e.call) (Unit {0}) × AreOfClockAfter m test (past ++ e ∷ []) es
