-- A looper's code for one loop by a clock, and how it leaves its looper.
use Rattle.std.specs.Prelude.{◌≡◌, ◌||◌, ◌⊎◌, ℕ, zero, suc, min, Bool, true, false, Option, Some, None, IsSomeAnd, nat_le}
use Rattle.std.specs.Option.{option_map}
use mathlib.Core.List.{IsPrefix}
use Rattle.choreographer.specs.Calls.{AskedBy}
use Rattle.dash_script.specs.declared.script.Script.{Script}
use Rattle.looper_run.specs.declared.looper.Round.{Round}
use Rattle.looper_run.specs.declared.by_clock.Loop.{Loop}
use Rattle.looper_run.specs.declared.by_clock.Loop.TheVariants as loop
use Rattle.looper_run.specs.Holding.{Looping, workplace}
use Rattle.looper_run.specs.Loops.{LoopBy}
use Rattle.looper_run.specs.Round.{is_ended}
use Rattle.run_model.specs.FrameRecords.{millis_up}
use Rattle.run_model.specs.Moments.{Mode}
use Rattle.run_model.specs.ByClock.{in_free_mode}
use Rattle.dash_hall.specs.declared.hall.Hall.{Hall}
use Rattle.dash_hall.specs.declared.timer.Timer.{Timer}
use Rattle.dash_loopers.specs.declared.by_clock.ClockPlayer.{ClockPlayer}
use Rattle.dash_loopers.specs.declared.looper.StageLooper.{StageLooper}
use Rattle.dash_loopers.specs.declared.player.Parts.{Parts}
use Rattle.dash_loopers.specs.Loopers.{IsLooper, is_given_up, round_of, setting_in, posters_of}
use Rattle.dash_loopers.specs.Played.{HasPlayedBy}
use Rattle.dash_loopers.specs.Clocked.{ClockOwner, ServesFree, IsPlayingAt, StaysByClock}

-- free mode, by what a timer's clock shows
abbrev pub clock_mode : {C : Type 0} → (C → ℕ → Bool) → Timer C → Mode
clock_mode shows t = in_free_mode (shows t.clock.now) t.start

-- what the looper had seen and what it had told it goes on from
pub record GoesOnFrom (before after : Looping) : Type 0 where
  pub seen : IsPrefix before.held.poster.view.seen after.held.poster.view.seen
  pub acts : IsPrefix before.held.journal.acts after.held.journal.acts

-- so it is unless memory ran out
abbrev pub StaysTold : StageLooper → StageLooper → Type 0
StaysTold before after = is_given_up after.last ≡ false → GoesOnFrom before.looper after.looper

-- a looper of the script has gone on by what it stood at, and by the clock, and is a looper of the script still
pub record HasLooped (m : Mode) (s : Script) (hall : Hall) (before after : StageLooper) : Type 0 where
  pub looper : IsLooper s hall after
  pub number : after.number ≡ before.number
  pub plays : HasPlayedBy s before after
  pub clocked : StaysByClock m before after
  pub grew : StaysTold before after

-- the looper with these parts, behind a round that ended so
abbrev pub looper_with_parts : StageLooper → Round → Parts → StageLooper
looper_with_parts l last parts = record l { parts = Some parts; last = last }

-- whose code a loop runs which begins with this looper
abbrev pub owner_of : Mode → Script → Hall → StageLooper → ClockOwner
owner_of m s hall began = record { owner = record { script = s; hall = hall; number = began.number; now = 0; began = began }; mode = m }

-- whose code it is
abbrev pub owner_in : {R G C : Type 0} → Mode → ClockPlayer R G C → ClockOwner
owner_in m p =
    record { owner = record { script = p.place.script.now; hall = p.place.hall.now; number = p.place.looper; now = 0; began = p.began.now.value }; mode = m }

-- the code serves its looper's queue
abbrev pub PlayerServes : {R G C : Type 0} → ClockPlayer R G C → Looping → Type 0
PlayerServes p l = ServesFree p.place.script.now p.place.hall.now p.place.looper p.parts (workplace l.held)

-- in a loop by a clock the code's looper has gone on as far as this
abbrev pub PlayerPlays : {R G C : Type 0} → Mode → ClockPlayer R G C → Looping → Type 0
PlayerPlays m p l = IsPlayingAt m p.place.script.now p.place.looper p.began.now.value l.held.poster.sender l.held.poster.view.seen l.held.journal.acts p.parts

-- the code's looper has gone on so since the loop began
abbrev pub PlayerLooped : {R G C : Type 0} → Mode → ClockPlayer R G C → StageLooper → Type 0
PlayerLooped m p after = HasLooped m p.place.script.now p.place.hall.now p.began.now.value after

-- the code of a loop that begins with this looper: it is this looper's by this clock, serves its queue, and has gone on as far as the looper has come
pub record PlayerBegins {R G C : Type 0} (m own : Mode) (s : Script) (hall : Hall) (before : StageLooper) (p : ClockPlayer R G C) (l : Looping) : Type 0 where
  pub owner : owner_in own p ≡ owner_of m s hall before
  pub serves : PlayerServes p l
  pub begins : PlayerPlays own p l

-- ---- up to when it loops

-- the earlier of two times, where there are two
abbrev pub earlier_of : Option ℕ → Option ℕ → Option ℕ
earlier_of None b = b
earlier_of (Some x) None = Some x
earlier_of (Some x) (Some y) = Some (min x y)

-- the loop ended with nothing due at a moment that is no earlier than the end, where there is one
abbrev pub ends_at : Loop → Option ℕ → Bool
ends_at (loop.Cap now) (Some end) = nat_le end now
ends_at (loop.Cap now) None = false
ends_at loop.Ended end = false
ends_at loop.Nudged end = false
ends_at loop.NoMemory end = false

-- by one turn of its own pass the looper found this pulse, which is asked for at its choreographer, in milliseconds rounded up, or that none is
pub record LooksForPulse (before after : Parts) (pulse : Option ℕ) : Type 0 where
  pub stamp : Option ℕ
  pub turn : AskedBy before.frames after.frames stamp
  pub rounded : pulse ≡ option_map millis_up stamp
  pub rest : after ≡ record before { frames = after.frames }

-- the same of a looper by its parts, which it has between two loops
abbrev pub LooperAsksPulse : StageLooper → StageLooper → Option ℕ → Type 0
LooperAsksPulse before after pulse = IsSomeAnd before.parts (λ p. IsSomeAnd after.parts (λ r. LooksForPulse p r pulse))

-- the looper looped by the clock up to this cap
abbrev pub LoopsUpToCap : Mode → Script → Option ℕ → StageLooper → StageLooper → Loop → Type 0
LoopsUpToCap m s cap before after how = LoopBy m.shows m.start cap (setting_in false s before.number) before.looper.held after.looper.held how

-- it had neither ended nor given up; it looked for its pulse, and then looped up to that or up to the end, whichever is earlier
pub record LoopsToPulse (m : Mode) (s : Script) (end : Option ℕ) (before after : StageLooper) (how : Loop) : Type 0 where
  pub going : (is_ended before.last || is_given_up before.last) ≡ false
  pub asked : StageLooper
  pub pulse : Option ℕ
  pub looks : LooperAsksPulse before asked pulse
  pub loops : LoopsUpToCap m s (earlier_of pulse end) before after how
  pub last : after.last ≡ round_of how

-- so many loops, one after another, none of which came to the end
abbrev pub HasGoneRound : Mode → Script → Option ℕ → ℕ → StageLooper → StageLooper → Type 0
HasGoneRound m s end zero before after = after ≡ before
HasGoneRound m s end (suc n) before after =
    (between : StageLooper) × HasGoneRound m s end n before between × (how : Loop) × LoopsToPulse m s end between after how × (ends_at how end ≡ false)

-- why it loops no further: a look found the run given up; or it has ended or given up itself, or its last loop came to the end with nothing due
abbrev pub StopsBy : Mode → Script → Option ℕ → StageLooper → StageLooper → Option Bool → Type 0
StopsBy m s end between after (Some look) = (look ≡ true) × ((is_ended between.last || is_given_up between.last) ≡ false) × (after ≡ between)
StopsBy m s end between after None =
    (((is_ended between.last || is_given_up between.last) ≡ true) × (after ≡ between))
    ⊎ ((how : Loop) × LoopsToPulse m s end between after how × (ends_at how end ≡ true))

-- loops, one after another, until it stopped; the look is there where it found the run given up
pub record LoopsUntilStopped (m : Mode) (s : Script) (end : Option ℕ) (before after : StageLooper) (look : Option Bool) : Type 0 where
  pub count : ℕ
  pub between : StageLooper
  pub rounds : HasGoneRound m s end count before between
  pub stops : StopsBy m s end between after look

-- the looper has looked for its pulse, and stands where it stood
pub record HasOnlyLooked (s : Script) (hall : Hall) (before after : StageLooper) : Type 0 where
  pub looper : IsLooper s hall after
  pub number : after.number ≡ before.number
  pub last : after.last ≡ before.last
  pub plays : HasPlayedBy s before after
  pub posters : posters_of after ≡ posters_of before
  pub held : after.looper ≡ before.looper
