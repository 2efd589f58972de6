-- The controller of a run, and what it has called so far.
use Rattle.std.specs.Prelude.{◌≡◌, ◌≢◌, ◌<◌, ◌≤◌, ◌+◌, ◌&&◌, nat_le, ℕ, Bool, true, false, List, [], ◌∷◌, map, length, slice_index_or, Option}
use Rattle.std.specs.Global.{Vec}
use Rattle.std.specs.Option.{option_map}
use Rattle.loop_model.specs.declared.entry.Entry.{Entry}
use Rattle.loop_model.specs.declared.segment.Segment.{Segment}
use Rattle.loop_model.specs.Base.{empty_base}
use Rattle.loop_model.specs.Entries.{moment_of}
use Rattle.loop_model.specs.Answers.{clock}
use Rattle.dash_script.specs.declared.script.Script.{Script}
use Rattle.looper_run.specs.Holding.{Sender}
use Rattle.choreographer.specs.Known.{Pass}
use Rattle.choreographer.specs.Calls.{AskedBy}
use Rattle.choreographer.specs.Ends.{HasHandedOut, entries_in}
use Rattle.frame_phases.specs.declared.entry.FrameEntry.{FrameEntry}
use Rattle.run_model.specs.FrameRecords.{millis_up}
use Rattle.run_model.specs.Planned.{controller}
use Rattle.run_model.specs.Control.{is_advance, are_controls}
use Rattle.dash_hall.specs.declared.hall.Hall.{Hall}
use Rattle.dash_stage.specs.declared.control.Controller.{Controller}
use Rattle.dash_hall.specs.Growth.{own}
use Rattle.dash_hall.specs.Kits.{IsHall, ArePostersOf, ArePassesOf, frame_badge_of}

-- the parts that these posters handed out of their queues' histories, in order
abbrev pub parts_handed_out : List Sender → List (List Segment)
parts_handed_out posters = map (λ p. p.view.sealed) posters

-- the parts that stand in these lists, in order
abbrev pub parts_in : {A : Type 0} → List (Vec A) → List (List A)
parts_in lists = map (λ v. v.items) lists

-- each of these passes handed out the entries of the parts that stand in its list
abbrev pub HaveHandedOut : List Pass → List (Vec (List FrameEntry)) → Type 0
HaveHandedOut [] [] = Unit {0}
HaveHandedOut [] (v ∷ lists) = ⊥
HaveHandedOut (p ∷ passes) [] = ⊥
HaveHandedOut (p ∷ passes) (v ∷ lists) = HasHandedOut p (entries_in v.items) × HaveHandedOut passes lists

-- the controller of the script, with what it needs in the hall; it keeps the parts of the histories and of the frame records that it handed out; its turns at
-- the choreographers, which look for the pulse that is asked for and hand entries out, record nothing
pub record IsControllerIn (lockstep : Bool) (s : Script) (hall : Hall) (c : Controller) : Type 0 where
  pub posters : ArePostersOf (controller s) hall.queues.items c.kit.posters.items
  pub frames : ArePassesOf (s.threads + 1) hall.choreographers.items c.kit.frames.items
  pub pass : c.kit.pass.home ≡ hall.pool
  pub mode : hall.lockstep ≡ lockstep
  pub idle : (q : ℕ) (p : Pass) → q < length c.kit.frames.items → (slice_index_or c.kit.frames.items q p).view.own ≡ []
  pub sealed : parts_handed_out c.kit.posters.items ≡ parts_in c.sealed.items
  pub sealed_frames : HaveHandedOut c.kit.frames.items c.sealed_frames.items

-- the same in lockstep
abbrev pub IsController : Script → Hall → Controller → Type 0
IsController s hall c = IsControllerIn true s hall c

-- the controller of the script, which may take a turn on the queue of the looper at this place
pub record CanTurn (lockstep : Bool) (s : Script) (hall : Hall) (place : ℕ) (c : Controller) : Type 0 where
  pub is_hall : IsHall s hall
  pub controller : IsControllerIn lockstep s hall c
  pub known : place < s.loopers

-- the controller of the script, in the script's hall
pub record Controls (lockstep : Bool) (s : Script) (hall : Hall) (c : Controller) : Type 0 where
  pub is_hall : IsHall s hall
  pub controller : IsControllerIn lockstep s hall c

-- moves of the time alone, none past the end
abbrev pub are_advances : ℕ → List Entry → Bool
are_advances end [] = true
are_advances end (e ∷ es) = is_advance e.call && nat_le (moment_of e.call) end && are_advances end es

-- the time to which these entries moved
abbrev pub time_in : List Entry → ℕ
time_in es = clock (empty_base 0) es

-- what the controller has called on the queue of this looper
abbrev pub calls_on : Controller → ℕ → Sender → List Entry
calls_on c q d = own (slice_index_or c.kit.posters.items q d)

-- it has only moved the time of this queue on
abbrev pub OnlyMoves : Script → Controller → ℕ → Type 0
OnlyMoves s c q = (d : Sender) → q < length c.kit.posters.items → are_advances s.end (calls_on c q d) ≡ true

-- in lockstep it has moved the time of this queue on; and it may have quit it safely at the end, or by a clock no earlier
abbrev pub MovesAndQuits : Bool → Script → Controller → ℕ → Type 0
MovesAndQuits lockstep s c q = (d : Sender) → q < length c.kit.posters.items → are_controls false lockstep s.end true (calls_on c q d) ≡ true

-- in lockstep it has moved the time of main on to the end; and it has halted main there, or by a clock no earlier
abbrev pub MovesAndHalts : Bool → Script → Controller → Type 0
MovesAndHalts lockstep s c = (d : Sender) → 0 < length c.kit.posters.items → are_controls true lockstep s.end false (calls_on c 0 d) ≡ true

-- so far it has moved the time of the queues on
abbrev pub IsMoving : Script → Controller → Type 0
IsMoving s c = (q : ℕ) → OnlyMoves s c q

-- the time of main has come to this one
abbrev pub HasReached : ℕ → Controller → Type 0
HasReached time c = (d : Sender) → 0 < length c.kit.posters.items → time ≤ time_in (calls_on c 0 d)

-- the time of main has come to the end, and the queues below this one may have been quit
pub record IsQuitting (s : Script) (n : ℕ) (c : Controller) : Type 0 where
  pub side : 0 < n
  pub main : OnlyMoves s c 0
  pub reached : HasReached s.end c
  pub done : (q : ℕ) → 0 < q → q < n → MovesAndQuits true s c q
  pub rest : (q : ℕ) → n ≤ q → OnlyMoves s c q

-- the time of main has come to the end, and the other queues may have been quit
pub record IsClosing (s : Script) (c : Controller) : Type 0 where
  pub main : OnlyMoves s c 0
  pub reached : HasReached s.end c
  pub others : (q : ℕ) → 0 < q → MovesAndQuits true s c q

-- main was halted at the end, or by a clock no earlier, and the other queues may have been quit
pub record HasClosedIn (lockstep : Bool) (s : Script) (c : Controller) : Type 0 where
  pub main : MovesAndHalts lockstep s c
  pub others : (q : ℕ) → 0 < q → MovesAndQuits lockstep s c q

-- the same in lockstep
abbrev pub HasClosed : Script → Controller → Type 0
HasClosed s c = HasClosedIn true s c

-- it has called nothing on this queue
abbrev pub CallsNothingOn : Controller → ℕ → Type 0
CallsNothingOn c q = (d : Sender) → q < length c.kit.posters.items → calls_on c q d ≡ []

-- by a clock: the queues below this one, but main, may have been quit, and nothing else was called
pub record IsQuittingBy (s : Script) (n : ℕ) (c : Controller) : Type 0 where
  pub main : CallsNothingOn c 0
  pub done : (q : ℕ) → 0 < q → q < n → MovesAndQuits false s c q
  pub rest : (q : ℕ) → n ≤ q → CallsNothingOn c q

-- by a clock: the queues but main may have been quit, and nothing else was called
pub record IsClosingBy (s : Script) (c : Controller) : Type 0 where
  pub main : CallsNothingOn c 0
  pub others : (q : ℕ) → 0 < q → MovesAndQuits false s c q

-- it has called nothing on any queue
pub record CallsNone (before after : Controller) : Type 0 where
  pub long : length after.kit.posters.items ≡ length before.kit.posters.items
  pub calls : (q : ℕ) (d : Sender) → calls_on after q d ≡ calls_on before q d

-- by one turn at this looper's choreographer the controller found this pulse, which is asked for there, in milliseconds rounded up, or that none is
pub record LooksFor (looper : ℕ) (before after : Controller) (pulse : Option ℕ) : Type 0 where
  pub stamp : Option ℕ
  pub turn : (p : Pass) → AskedBy (slice_index_or before.kit.frames.items looper p) (slice_index_or after.kit.frames.items looper p) stamp
  pub rounded : pulse ≡ option_map millis_up stamp

-- the pass recorded nothing more, and what it handed out still stands in these lists of parts
pub record HandsOutFrames (before after : Pass) (had has : List (List FrameEntry)) : Type 0 where
  pub badge : frame_badge_of after ≡ frame_badge_of before
  pub own : after.view.own ≡ before.view.own
  pub parts : HasHandedOut before (entries_in had) → HasHandedOut after (entries_in has)

-- the controller's poster of this queue before and after are so
abbrev pub AtPoster : (Sender → Sender → Type 0) → ℕ → Controller → Controller → Type 0
AtPoster R place before after = (d : Sender) → R (slice_index_or before.kit.posters.items place d) (slice_index_or after.kit.posters.items place d)

-- its posters of all other queues are as before
abbrev pub OtherPostersStay : ℕ → Controller → Controller → Type 0
OtherPostersStay place before after =
    (q : ℕ) (d : Sender) → q ≢ place → slice_index_or after.kit.posters.items q d ≡ slice_index_or before.kit.posters.items q d

-- its passes of all other choreographers are as before
abbrev pub OtherPassesStay : ℕ → Controller → Controller → Type 0
OtherPassesStay place before after = (q : ℕ) (p : Pass) → q ≢ place → slice_index_or after.kit.frames.items q p ≡ slice_index_or before.kit.frames.items q p

-- it is the script's controller still, and its posters of all other queues are as before
pub record TurnsAlone (lockstep : Bool) (s : Script) (hall : Hall) (place : ℕ) (before after : Controller) : Type 0 where
  pub controller : IsControllerIn lockstep s hall after
  pub elsewhere : OtherPostersStay place before after
