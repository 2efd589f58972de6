-- What a wait for a message does: looks that are answered to wait, and then the last one.
use Rattle.std.specs.Prelude.{◌≡◌, ◌≢◌, ℕ, zero, suc, ◌+◌, ◌-◌, ◌≤◌, ◌<◌, min, Bool, List, Option, None, Some, slice_get, All}
use Rattle.std.specs.Option.{option_map}
use mathlib.Core.List.{IsPrefix}
use Rattle.loop_io.specs.Moments.{IsMoment}
use Rattle.message_slot.specs.Letter.{IsAtHome}
use Rattle.queue_state.specs.declared.answers.Nexted.{Nexted}
use Rattle.queue_state.specs.declared.answers.Nexted.TheVariants as nexted
use Rattle.shared_queue.specs.declared.waiting.Waited.{Waited}
use Rattle.shared_queue.specs.declared.waiting.Waited.TheVariants as waited
use Rattle.shared_queue.specs.declared.waiting.Look.{Look}
use Rattle.shared_queue.specs.declared.waiting.Look.TheVariants as look
use Rattle.shared_queue.specs.Known.{Known, IsSamePoster}
use Rattle.shared_queue.specs.Claims.{IsAsAccepted}
use Rattle.shared_queue.specs.Calls.{NextedBy}

-- the moment is no earlier than the cap
abbrev pub IsCap : Option ℕ → ℕ → Type 0
IsCap cap now = (at : ℕ) × (cap ≡ Some at) × (at ≤ now)

-- the moment is earlier than the cap, or there is none
abbrev pub IsBeforeCap : Option ℕ → ℕ → Type 0
IsBeforeCap cap now = IsCap cap now → ⊥

-- the earlier of two moments, where there is one
abbrev pub earlier_of : Option ℕ → Option ℕ → Option ℕ
earlier_of None cap = cap
earlier_of (Some until) None = Some until
earlier_of (Some until) (Some cap) = Some (min until cap)

-- how long it is from the moment to the earlier of these two, where there is one
abbrev pub limit_of : ℕ → Option ℕ → Option ℕ → Option ℕ
limit_of now until cap = option_map (λ at. at - now) (earlier_of until cap)

module _ {H K : Type 0} where
  -- the same poster of the same queue, which took turns and rang no bell
  pub record HasStayed (before after : Known H K) : Type 0 where
    pub table : after.table ≡ before.table
    pub sender : after.sender ≡ before.sender
    pub constants : after.view.constants ≡ before.view.constants
    pub turns : before.view.turns < after.view.turns
    pub rung : after.view.rung ≡ before.view.rung
    -- what it has seen of the claims only grows
    pub claims : IsPrefix before.view.claims after.view.claims

  -- the poster read the bell, and that is all
  pub record HasListened (before after : Known H K) : Type 0 where
    pub same : IsSamePoster before after
    pub seen : after.view.seen ≡ before.view.seen
    pub claims : after.view.claims ≡ before.view.claims
    pub rung : after.view.rung ≡ before.view.rung
    pub listens : after.view.listens ≡ before.view.listens + 1

  -- a look at this moment of the clock was answered so
  pub record HasLooked (shows : ℕ → Bool) (start : ℕ) (idle : Bool) (now : ℕ) (answer : Nexted K H) (before after : Known H K) : Type 0 where
    pub moment : IsMoment shows start now
    pub look : NextedBy before after now idle answer

  -- a look before the cap was answered to wait, and then the bell was as before
  pub record HasSlept (shows : ℕ → Bool) (start : ℕ) (idle : Bool) (cap : Option ℕ) (before after : Known H K) : Type 0 where
    pub now : ℕ
    pub until : Option ℕ
    pub looked : Known H K
    pub look : HasLooked shows start idle now (nexted.Wait until) before looked
    pub early : IsBeforeCap cap now
    pub listened : HasListened looked after
    pub heard : after.view.heard ≡ before.view.heard

  -- a look since was answered to wait until this moment, the bell was read behind it, and the sleep ends no later than that moment and the cap
  pub record MaySleep (before after : Known H K) (cap limit : Option ℕ) : Type 0 where
    pub now : ℕ
    pub until : Option ℕ
    pub idle : Bool
    pub looked : Known H K
    pub look : NextedBy before looked now idle (nexted.Wait until)
    pub listened : HasListened looked after
    pub sleeps : limit ≡ limit_of now until cap

  -- so many looks, one after another
  abbrev pub Slept : (ℕ → Bool) → ℕ → Bool → Option ℕ → ℕ → Known H K → Known H K → Type 0
  Slept shows start idle cap zero before after = after ≡ before
  Slept shows start idle cap (suc n) before after =
      (between : Known H K) × Slept shows start idle cap n before between × HasSlept shows start idle cap between after

  -- the bell was rung since the last reading before: a look before the cap was answered to wait, and then the bell was another
  pub record HasNudged (shows : ℕ → Bool) (start : ℕ) (idle : Bool) (cap : Option ℕ) (before after : Known H K) : Type 0 where
    pub now : ℕ
    pub until : Option ℕ
    pub looked : Known H K
    pub look : HasLooked shows start idle now (nexted.Wait until) before looked
    pub early : IsBeforeCap cap now
    pub listened : HasListened looked after
    pub heard : after.view.heard ≢ before.view.heard

  -- the last look, by the answer of the wait
  abbrev pub LastLookBy : (ℕ → Bool) → ℕ → Bool → Option ℕ → Known H K → Known H K → Waited K H → Type 0
  LastLookBy shows start idle cap before after (waited.Taken number at node) =
      (now : ℕ) × HasLooked shows start idle now (nexted.Taken number at node) before after
  LastLookBy shows start idle cap before after waited.Idle = (now : ℕ) × HasLooked shows start idle now nexted.Idle before after
  LastLookBy shows start idle cap before after (waited.End list) = (now : ℕ) × HasLooked shows start idle now (nexted.End list) before after
  LastLookBy shows start idle cap before after waited.Over = (now : ℕ) × HasLooked shows start idle now nexted.Over before after
  LastLookBy shows start idle cap before after (waited.Cap now) =
      (until : Option ℕ) × HasLooked shows start idle now (nexted.Wait until) before after × IsCap cap now
  LastLookBy shows start idle cap before after waited.Nudged = HasNudged shows start idle cap before after

  -- a wait: looks that were answered to wait, and then the last one, by its answer
  abbrev pub WaitedBy : (ℕ → Bool) → ℕ → Bool → Option ℕ → Known H K → Known H K → Waited K H → Type 0
  WaitedBy shows start idle cap before after result =
      (n : ℕ) × (between : Known H K) × Slept shows start idle cap n before between × LastLookBy shows start idle cap between after result

  -- one look, and what comes of it
  abbrev pub LooksOnce : (ℕ → Bool) → ℕ → Bool → Option ℕ → Known H K → Known H K → Look K H → Type 0
  LooksOnce shows start idle cap before after (look.Ends result) = LastLookBy shows start idle cap before after result
  LooksOnce shows start idle cap before after (look.Sleeps limit) =
      (s : HasSlept shows start idle cap before after) × (limit ≡ limit_of s.now s.until cap)

  -- what comes after a look that was answered to wait
  abbrev pub Stays : Option ℕ → ℕ → Option ℕ → Known H K → Known H K → Look K H → Type 0
  Stays cap now until before after (look.Ends (waited.Cap at)) = (at ≡ now) × IsCap cap now × (after ≡ before)
  Stays cap now until before after (look.Ends waited.Nudged) = IsBeforeCap cap now × HasListened before after × (after.view.heard ≢ before.view.heard)
  Stays cap now until before after (look.Sleeps limit) =
      IsBeforeCap cap now × HasListened before after × (after.view.heard ≡ before.view.heard) × (limit ≡ limit_of now until cap)
  Stays cap now until before after _ = ⊥

  -- what is handed out is of the home
  abbrev pub WaitsAtHome : (K → H) → H → Waited K H → Type 0
  WaitsAtHome of home (waited.Taken number at node) = IsAtHome of home node
  WaitsAtHome of home waited.Idle = Unit {0}
  WaitsAtHome of home (waited.End list) = All (IsAtHome of home) list
  WaitsAtHome of home waited.Over = Unit {0}
  WaitsAtHome of home (waited.Cap now) = Unit {0}
  WaitsAtHome of home waited.Nudged = Unit {0}

  abbrev pub LooksOnceAtHome : (K → H) → H → Look K H → Type 0
  LooksOnceAtHome of home (look.Ends result) = WaitsAtHome of home result
  LooksOnceAtHome of home (look.Sleeps limit) = Unit {0}

  -- each message that is handed out has the claim that was accepted with its number
  abbrev pub WaitsAsAccepted : List (Option K) → Waited K H → Type 0
  WaitsAsAccepted claims (waited.Taken number at node) = slice_get claims number ≡ Some node.claim
  WaitsAsAccepted claims waited.Idle = Unit {0}
  WaitsAsAccepted claims (waited.End list) = All (IsAsAccepted claims) list
  WaitsAsAccepted claims waited.Over = Unit {0}
  WaitsAsAccepted claims (waited.Cap now) = Unit {0}
  WaitsAsAccepted claims waited.Nudged = Unit {0}

  abbrev pub LooksOnceAsAccepted : List (Option K) → Look K H → Type 0
  LooksOnceAsAccepted claims (look.Ends result) = WaitsAsAccepted claims result
  LooksOnceAsAccepted claims (look.Sleeps limit) = Unit {0}
