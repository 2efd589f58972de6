-- The dispatches in a journal and in a history.
use Rattle.std.specs.Prelude.{◌≡◌, ℕ, ◌==◌, false, max, List, [], ◌∷◌, ◌++◌, Option, None, if◌then◌else◌, All}
use Rattle.std.specs.List.{filter_map}
use Rattle.loop_model.specs.declared.journal.Act.{Act}
use Rattle.loop_model.specs.declared.journal.Act.TheVariants.{Dispatch, Idle, Event, Vsync, Paint}
use Rattle.loop_model.specs.declared.call.Call.{Call}
use Rattle.loop_model.specs.declared.call.Call.TheVariants.{Next}
use Rattle.loop_model.specs.declared.entry.Entry.{Entry}
use Rattle.loop_model.specs.Base.{empty_base}
use Rattle.loop_model.specs.Answers.{Setting, clock}
use Rattle.loop_model.specs.Entries.{is_next}
use Rattle.loop_model.specs.Dispatches.{call_dispatch}

-- the number and the moment of the message that an entry of the sender takes
abbrev pub entry_dispatch : ℕ → Entry → Option (ℕ × ℕ)
entry_dispatch sender e = if e.sender == sender then call_dispatch e.call e.reply else None

-- the messages that the sender takes, in order
abbrev pub taken_messages : ℕ → List Entry → List (ℕ × ℕ)
taken_messages sender entries = filter_map (entry_dispatch sender) entries

-- an idle handler that ran, or an event that a listener was told of
abbrev pub IsQuietAct : Act → Type 0
IsQuietAct (Dispatch n now route) = ⊥
IsQuietAct (Idle i k) = Unit {0}
IsQuietAct (Event f e m) = Unit {0}
IsQuietAct (Vsync s) = ⊥
IsQuietAct (Paint g v) = ⊥

-- an idle handler that ran
abbrev pub IsIdleAct : Act → Type 0
IsIdleAct (Dispatch n now route) = ⊥
IsIdleAct (Idle i k) = Unit {0}
IsIdleAct (Event f e m) = ⊥
IsIdleAct (Vsync s) = ⊥
IsIdleAct (Paint g v) = ⊥

-- a pulse that was delivered, or a gauge that was painted: what a dispatcher tells itself
abbrev pub IsOfDispatcher : Act → Type 0
IsOfDispatcher (Dispatch n now route) = ⊥
IsOfDispatcher (Idle i k) = ⊥
IsOfDispatcher (Event f e m) = ⊥
IsOfDispatcher (Vsync s) = Unit {0}
IsOfDispatcher (Paint g v) = Unit {0}

-- acts of this kind were appended
abbrev pub GrowsBy : (Act → Type 0) → List Act → List Act → Type 0
GrowsBy P before after = (did : List Act) × (after ≡ before ++ did) × All P did

-- the entry is another sender's, or no look for a message
abbrev pub IsNoLookOf : ℕ → Entry → Type 0
IsNoLookOf sender e = e.sender ≡ sender → is_next e.call ≡ false

-- the moment of a look that names this one, after these entries: in lockstep the queue's time, and else no earlier than that
abbrev pub moment_on : Setting → List Entry → ℕ → ℕ
moment_on s past now = if s.lockstep then clock (empty_base s.senders) past else max now (clock (empty_base s.senders) past)

-- a look is made at this moment
abbrev pub IsLookAt : ℕ → Call → Type 0
IsLookAt moment (Next now) = now ≡ moment
IsLookAt moment _ = Unit {0}

-- after the past, each look of the sender is made at the moment that it has there by naming this one
abbrev pub AreLooksAt : Setting → ℕ → ℕ → List Entry → List Entry → Type 0
AreLooksAt s sender now past [] = Unit {0}
AreLooksAt s sender now past (e ∷ more) = (e.sender ≡ sender → IsLookAt (moment_on s past now) e.call) × AreLooksAt s sender now (past ++ e ∷ []) more
