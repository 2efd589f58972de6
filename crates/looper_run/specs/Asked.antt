-- What a dispatcher is asked at the starts of rounds.
use Rattle.std.specs.Prelude.{◌≡◌, ℕ, ◌≤◌, List, ◌∷◌, ◌++◌, map, Option, Some, None, All}
use Rattle.loop_model.specs.declared.journal.Act.{Act}
use Rattle.loop_model.specs.declared.journal.Act.TheVariants.{Event}

-- a listener that was asked about events on a descriptor, and the mask that it answered
pub record Listening : Type 0 where
  pub fd : ℕ
  pub events : ℕ
  pub listener : ℕ
  pub mask : ℕ

-- what a dispatcher is asked
pub data Asked : Type 0 where
  -- for a pulse, at this moment
  Pulse : (now : ℕ) → Asked
  -- for what a listener answers
  Listen : (listening : Listening) → Asked

-- a list that is told grows by these
abbrev pub with_asked : Option (List Asked) → List Asked → Option (List Asked)
with_asked None more = None
with_asked (Some told) more = Some (told ++ more)

-- what a round asks at its start: one pulse, and then these listenings
abbrev pub asked_by_round : ℕ → List Listening → List Asked
asked_by_round now heard = Pulse now ∷ map Listen heard

-- a list that is told grew by what a loop asks: a pulse at this moment, these listenings, and more of them at its end
abbrev pub AsksByLoop : Option (List Asked) → Option (List Asked) → ℕ → List Listening → List Listening → Type 0
AsksByLoop before after now heard more = after ≡ with_asked before (asked_by_round now heard ++ map Listen more)

-- a mask that a listener may answer
abbrev pub IsMask : Listening → Type 0
IsMask h = h.mask ≤ 7

-- the act of a listening
abbrev pub event_act : Listening → Act
event_act h = Event h.fd h.events h.mask

-- the acts of some listenings were appended, in order, and this holds of the listenings
abbrev pub TellsOf : (List Listening → Type 0) → List Act → List Act → Type 0
TellsOf called before after = (heard : List Listening) × (after ≡ before ++ map event_act heard) × All IsMask heard × called heard

-- nothing is said of the listenings
abbrev pub any_heard : List Listening → Type 0
any_heard heard = Unit {0}
