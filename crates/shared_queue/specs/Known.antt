-- What a clause sees of a queue and of a poster, and what a call does to it.
use Rattle.std.specs.Prelude.{◌≡◌, ◌≢◌, ℕ, ◌+◌, ◌-◌, ◌⊎◌, false, List, [], ◌∷◌, ◌++◌, length, Option, Some}
use Rattle.std.specs.Option.{option_map}
use mathlib.Core.List.{IsPrefix}
use Rattle.atomic_table.specs.Table.{Me}
use Rattle.atomic_table.specs.Seated.{TableId}
use Rattle.loop_model.specs.declared.entry.Entry.{Entry}
use Rattle.loop_model.specs.declared.base.Base.{Base}
use Rattle.loop_model.specs.declared.segment.Segment.{Segment}
use Rattle.loop_model.specs.Chain.{after}
use Rattle.queue_state.specs.Queue.{Queue, IsSound}
use Rattle.shared_queue.specs.declared.view.View.{View}
use Rattle.shared_queue.specs.Constants.{Constants, made_in, IsStateOf}
use Rattle.shared_queue.specs.Whole.{ShowsWhole}
use Rattle.shared_queue.specs.Claims.{ClaimsGoOn}

-- a queue: its table, and its constants
pub record Shared (H : Type 0) : Type 0 where
  pub table : TableId
  pub constants : Constants H

-- a poster: the table of its queue, its sender number, and what it knows
pub record Known (H K : Type 0) : Type 0 where
  pub table : TableId
  pub sender : ℕ
  pub view : View (Queue H K) H K

-- where the state left starts from: from where the state found did, or from what the part that was handed out has left
abbrev pub next_start : List Segment → Option Base → Option Base
next_start [] start = start
next_start (p ∷ ps) start = next_start ps (Some (after p.base p.entries))

-- what was handed out, with these parts behind it
abbrev pub with_parts : List Segment → List Segment → List Segment
with_parts kept [] = kept
with_parts kept (p ∷ ps) = with_parts (kept ++ p ∷ []) ps

module _ {H K : Type 0} where
  -- how many entries it has made
  abbrev pub own_count : Known H K → ℕ
  own_count p = made_in p.sender p.view.seen

  -- no other poster than the last sender's handed anything out
  abbrev pub KeepsNone : Known H K → Type 0
  KeepsNone p = (c : Constants H) → p.view.constants ≡ Some c → p.sender + 1 ≢ c.setting.senders → p.view.sealed ≡ []

  -- the poster is one of this queue
  abbrev pub IsOf : Known H K → Shared H → Type 0
  IsOf p q = (p.table ≡ q.table) × (p.view.constants ≡ Some q.constants)

  -- the seat is live, has no turn and holds no slot
  abbrev pub Rests : Constants H → Me (Option (Queue H K)) (View (Queue H K) H K) → Type 0
  Rests c m = (m.0.constants ≡ Some c) × (m.0.has_turn ≡ false) × (m.1 ≡ [])

  -- the same queue, with at most one entry more, of this sender
  abbrev pub StepsBy : ℕ → Queue H K → Queue H K → Type 0
  StepsBy s x y =
      (y.home ≡ x.home) × (y.setting ≡ x.setting) × (y.start ≡ x.start)
      × ((y.entries ≡ x.entries) ⊎ ((e : Entry) × (y.entries ≡ x.entries ++ e ∷ []) × (e.sender ≡ s)))

  -- the call was one turn, which found x and left y, both over their whole histories, and handed these parts out; and the poster
  -- has seen the whole history
  pub record IsTurnWith (parts : List Segment) (before after : Known H K) (x y : Queue H K) : Type 0 where
    pub table : after.table ≡ before.table
    pub sender : after.sender ≡ before.sender
    pub constants : after.view.constants ≡ before.view.constants
    pub turns : after.view.turns ≡ before.view.turns + 1
    -- the very states, which start from what was handed out before
    pub found : ShowsWhole after.view.found x
    pub left : ShowsWhole after.view.left y
    pub start : option_map (λ (z : Queue H K). z.start) after.view.left ≡ next_start parts (option_map (λ (z : Queue H K). z.start) after.view.found)
    pub sealed : after.view.sealed ≡ with_parts before.view.sealed parts
    -- both are states of the poster's queue, and sound
    pub own : (c : Constants H) → before.view.constants ≡ Some c → IsStateOf c x × IsStateOf c y
    pub sound : IsSound x × IsSound y
    -- the history found begins with what the poster had seen, and has as many entries of it
    pub begins : IsPrefix before.view.seen x.entries
    pub found_made : made_in before.sender x.entries ≡ own_count before
    -- the poster made what was appended, and has seen it
    pub step : StepsBy before.sender x y
    pub seen : after.view.seen ≡ y.entries
    pub made : own_count after ≡ own_count before + (length y.entries - length x.entries)
    -- the poster has seen the claims of all accepted posts, of which the messages have theirs
    pub claims : ClaimsGoOn before.view.claims after.view.claims x y
    pub rung : after.view.rung ≡ before.view.rung
    pub heard : after.view.heard ≡ before.view.heard
    pub listens : after.view.listens ≡ before.view.listens

  -- the turn handed nothing out
  abbrev pub IsTurn : Known H K → Known H K → Queue H K → Queue H K → Type 0
  IsTurn before after x y = IsTurnWith [] before after x y

  -- a call that is no turn leaves all but what was seen, and the numbers of the bell
  pub record IsSamePoster (before after : Known H K) : Type 0 where
    pub table : after.table ≡ before.table
    pub sender : after.sender ≡ before.sender
    pub constants : after.view.constants ≡ before.view.constants
    pub turns : after.view.turns ≡ before.view.turns
    pub found : after.view.found ≡ before.view.found
    pub left : after.view.left ≡ before.view.left
    pub sealed : after.view.sealed ≡ before.view.sealed
    pub made : own_count after ≡ own_count before

  -- a call that only hears leaves the rings and the last reading of the bell too
  abbrev pub HasOnlyHeard : Known H K → Known H K → Type 0
  HasOnlyHeard before after = IsSamePoster before after × (after.view.rung ≡ before.view.rung) × (after.view.heard ≡ before.view.heard)
