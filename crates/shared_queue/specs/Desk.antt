-- A desk between two calls, and during a turn.
use Rattle.std.specs.Prelude.{◌≡◌, ◌≢◌, ◌+◌, ◌-◌, ◌<◌, ◌⊎◌, true, false, List, [], ◌∷◌, ◌++◌, length, Option, Some, None}
use mathlib.Core.List.{IsPrefix}
use Rattle.loop_model.specs.declared.entry.Entry.{Entry}
use Rattle.queue_state.specs.Queue.{Queue, IsSound}
use Rattle.shared_queue.specs.declared.desk.Desk.{Desk}
use Rattle.shared_queue.specs.Constants.{Constants, made_in, IsFor}
use Rattle.shared_queue.specs.Whole.{Spans}
use Rattle.shared_queue.specs.Turn.{holds, taking, giving, handing, seen_with}
use Rattle.shared_queue.specs.Plays.{KnowsClaims, MayGive, MayHand}

module _ {H K : Type 0} where
  -- the numbers are those of the view, whose one sender is the desk's
  pub record Counted (d : Desk (Queue H K) H K) : Type 0 where
    pub senders : d.seat.me.0.senders ≡ (d.sender, d.made) ∷ []
    pub made : made_in d.sender d.seat.me.0.seen ≡ d.made
    pub seen : length d.seat.me.0.seen ≡ d.seen
    pub heard : d.seat.me.0.heard ≡ d.heard
    -- the last sender's desk alone hands parts of the history out
    pub unsealed : (c : Constants H) → d.seat.me.0.constants ≡ Some c → d.sender + 1 ≢ c.setting.senders → d.seat.me.0.sealed ≡ []

  -- between two calls
  abbrev pub IsIdle : Desk (Queue H K) H K → Type 0
  IsIdle d = (d.seat.me.0.has_turn ≡ false) × (d.seat.me.1 ≡ []) × Counted d

  -- the same seat and sender
  abbrev pub IsSameDesk : Desk (Queue H K) H K → Desk (Queue H K) H K → Type 0
  IsSameDesk d e = (e.seat.table_id ≡ d.seat.table_id) × (e.sender ≡ d.sender)

  -- the desk has the turn and the state x, whose whole history this is
  pub record Began (key : Constants H) (d e : Desk (Queue H K) H K) (x : Queue H K) : Type 0 where
    pub whole : List Entry
    pub claims : List (Option K)
    pub same : IsSameDesk d e
    pub me : e.seat.me ≡ (taking d.seat.me.0 whole claims x, (0, None) ∷ [])
    pub live : d.seat.me.0.constants ≡ Some key
    pub own : IsFor key x
    pub spans : Spans key.setting whole x
    pub sound : IsSound x
    pub begins : IsPrefix d.seat.me.0.seen whole
    pub knows : KnowsClaims d.seat.me.0 claims x
    pub below : d.sender < x.setting.senders
    pub found_made : made_in d.sender whole ≡ d.made
    pub counted : Counted e
    pub made : e.made ≡ d.made

  -- the desk has the turn, and may end it with the state y
  pub record MayEnd (key : Constants H) (d : Desk (Queue H K) H K) (y : Queue H K) : Type 0 where
    pub live : d.seat.me.0.constants ≡ Some key
    pub turn : d.seat.me.0.has_turn ≡ true
    pub slot : d.seat.me.1 ≡ (0, None) ∷ []
    pub counted : Counted d
    pub own : IsFor key y
    pub may : MayGive d.seat.me.0 y
    -- its whole history is what was seen, or one entry more, of the desk's sender
    pub long : length (seen_with d.seat.me.0 y) ≡ y.start.length + length y.entries
    pub more : (seen_with d.seat.me.0 y ≡ d.seat.me.0.seen)
        ⊎ ((e : Entry) × (seen_with d.seat.me.0 y ≡ d.seat.me.0.seen ++ e ∷ []) × (0 < holds e.sender d.seat.me.0))

  -- the desk has left the state y
  pub record Ended (d e : Desk (Queue H K) H K) (y : Queue H K) : Type 0 where
    pub same : IsSameDesk d e
    pub me : e.seat.me ≡ (giving d.seat.me.0 y, [])
    pub sound : IsSound y
    pub idle : IsIdle e
    pub made : e.made ≡ d.made + (length (seen_with d.seat.me.0 y) - d.seen)

  -- the desk of the last sender has the turn, and may end it with the state y, which is the one that it found, sealed
  pub record MayHandOver (key : Constants H) (d : Desk (Queue H K) H K) (y : Queue H K) : Type 0 where
    pub live : d.seat.me.0.constants ≡ Some key
    pub turn : d.seat.me.0.has_turn ≡ true
    pub slot : d.seat.me.1 ≡ (0, None) ∷ []
    pub counted : Counted d
    pub last : d.sender + 1 ≡ key.setting.senders
    pub own : IsFor key y
    pub may : MayHand d.seat.me.0 y
    -- its whole history is what was seen
    pub long : length (seen_with d.seat.me.0 y) ≡ y.start.length + length y.entries
    pub same : seen_with d.seat.me.0 y ≡ d.seat.me.0.seen

  pub record HandedOver (d e : Desk (Queue H K) H K) (y : Queue H K) : Type 0 where
    pub same : IsSameDesk d e
    pub me : e.seat.me ≡ (handing d.seat.me.0 y, [])
    pub sound : IsSound y
    pub idle : IsIdle e
    pub made : e.made ≡ d.made
