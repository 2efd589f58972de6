-- The rule of the turn over the state of a queue. Word 0 is 1 while a seat has the turn, and word 1 is the bell. The one slot is the state's home.
use Rattle.std.specs.Prelude.{◌≡◌, ℕ, ◌+◌, ◌%◌, ◌^◌, ◌<◌, ◌==◌, true, false, cond, List, [], ◌∷◌, ◌++◌, map, take, length, slice_index, All, Option, Some, None}
use Rattle.std.specs.List.{range_with_len}
use mathlib.Core.Option.{some}
use mathlib.Core.List.{IsPrefix}
use lib.ListN.{get_elem?}
use Rattle.atomic_table.specs.Table.{State}
use Rattle.loop_model.specs.declared.entry.Entry.{Entry}
use Rattle.loop_model.specs.declared.segment.Segment.{Segment}
use Rattle.loop_model.specs.Base.{empty_base}
use Rattle.loop_model.specs.Answers.{Setting}
use Rattle.loop_model.specs.Legal.{IsLegal, AreNumbered}
use Rattle.loop_model.specs.Chain.{after, IsChainFrom, entries_of}
use Rattle.loop_model.specs.Lists.{total, longer}
use Rattle.queue_state.specs.Queue.{Queue, part_of}
use Rattle.shared_queue.specs.declared.view.View.{View}
use Rattle.shared_queue.specs.Constants.{Constants, last_of, made_in, IsFor, IsStateOf}
use Rattle.shared_queue.specs.Whole.{Course, whole_of}
use Rattle.shared_queue.specs.Claims.{AreClaims, claims_with}

abbrev pub Board : Type 0 → Type 0 → Type 0
Board H K = State (Option (Queue H K)) (View (Queue H K) H K)

-- these parts are a chain from an empty start, whose history is legal and numbered
pub record ArePast (s : Setting) (parts : List Segment) : Type 0 where
  pub chain : IsChainFrom (empty_base s.senders) parts
  pub legal : IsLegal s (empty_base s.senders) (entries_of parts)
  pub numbered : AreNumbered s (empty_base s.senders) (entries_of parts)

-- the sender's entries in the history are those counted, and they all stand in what was seen
abbrev pub Counts : List Entry → List Entry → ℕ × ℕ → Type 0
Counts whole seen p = (made_in p.0 whole ≡ p.1) × (made_in p.0 seen ≡ p.1)

-- the sender numbers from `from` on, `count` of them, with no entry yet
abbrev pub new_senders : ℕ → ℕ → List (ℕ × ℕ)
new_senders from count = map (λ n. (n, 0)) (range_with_len from count)

-- the same senders, each with the number of its entries in this history
abbrev pub counted : List Entry → List (ℕ × ℕ) → List (ℕ × ℕ)
counted history senders = map (λ p. (p.0, made_in p.0 history)) senders

module _ {H K : Type 0} where
  -- 1 where the view has the turn
  abbrev pub turn_of : View (Queue H K) H K → ℕ
  turn_of v = cond v.has_turn 1 0

  -- how often the sender number stands in the view
  abbrev pub holds : ℕ → View (Queue H K) H K → ℕ
  holds n v = total (λ p. cond (p.0 == n) 1 0) v.senders

  -- the state goes on from what the parts have left, and has the entries since, and its messages have the claims of their numbers
  abbrev pub IsPresent : Constants H → Course K → Queue H K → Type 0
  IsPresent key c x = (x.start ≡ after (empty_base key.setting.senders) (entries_of c.parts)) × (x.entries ≡ c.since) × AreClaims c.claims x

  -- the present state was found
  abbrev pub FindsKept : Constants H → Course K → Option (Queue H K) → Type 0
  FindsKept key c found = (x : Queue H K) × (found ≡ Some x) × IsPresent key c x

  -- what the rule says of one view
  pub record Fits (key : Constants H) (course : Course K) (v : View (Queue H K) H K) : Type 0 where
    pub constants : (c : Constants H) → v.constants ≡ Some c → c ≡ key
    pub seen : IsPrefix v.seen (whole_of course)
    pub told : All (λ t. IsPrefix t v.seen) v.told
    pub claims : IsPrefix v.claims course.claims
    pub told_claims : All (λ t. IsPrefix t v.claims) v.told_claims
    pub below : All (λ p. p.0 < key.setting.senders) v.senders
    pub mine : All (Counts (whole_of course) v.seen) v.senders
    pub turn : v.has_turn ≡ true → (v.seen ≡ whole_of course) × (0 < length v.senders) × FindsKept key course v.found × (v.claims ≡ course.claims)
    -- only a seat with a sender number rings the bell
    pub quiet : 0 < v.rung → 0 < length v.senders
    -- the seat of the last sender keeps the parts that were handed out, and no other seat keeps any
    pub sealed : 0 < holds (last_of key) v → v.sealed ≡ course.parts
    pub unsealed : holds (last_of key) v ≡ 0 → v.sealed ≡ []

  -- the present state is at home, with these constants
  abbrev pub AtHome : Constants H → Course K → Board H K → Type 0
  AtHome key course s = (x : Queue H K) × (get_elem? s.homes 0 ≡ some (some (Some x))) × IsFor key x × IsPresent key course x

  -- no view was told a list, so that no seat has had a turn
  abbrev pub AreUntold : List (View (Queue H K) H K) → Type 0
  AreUntold views = (j : ℕ) (v : View (Queue H K) H K) → get_elem? views j ≡ some v → v.told ≡ []

  -- a state to which nothing has happened: no entry, no message, and its looper doesn't wait
  pub record IsFreshState (key : Constants H) (x : Queue H K) : Type 0 where
    pub own : IsStateOf key x
    pub entries : x.entries ≡ []
    pub messages : x.messages ≡ []
    pub blocked : x.blocked ≡ false
    pub woken : x.woken ≡ false
    pub deadline : x.deadline ≡ None

  pub record QueueTurn (key : Constants H) (s : Board H K) : Type 0 where
    -- the parts that were handed out, the entries since, and the claims of the accepted posts
    pub course : Course K
    pub past : ArePast key.setting course.parts
    pub wide : length s.words ≡ 2
    pub deep : length s.homes ≡ 1
    -- the turn word counts the views that have the turn, and at most one has it
    pub turns : total turn_of s.views ≡ slice_index s.words 0
    pub once : slice_index s.words 0 < 2
    pub free : slice_index s.words 0 ≡ 0 → AtHome key course s
    -- until the first turn nothing has happened to the state
    pub first : AreUntold s.views → (x : Queue H K) × (get_elem? s.homes 0 ≡ some (some (Some x))) × IsFreshState key x
    pub each : (j : ℕ) (v : View (Queue H K) H K) → get_elem? s.views j ≡ some v → Fits key course v
    -- each sender number stands in one view, once
    pub placed : (n : ℕ) → n < key.setting.senders → total (holds n) s.views ≡ 1
    -- the bell counts the rings, wrapping
    pub bell : slice_index s.words 1 ≡ total (λ v. v.rung) s.views % 2 ^ 64

  -- the first seat: it has all sender numbers, and the history is empty
  abbrev pub opening_view : Constants H → View (Queue H K) H K
  opening_view key = record {
    constants = Some key;
    senders = new_senders 0 key.setting.senders;
    seen = [];
    told = [];
    claims = [];
    told_claims = [];
    has_turn = false;
    turns = 0;
    found = None;
    left = None;
    sealed = [];
    rung = 0;
    heard = 0;
    listens = 0;
  }

  -- a seat that wins the turn finds the state x, with this whole history and these claims
  abbrev pub taking : View (Queue H K) H K → List Entry → List (Option K) → Queue H K → View (Queue H K) H K
  taking v whole claims x =
      record v { seen = whole; told = v.seen ∷ v.told; claims = claims; has_turn = true; turns = v.turns + 1; found = Some x }

  -- the whole history once the state x is left: what was seen, up to its base, and its entries
  abbrev pub seen_with : View (Queue H K) H K → Queue H K → List Entry
  seen_with v x = take x.start.length v.seen ++ x.entries

  -- a seat that gives the turn back leaves the state x
  abbrev pub giving : View (Queue H K) H K → Queue H K → View (Queue H K) H K
  giving v x = record v {
    senders = counted (seen_with v x) v.senders;
    seen = seen_with v x;
    told = v.seen ∷ v.told;
    claims = claims_with v.claims x.messages;
    has_turn = false;
    left = Some x;
  }

  -- the base of the state with the entries since
  abbrev pub part_in : Option (Queue H K) → List Segment
  part_in None = []
  part_in (Some x) = part_of x ∷ []

  -- a seat that gives the turn back with the state x, and keeps that it handed out what it had found
  abbrev pub handing : View (Queue H K) H K → Queue H K → View (Queue H K) H K
  handing v x = record (giving v x) { sealed = v.sealed ++ part_in v.found }

  -- a new seat with some of the sender numbers
  abbrev pub fresh : View (Queue H K) H K → List (ℕ × ℕ) → View (Queue H K) H K
  fresh v senders =
      record v { senders = senders; told = []; told_claims = []; has_turn = false; turns = 0; found = None; left = None; sealed = []; rung = 0; listens = 0 }

  -- a new seat with some of them, to which the turns go over
  abbrev pub dealt : View (Queue H K) H K → List (ℕ × ℕ) → View (Queue H K) H K
  dealt v senders = record (fresh v senders) { turns = v.turns }

  -- a seat that keeps these sender numbers, and no turns of its own
  abbrev pub keeping : View (Queue H K) H K → List (ℕ × ℕ) → View (Queue H K) H K
  keeping v senders = record v { senders = senders; turns = 0 }

  -- a seat that takes in another
  abbrev pub joined : View (Queue H K) H K → View (Queue H K) H K → View (Queue H K) H K
  joined v w = record v {
    senders = v.senders ++ w.senders;
    seen = longer v.seen w.seen;
    told = v.seen ∷ w.seen ∷ v.told;
    claims = longer v.claims w.claims;
    told_claims = v.claims ∷ w.claims ∷ v.told_claims;
    turns = v.turns + w.turns;
    sealed = v.sealed ++ w.sealed;
    rung = v.rung + w.rung;
  }

  -- what is left of that other
  abbrev pub gone : View (Queue H K) H K
  gone = record {
    constants = None;
    senders = [];
    seen = [];
    told = [];
    claims = [];
    told_claims = [];
    has_turn = false;
    turns = 0;
    found = None;
    left = None;
    sealed = [];
    rung = 0;
    heard = 0;
    listens = 0;
  }
