-- What the calls of a poster answer: each is one turn, with the answer of the queue's state that it found.
use Rattle.std.specs.Prelude.{◌≡◌, ℕ, Bool, Some, [], ◌∷◌, take, drop, length, Result, MatchResult}
use Rattle.loop_model.specs.declared.segment.Segment.{Segment}
use Rattle.loop_model.specs.declared.memory.NoMemory.{NoMemory}
use Rattle.loop_model.specs.Base.{empty_base}
use Rattle.loop_model.specs.Chain.{after}
use Rattle.loop_model.specs.declared.post.Filter.{Filter}
use Rattle.message_slot.specs.Letter.{Letter}
use Rattle.queue_state.specs.declared.answers.Posted.{Posted}
use Rattle.queue_state.specs.declared.answers.Nexted.{Nexted}
use Rattle.queue_state.specs.declared.answers.BarrierPosted.{BarrierPosted}
use Rattle.queue_state.specs.declared.answers.BarrierGone.{BarrierGone}
use Rattle.queue_state.specs.declared.answers.Taking.{Taking}
use Rattle.queue_state.specs.declared.answers.Quitting.{Quitting}
use Rattle.queue_state.specs.declared.answers.Advancing.{Advancing}
use Rattle.queue_state.specs.declared.answers.Halting.{Halting}
use Rattle.queue_state.specs.Queue.{Queue, time_of, has_match, is_idle_at, part_of, sealed}
use Rattle.queue_state.specs.Calls.{Posts, PostsBarrier, Unbars, Takes, Quits, Looks, Advances, Halts}
use Rattle.shared_queue.specs.Claims.{AcceptsClaim}
use Rattle.shared_queue.specs.Known.{Known, IsTurn, IsTurnWith}

module _ {H K : Type 0} where
  abbrev pub PostedBy : Known H K → Known H K → Letter K → Posted K H → Type 0
  PostedBy before after node result =
      (x : Queue H K) × (y : Queue H K) × IsTurn before after x y × Posts x before.sender node result y
      × AcceptsClaim before.view.claims after.view.claims node result

  abbrev pub BarrierPostedBy : Known H K → Known H K → ℕ → Letter K → BarrierPosted K H → Type 0
  BarrierPostedBy before after now node result = (x : Queue H K) × (y : Queue H K) × IsTurn before after x y × PostsBarrier x before.sender now node result y

  abbrev pub BarrierGoneBy : Known H K → Known H K → ℕ → BarrierGone K H → Type 0
  BarrierGoneBy before after token result = (x : Queue H K) × (y : Queue H K) × IsTurn before after x y × Unbars x before.sender token result y

  abbrev pub RemovedBy : Known H K → Known H K → Filter → Taking K H → Type 0
  RemovedBy before after filter result = (x : Queue H K) × (y : Queue H K) × IsTurn before after x y × Takes x before.sender filter result y

  abbrev pub QuitBy : Known H K → Known H K → Bool → ℕ → Quitting K H → Type 0
  QuitBy before after safe now result = (x : Queue H K) × (y : Queue H K) × IsTurn before after x y × Quits x before.sender safe now result y

  abbrev pub NextedBy : Known H K → Known H K → ℕ → Bool → Nexted K H → Type 0
  NextedBy before after now idle_owed result = (x : Queue H K) × (y : Queue H K) × IsTurn before after x y × Looks x before.sender now idle_owed result y

  abbrev pub AdvancedBy : Known H K → Known H K → ℕ → Advancing → Type 0
  AdvancedBy before after now result = (x : Queue H K) × (y : Queue H K) × IsTurn before after x y × Advances x before.sender now result y

  abbrev pub HaltedBy : Known H K → Known H K → ℕ → Halting → Type 0
  HaltedBy before after now result = (x : Queue H K) × (y : Queue H K) × IsTurn before after x y × Halts x before.sender now result y

  -- these leave the state as they found it
  abbrev pub HasBy : Known H K → Known H K → Filter → Bool → Type 0
  HasBy before after filter result = (x : Queue H K) × IsTurn before after x x × (result ≡ has_match x filter)

  abbrev pub IdledBy : Known H K → Known H K → ℕ → Bool → Type 0
  IdledBy before after now result = (x : Queue H K) × IsTurn before after x x × (result ≡ is_idle_at x now)

  abbrev pub TimedBy : Known H K → Known H K → ℕ → Type 0
  TimedBy before after result = (x : Queue H K) × IsTurn before after x x × (result ≡ time_of x)

  -- the number of the entries since the base of the state found
  abbrev pub CountedBy : Known H K → Known H K → ℕ → Type 0
  CountedBy before after result =
      (x : Queue H K) × IsTurn before after x x × ((state : Queue H K) × (after.view.found ≡ Some state) × (result ≡ length state.entries))

  -- the part is the base of the state found with its entries, the end of the history behind what was handed out before
  pub record IsPart (after_ : Known H K) (x : Queue H K) (part : Segment) : Type 0 where
    pub state : Queue H K
    pub found : after_.view.found ≡ Some state
    pub left : after_.view.left ≡ Some (sealed state)
    pub is : part ≡ part_of state
    pub entries : part.entries ≡ drop part.base.length after_.view.seen
    pub base : part.base ≡ after (empty_base x.setting.senders) (take part.base.length after_.view.seen)

  -- a sealing leaves the whole history as it is, and hands out the part of it that was not handed out before
  abbrev pub SealedBy : Known H K → Known H K → Result Segment NoMemory → Type 0
  SealedBy before after result = (x : Queue H K) × MatchResult result
      (λ part. IsTurnWith (part ∷ []) before after x x × IsPart after x part)
      (λ _. IsTurn before after x x)
