-- All posters of a queue, as it is made and as it ends.
use Rattle.std.specs.Prelude.{◌≡◌, ℕ, ◌+◌, ◌-◌, ◌<◌, List, [], ◌∷◌, ◌++◌, map, length, slice_index_or, All, Option}
use mathlib.Core.List.{IsPrefix}
use Rattle.atomic_table.specs.Table.{Me}
use Rattle.loop_model.specs.declared.entry.Entry.{Entry}
use Rattle.loop_model.specs.declared.record.QueueRecord.{QueueRecord}
use Rattle.loop_model.specs.declared.segment.Segment.{Segment}
use Rattle.loop_model.specs.Base.{empty_base}
use Rattle.loop_model.specs.Chain.{after, IsChainFrom, entries_of}
use Rattle.loop_model.specs.Legal.{IsLegal, AreNumbered}
use Rattle.loop_model.specs.Live.{live_in_order}
use Rattle.loop_model.specs.Answers.{Setting}
use Rattle.message_slot.specs.Letter.{Letter, IsAtHome}
use Rattle.when_queue.specs.Queue.{items_of}
use Rattle.queue_state.specs.Queue.{Queue}
use Rattle.shared_queue.specs.declared.view.View.{View}
use Rattle.shared_queue.specs.Constants.{Constants, made_in, IsFor}
use Rattle.shared_queue.specs.Claims.{IsAsAccepted, AreClaims}
use Rattle.shared_queue.specs.Turn.{ArePast, opening_view, new_senders, keeping}
use Rattle.shared_queue.specs.Known.{Shared, Known, KeepsNone, IsOf, Rests, own_count}

-- the record has what stayed the same in the queue
pub record KeepsConstants {H : Type 0} (c : Constants H) (r : QueueRecord) : Type 0 where
  pub looper : r.looper ≡ c.looper
  pub setting : record { main = r.main; lockstep = r.lockstep; senders = r.senders } ≡ c.setting

module _ {K : Type 0} where
  -- a whole history, and the messages that it leaves
  pub record IsSoundEnd (s : Setting) (entries : List Entry) (left : List (Letter K)) : Type 0 where
    pub legal : IsLegal s (empty_base s.senders) entries
    pub numbered : AreNumbered s (empty_base s.senders) entries
    pub live : items_of left ≡ live_in_order (empty_base s.senders) entries

module _ {H K : Type 0} where
  -- poster k is of the queue, and its sender number is k
  abbrev pub AreInOrder : Shared H → List (Known H K) → Type 0
  AreInOrder q posters = (k : ℕ) (d : Known H K) → k < length posters → IsOf (slice_index_or posters k d) q × ((slice_index_or posters k d).sender ≡ k)

  -- these are all posters of the queue, in order
  abbrev pub AreAllPosters : Shared H → List (Known H K) → Type 0
  AreAllPosters q posters = (length posters ≡ q.constants.setting.senders) × AreInOrder q posters

  -- a poster that has done nothing
  pub record IsNewPoster (p : Known H K) : Type 0 where
    pub made : own_count p ≡ 0
    pub seen : p.view.seen ≡ []
    pub claims : p.view.claims ≡ []
    pub turns : p.view.turns ≡ 0
    pub rung : p.view.rung ≡ 0
    pub heard : p.view.heard ≡ 0
    pub listens : p.view.listens ≡ 0
    pub sealed : p.view.sealed ≡ []

  abbrev pub AreNew : Shared H → List (Known H K) → Type 0
  AreNew q posters = AreInOrder q posters × ((k : ℕ) (d : Known H K) → k < length posters → IsNewPoster (slice_index_or posters k d))

  -- the history begins with what each poster has seen, and has the entries of its sender that it has made, and no others
  abbrev pub HasCalls : List Entry → List (Known H K) → Type 0
  HasCalls entries posters = (k : ℕ) (d : Known H K) → k < length posters
      → IsPrefix (slice_index_or posters k d).view.seen entries × (made_in (slice_index_or posters k d).sender entries ≡ own_count (slice_index_or posters k d))

  -- the claims begin with what each poster has seen of them
  abbrev pub BeginClaims : List (Option K) → List (Known H K) → Type 0
  BeginClaims claims posters = (k : ℕ) (d : Known H K) → k < length posters → IsPrefix (slice_index_or posters k d).view.claims claims

  -- each of these messages has the claim that was accepted with its number, as far as each poster has seen
  abbrev pub AreLeftAsAccepted : List (Known H K) → List (Letter K) → Type 0
  AreLeftAsAccepted posters left = (claims : List (Option K)) × BeginClaims claims posters × All (IsAsAccepted claims) left

  -- these messages are what a whole history leaves that has these posters' calls
  abbrev pub IsLeftBy : Setting → List (Known H K) → List (Letter K) → Type 0
  IsLeftBy s posters left = (entries : List Entry) × IsSoundEnd s entries left × HasCalls entries posters

  -- the parts that were handed out with the last one, whose whole history has these posters' calls, and the messages that it leaves
  pub record IsWholeEnd (of : K → H) (c : Constants H) (posters : List (Known H K)) (parts segments : List Segment) (left : List (Letter K)) : Type 0 where
    pub last : (p : Segment) × (segments ≡ parts ++ p ∷ [])
    pub chain : IsChainFrom (empty_base c.setting.senders) segments
    pub sound : IsSoundEnd c.setting (entries_of segments) left
    pub calls : HasCalls (entries_of segments) posters
    pub claims : AreLeftAsAccepted posters left
    pub home : All (IsAtHome of c.home) left

  -- the first seat, once the sender numbers below `sender` have seats of their own
  abbrev pub undealt : Constants H → ℕ → View (Queue H K) H K
  undealt key sender = keeping (opening_view key) (new_senders sender (key.setting.senders - sender))

  -- the sender number of the poster, with the number of its entries
  abbrev pub as_counted : Known H K → ℕ × ℕ
  as_counted p = (p.sender, own_count p)

  -- the last poster handed these parts out
  abbrev pub HaveSealed : List (Known H K) → List Segment → Type 0
  HaveSealed posters parts = (k : ℕ) (d : Known H K) → k + 1 ≡ length posters → (slice_index_or posters k d).view.sealed ≡ parts

  -- what all these posters handed out
  abbrev pub sealed_by : List (Known H K) → List Segment
  sealed_by [] = []
  sealed_by (p ∷ ps) = p.view.sealed ++ sealed_by ps

  -- the state once all posters came back: it goes on from what the parts have left that the last poster handed out, and its whole history has their calls
  pub record IsLast (key : Constants H) (posters : List (Known H K)) (x : Queue H K) : Type 0 where
    pub own : IsFor key x
    pub past : ArePast key.setting (sealed_by posters)
    pub start : x.start ≡ after (empty_base key.setting.senders) (entries_of (sealed_by posters))
    pub calls : HasCalls (entries_of (sealed_by posters) ++ x.entries) posters
    pub claims : (claims : List (Option K)) × BeginClaims claims posters × AreClaims claims x
    pub parts : (parts : List Segment) → HaveSealed posters parts → sealed_by posters ≡ parts

  -- the view has taken in what the poster had
  abbrev pub TakenIn : View (Queue H K) H K → Known H K → View (Queue H K) H K → Type 0
  TakenIn v p w =
      (w.senders ≡ v.senders ++ as_counted p ∷ []) × IsPrefix v.seen w.seen × IsPrefix p.view.seen w.seen × (w.sealed ≡ v.sealed ++ p.view.sealed) × KeepsNone p
      × IsPrefix v.claims w.claims × IsPrefix p.view.claims w.claims

  -- the seat has what all these posters had
  abbrev pub Gathered : Shared H → List (Known H K) → Me (Option (Queue H K)) (View (Queue H K) H K) → Type 0
  Gathered q posters m = Rests q.constants m × (m.0.senders ≡ map as_counted posters)
      × ((k : ℕ) (d : Known H K) → k < length posters → IsPrefix (slice_index_or posters k d).view.seen m.0.seen)
      × (m.0.sealed ≡ sealed_by posters)
      × ((k : ℕ) (d : Known H K) → k < length posters → KeepsNone (slice_index_or posters k d))
      × BeginClaims m.0.claims posters
