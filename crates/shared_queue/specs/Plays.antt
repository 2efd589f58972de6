-- What each step tells: of the step, the seat before, the number found and the seat after.
use Rattle.std.specs.Prelude.{◌≡◌, ◌≢◌, ℕ, ◌+◌, ◌<◌, ◌⊎◌, List, [], ◌∷◌, ◌++◌, All, Option, Some}
use Rattle.loop_model.specs.Legal.{IsLegal, AreNumbered}
use mathlib.Core.List.{IsPrefix}
use Rattle.atomic_table.specs.Table.{Me, Step}
use Rattle.loop_model.specs.declared.entry.Entry.{Entry}
use Rattle.queue_state.specs.Queue.{Queue, sealed}
use Rattle.shared_queue.specs.declared.view.View.{View}
use Rattle.shared_queue.specs.Constants.{Constants, made_in, IsFor}
use Rattle.shared_queue.specs.Whole.{Spans}
use Rattle.shared_queue.specs.Claims.{AreClaims, claims_with}
use Rattle.shared_queue.specs.Turn.{holds, taking, giving, handing, fresh}

abbrev pub Sat : Type 0 → Type 0 → Type 0
Sat H K = Me (Option (Queue H K)) (View (Queue H K) H K)

abbrev pub Play : Type 0 → Type 0 → Type 1
Play H K = Step (Option (Queue H K)) → Sat H K → ℕ → Sat H K → Type 0

-- the sender is one of the queue, and the history has as many entries of it as counted
abbrev pub IsCountedSender : ℕ → List Entry → ℕ × ℕ → Type 0
IsCountedSender senders history p = (p.0 < senders) × (made_in p.0 history ≡ p.1)

module _ {H K : Type 0} where
  -- the constants stay, and all else is empty
  abbrev pub bare : View (Queue H K) H K → View (Queue H K) H K
  bare v = fresh (record v { seen = []; claims = []; heard = 0 }) []

  abbrev pub sat : Play H K
  sat st m r n = n.0 ≡ bare m.0

  -- the state is one of the seat's queue, and this is its whole history
  abbrev pub IsOwn : View (Queue H K) H K → List Entry → Queue H K → Type 0
  IsOwn v whole x = (c : Constants H) → v.constants ≡ Some c → IsFor c x × Spans c.setting whole x

  -- the history begins with what was seen, and each sender of the view has as many entries in it as counted
  abbrev pub Extends : View (Queue H K) H K → List Entry → Queue H K → Type 0
  Extends v whole x = IsPrefix v.seen whole × All (IsCountedSender x.setting.senders whole) v.senders

  -- these are the claims of the state's accepted posts, and the view has seen the beginning of them
  abbrev pub KnowsClaims : View (Queue H K) H K → List (Option K) → Queue H K → Type 0
  KnowsClaims v claims x = IsPrefix v.claims claims × AreClaims claims x

  -- the seat won the turn and the state, which has its constants, and a whole history and claims that it has seen the beginning of
  abbrev pub Won : Sat H K → Sat H K → Type 0
  Won m n =
      (x : Queue H K) × (whole : List Entry) × (claims : List (Option K))
      × (n ≡ (taking m.0 whole claims x, (0, Some x) ∷ m.1)) × IsOwn m.0 whole x × Extends m.0 whole x × KnowsClaims m.0 claims x

  abbrev pub took : Play H K
  took st m r n = (r ≡ 0 → Won m n) × (r ≢ 0 → n ≡ m)

  abbrev pub gave : Play H K
  gave st m r n = (x : Queue H K) → m.1 ≡ (0, Some x) ∷ [] → n ≡ (giving m.0 x, [])

  -- the state x that was found is given back as y, with the same base, and with its entries or one more, of a sender of the seat
  abbrev pub StateGoesOn : View (Queue H K) H K → Queue H K → Queue H K → Type 0
  StateGoesOn v x y = (y.start ≡ x.start) × ((y.entries ≡ x.entries) ⊎ ((e : Entry) × (y.entries ≡ x.entries ++ e ∷ []) × (0 < holds e.sender v)))

  -- its messages have their claims, of which one may be new
  abbrev pub MayGive : View (Queue H K) H K → Queue H K → Type 0
  MayGive v y = (x : Queue H K) × (v.found ≡ Some x) × StateGoesOn v x y × AreClaims (claims_with v.claims y.messages) y

  abbrev pub handed : Play H K
  handed st m r n = (x : Queue H K) → m.1 ≡ (0, Some x) ∷ [] → n ≡ (handing m.0 x, [])

  -- the state that was found may be given back sealed, where its entries are legal and numbered
  abbrev pub MayHand : View (Queue H K) H K → Queue H K → Type 0
  MayHand v y = (x : Queue H K) × (v.found ≡ Some x) × (y ≡ sealed x) × IsLegal x.setting x.start x.entries × AreNumbered x.setting x.start x.entries

  -- each list that the seat was told begins its own, which has all entries of its senders, and so the claims
  abbrev pub learned : Play H K
  learned st m r n = (n ≡ m) × All (λ t. IsPrefix t m.0.seen) m.0.told × All (λ p. made_in p.0 m.0.seen ≡ p.1) m.0.senders
      × All (λ t. IsPrefix t m.0.claims) m.0.told_claims

  abbrev pub rang : Play H K
  rang st m r n = n ≡ (record m.0 { rung = m.0.rung + 1 }, m.1)

  -- the word that was read is the bell
  abbrev pub listened : Play H K
  listened st m r n = (st.word ≡ 1) × (n ≡ (record m.0 { heard = r; listens = m.0.listens + 1 }, m.1))
