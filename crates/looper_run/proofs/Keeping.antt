-- What is kept over two calls, one after the other.
use Rattle.std.proofs.Common.{◌≡◌, ℕ, ◌+◌, ◌%◌, ◌^◌, List, Option, Some, None, slice_get, refl, sym, ap, ◌∙◌, subst, arith}
use Rattle.loop_model.specs.declared.journal.Act.{Act}
use Rattle.loop_model.specs.declared.entry.Entry.{Entry}
use Rattle.loop_model.specs.Posts.{post_at}
use Rattle.loop_model.specs.declared.item.Item.{Item}
use Rattle.message_slot.specs.Letter.{number_in, post_of}
use Rattle.message_slot.specs.Fields.{callback_of}
use Rattle.message_pool.specs.Passes.{Claimed, Node, Tally}
use Rattle.message_pool.specs.Values.{without_value}
use Rattle.looper_run.specs.declared.own.Own.{Own}
use Rattle.looper_run.specs.Holding.{Sender, Holding, Looping, Workplace, workplace, held}
use Rattle.looper_run.specs.Asked.{Asked, Listening}
use Rattle.looper_run.specs.Tests.{IsLent, IsTake, HasTakenMessage}
use Rattle.looper_run.specs.Carried.{CarriesOver, Carries, KeepsLooper, KeepsLent, unasked, unawaited}
use Rattle.looper_run.specs.Ready.{RestsBetween, ServesBetween, HasToDispatch, HasToRoute, LeavesTaken}
use Rattle.looper_run.specs.Loops.{IsStill, IsClosed}
use Rattle.looper_run.proofs.Rings.{no_rings, rings_then}
use Rattle.looper_run.proofs.Working.{lent_self, lent_then}
use Rattle.looper_run.proofs.Sleeping.{still_then}

-- it is of the same queue and the same pool
pub same_place : (a b : Holding) → IsStill a b → workplace b ≡ workplace a
same_place a b s = λ i. record { table = s.table i; constants = s.constants i; pool = s.home i }

module _ {D : Type 0} {O : Type 0} (Works : D → Workplace → Type 0) (source : D → O) (count : D → ℕ) (told : D → Option (List Asked)) (Stands : Holding → Holding → Type 0) where
  pub keeps_self : (d : D) (h : Holding) → Stands h h → KeepsLooper Works source count told Stands d d h h
  keeps_self d h s = record { serves = λ w x. x; origin = refl; nudges = no_rings h.poster h.poster (count d) (count d) refl refl; asked = refl; same = s }

  pub keeps_then : ((a b c : Holding) → Stands a b → Stands b c → Stands a c) → (d e f : D) (a b c : Holding)
      → KeepsLooper Works source count told Stands d e a b → KeepsLooper Works source count told Stands e f b c → KeepsLooper Works source count told Stands d f a c
  keeps_then trans d e f a b c p q = record {
    serves = λ w x. q.serves w (p.serves w x);
    origin = q.origin ∙ p.origin;
    nudges = rings_then a.poster b.poster c.poster (count d) (count e) (count f) p.nudges q.nudges;
    asked = q.asked ∙ p.asked;
    same = trans a b c p.same q.same;
  }

  -- the same without what is told, for another way to stand
  pub keeps_unasked : (Stood : Holding → Holding → Type 0) (d e : D) (a b : Holding) → Stood a b → KeepsLooper Works source count told Stands d e a b → KeepsLooper Works source count unasked Stood d e a b
  keeps_unasked Stood d e a b s p = record { serves = p.serves; origin = p.origin; nudges = p.nudges; asked = refl; same = s }

  -- what was ready and rests is ready again
  pub ready_again : (Awaiting : D → Option ℕ → Type 0) (Passing : D → ℕ → List Entry → List Act → Type 0) (d e : D) (a b : Holding) → IsStill a b → Works d (workplace a)
      → KeepsLooper Works source count told Stands d e a b → RestsBetween Awaiting Passing e b → ServesBetween Works Awaiting Passing e b
  ready_again Awaiting Passing d e a b still at p r = record { serves = subst (Works e) (sym (same_place a b still)) (p.serves (workplace a) at); awaits = r.awaits; meets = r.meets }

module _ {D : Type 0} {O : Type 0} {R : Type 0} {P : Type 0} (Works : D → Workplace → Type 0) (source : D → O) (count : D → ℕ) (told : D → Option (List Asked)) where
  -- a call that does nothing with what it was lent
  pub lent_nothing : (d e : D) (x : Own R P) → ((w : Workplace) → Works d w → Works e w) → source e ≡ source d → count e ≡ count d → told e ≡ told d → KeepsLent Works source count told IsLent d e x x
  lent_nothing d e x serves origin nudges asked = record {
    serves = serves;
    origin = origin;
    nudges = no_rings x.poster.now x.poster.now (count d) (count e) refl nudges;
    asked = asked;
    own = record { poster = refl; pass = refl; journal = refl };
    lent = lent_self (held x);
  }

  pub own_then : (d e f : D) (x y z : Own R P) → KeepsLent Works source count told IsLent d e x y → KeepsLent Works source count told IsLent e f y z → KeepsLent Works source count told IsLent d f x z
  own_then d e f x y z p q = record {
    serves = λ w h. q.serves w (p.serves w h);
    origin = q.origin ∙ p.origin;
    nudges = rings_then x.poster.now y.poster.now z.poster.now (count d) (count e) (count f) p.nudges q.nudges;
    asked = q.asked ∙ p.asked;
    own = record { poster = q.own.poster ∙ p.own.poster; pass = q.own.pass ∙ p.own.pass; journal = q.own.journal ∙ p.own.journal };
    lent = lent_then (held x) (held y) (held z) p.lent q.lent;
  }

  -- a message that the handler's callback object left is the handler's to take
  pub left_to_route : (Awaiting : D → Option ℕ → Type 0) (Holds : D → Option Claimed → Type 0) (Passing : D → ℕ → List Entry → List Act → Type 0) (d e : D) (x y : Own R P) (m : Node) (now : ℕ) (by : Option ℕ)
      → HasToRoute Works Awaiting Holds Passing d (held x) m now by → KeepsLent Works source count told IsLent d e x y → LeavesTaken Awaiting Holds Passing d e (held x) (held y) m now
      → HasToRoute Works Awaiting Holds Passing e (held y) m now by
  left_to_route Awaiting Holds Passing d e x y m now by h p left =
      let s = p.lent.same in
      let place : workplace (held y) ≡ workplace (held x) = λ i. record { table = s.table i; constants = s.constants i; pool = s.home i } in
      record {
        serves = subst (Works e) (sym place) (p.serves (workplace (held x)) h.serves);
        awaits = left.awaits;
        took = (h.took.0, ap (λ cs. slice_get cs (number_in m.item)) left.untouched.claims ∙ h.took.1, left.took h.took.0 h.took.2);
        taken = left.taken;
        callback = h.callback;
      }

-- what a message is without its value is all that is asked of it where it is taken
pub same_item : (m n : Node) → without_value n ≡ without_value m → n.item ≡ m.item
same_item m n rest = ap (λ (x : Node). x.item) rest

pub taken_again : (M N : ℕ → List Entry → List Act → Type 0) (h : Holding) (m n : Node) (now : ℕ) → without_value n ≡ without_value m → ((s : ℕ) (es : List Entry) (acts : List Act) → M s es acts → N s es acts)
    → HasTakenMessage M h m now → HasTakenMessage N h n now
taken_again M N h m n now rest weaker t =
    let same = same_item m n rest in
    record {
      past = t.past;
      take = t.take;
      seen = t.seen;
      is_take = subst (λ (i : Item). IsTake h.poster.sender now (number_in i) t.take) (sym same) t.is_take;
      post = subst (λ (i : Item). post_at t.past (number_in i) ≡ Some (post_of i)) (sym same) t.post;
      passes = weaker h.poster.sender t.past h.journal.acts t.passes;
    }

module _ {D : Type 0} {O : Type 0} (Works : D → Workplace → Type 0) (source : D → O) (count : D → ℕ) (told : D → Option (List Asked)) (Awaiting : D → Option ℕ → Type 0) (Holds : D → Option Claimed → Type 0) (Passing : D → ℕ → List Entry → List Act → Type 0) where
  -- what `before` was called with is to be routed
  pub to_route : (d e : D) (h : Holding) (k : ℕ) (m n : Node) (now : ℕ) → HasToDispatch Works Awaiting Passing d h k m now → without_value n ≡ without_value m → Awaiting e (Some k) → Holds e m.claim
      → Carries Works source count told unawaited Passing d e → HasToRoute Works Awaiting Holds Passing e h n now (callback_of n.item)
  to_route d e h k m n now r rest awaits took c =
      let same = same_item m n rest in
      let number : k ≡ number_in n.item = r.number ∙ ap number_in (sym same) in
      record {
        serves = (c h.journal.acts).serves (workplace h) r.serves;
        awaits = subst (λ (x : ℕ). Awaiting e (Some x)) number awaits;
        took = (m.claim, subst (λ (x : ℕ). slice_get h.poster.view.claims x ≡ Some m.claim) number r.claim, took);
        taken = taken_again (Passing d) (Passing e) h m n now rest (λ s es acts x. (c acts).meets s es x) r.taken;
        callback = refl;
      }

  -- and what is kept over both
  pub own_behind : {R : Type 0} {P : Type 0} (Stands : Holding → Holding → Type 0) (d e f : D) (x y : Own R P) → Carries Works source count told unawaited Passing d e
      → KeepsLent Works source count told Stands e f x y → KeepsLent Works source count told Stands d f x y
  own_behind Stands d e f x y c p =
      let first = c x.journal.now.acts in
      let bell = p.nudges in
      record {
        serves = λ w h. p.serves w (first.serves w h);
        origin = p.origin ∙ first.origin;
        nudges = (bell.0, bell.1, bell.2 ∙ ap (λ (n : ℕ). (n + bell.0) % 2 ^ 64) first.nudges);
        asked = p.asked ∙ first.asked;
        own = p.own;
        lent = p.lent;
      }

-- events that were told are no turns
pub closed_still : (called : List Listening → Type 0) (a b : Looping) → IsClosed called a b → IsStill a.held b.held
closed_still called a b k = record {
  table = ap (λ (p : Sender). p.table) k.poster;
  sender = ap (λ (p : Sender). p.sender) k.poster;
  constants = ap (λ (p : Sender). p.view.constants) k.poster;
  turns = (let same : b.held.poster.view.turns ≡ a.held.poster.view.turns = ap (λ (p : Sender). p.view.turns) k.poster in omega (arith, same));
  home = ap (λ (t : Tally). t.home) k.pass;
  looper = k.looper;
}

module _ {D : Type 0} {O : Type 0} (Works : D → Workplace → Type 0) (source : D → O) (count : D → ℕ) (Awaiting : D → Option ℕ → Type 0) (Passing : D → ℕ → List Entry → List Act → Type 0) (called : List Listening → Type 0)
    (d e : D) (a b : Looping) (k : IsClosed called a b) (c : CarriesOver Works source count unasked Awaiting Passing d e a.held.journal.acts b.held.journal.acts) where
  pub keeps_closed : KeepsLooper Works source count unasked IsStill d e a.held b.held
  keeps_closed = record {
    serves = c.serves;
    origin = c.origin;
    nudges = no_rings a.held.poster b.held.poster (count d) (count e) (ap (λ (p : Sender). p.view.rung) k.poster) c.nudges;
    asked = refl;
    same = closed_still called a b k;
  }

  -- they were told behind a part of a loop
  pub keeps_then_closed : (told : D → Option (List Asked)) (c0 : D) (h : Holding) → KeepsLooper Works source count told IsStill c0 d h a.held → KeepsLooper Works source count unasked IsStill c0 e h b.held
  keeps_then_closed told c0 h p =
      keeps_then Works source count unasked IsStill still_then c0 d e h a.held b.held (keeps_unasked Works source count told IsStill IsStill c0 d h a.held p.same p) keeps_closed

  pub rests_closed : RestsBetween Awaiting Passing d a.held → RestsBetween Awaiting Passing e b.held
  rests_closed r = record {
    awaits = c.awaits None r.awaits;
    meets = subst (λ (p : Sender). Passing e p.sender p.view.seen b.held.journal.acts) (sym k.poster) (c.meets a.held.poster.sender a.held.poster.view.seen r.meets);
  }
