-- A wait, look by look.
use Rattle.std.proofs.Common.{◌≡◌, ℕ, zero, suc, ◌∙◌, ◌≤◌, Bool, Option, refl, sym, subst, arith}
use mathlib.Core.List.{IsPrefix}
use Rattle.loop_model.proofs.Prefixes.{prefix_self, prefix_trans}
use Rattle.queue_state.specs.declared.answers.Nexted.{Nexted}
use Rattle.queue_state.specs.declared.answers.Nexted.TheVariants as nexted
use Rattle.shared_queue.specs.declared.waiting.Waited.{Waited}
use Rattle.shared_queue.specs.declared.waiting.Waited.TheVariants as waited
use Rattle.shared_queue.specs.declared.waiting.Look.{Look}
use Rattle.shared_queue.specs.declared.waiting.Look.TheVariants as look
use Rattle.shared_queue.specs.Known.{Known, Shared, IsOf}
use Rattle.shared_queue.specs.Waiting.{HasStayed, HasLooked, HasListened, HasSlept, Slept, LastLookBy, Stays, LooksOnce, MaySleep}

module _ {H K : Type 0} (shows : ℕ → Bool) (start : ℕ) (idle : Bool) (cap : Option ℕ) where
  -- what follows a look that was answered to wait, by what comes of it
  pub look_stays : (now : ℕ) (until : Option ℕ) (before looked after : Known H K) (r : Look K H)
      → HasLooked shows start idle now (nexted.Wait until) before looked → Stays cap now until looked after r → LooksOnce shows start idle cap before after r
  look_stays now until before looked after (look.Ends (waited.Cap at)) h s =
      subst (λ (n : ℕ). LooksOnce shows start idle cap before after (look.Ends (waited.Cap n))) (sym s.0)
      (until, subst (λ (p : Known H K). HasLooked shows start idle now (nexted.Wait until) before p) (sym s.2) h, s.1)
  look_stays now until before looked after (look.Ends waited.Nudged) h s =
      record { now = now; until = until; looked = looked; look = h; early = s.0; listened = s.1; heard = λ same. s.2 (same ∙ sym h.look.2.heard) }
  look_stays now until before looked after (look.Sleeps limit) h s =
      (record { now = now; until = until; looked = looked; look = h; early = s.0; listened = s.1; heard = s.2 ∙ h.look.2.heard }, s.3)
  look_stays now until before looked after (look.Ends (waited.Taken n at node)) h s = absurd s
  look_stays now until before looked after (look.Ends waited.Idle) h s = absurd s
  look_stays now until before looked after (look.Ends (waited.End list)) h s = absurd s
  look_stays now until before looked after (look.Ends waited.Over) h s = absurd s

  -- a poster that has slept is one of the same queue
  pub slept_of : (q : Shared H) (before after : Known H K) → HasSlept shows start idle cap before after → IsOf before q → IsOf after q
  slept_of q before after s of = (
    s.listened.same.table ∙ (s.look.look.2.table ∙ of.0),
    s.listened.same.constants ∙ (s.look.look.2.constants ∙ of.1),
  )

  -- one look more
  pub slept_more : (before between after : Known H K) → (n : ℕ) × Slept shows start idle cap n before between → HasSlept shows start idle cap between after → (n : ℕ) × Slept shows start idle cap n before after
  slept_more before between after h s = (suc h.0, (between, h.1, s))

  -- the same poster, with no turn less and no ring
  record Rests (before after : Known H K) : Type 0 where
    pub table : after.table ≡ before.table
    pub sender : after.sender ≡ before.sender
    pub constants : after.view.constants ≡ before.view.constants
    pub turns : before.view.turns ≤ after.view.turns
    pub rung : after.view.rung ≡ before.view.rung
    pub claims : IsPrefix before.view.claims after.view.claims

  rests_self : (p : Known H K) → Rests p p
  rests_self p = record { table = refl; sender = refl; constants = refl; turns = omega arith; rung = refl; claims = prefix_self p.view.claims }

  rests_then : (p q r : Known H K) → Rests p q → Rests q r → Rests p r
  rests_then p q r a b = record { table = b.table ∙ a.table; sender = b.sender ∙ a.sender; constants = b.constants ∙ a.constants; turns = (let one = a.turns in let two = b.turns in omega (arith, one, two)); rung = b.rung ∙ a.rung; claims = prefix_trans p.view.claims q.view.claims r.view.claims a.claims b.claims }

  listened : (p q : Known H K) → HasListened p q → Rests p q
  listened p q h = record { table = h.same.table; sender = h.same.sender; constants = h.same.constants; turns = (let same = h.same.turns in omega (arith, same)); rung = h.rung; claims = subst (IsPrefix p.view.claims) (sym h.claims) (prefix_self p.view.claims) }

  -- a look is a turn
  looked : (now : ℕ) (answer : Nexted K H) (p q : Known H K) → HasLooked shows start idle now answer p q → HasStayed p q
  looked now answer p q h =
      let t = h.look.2 in
      record { table = t.table; sender = t.sender; constants = t.constants; turns = (let more = t.turns in omega (arith, more)); rung = t.rung; claims = t.claims.grows }

  stayed : (p q r : Known H K) → Rests p q → HasStayed q r → HasStayed p r
  stayed p q r a b = record { table = b.table ∙ a.table; sender = b.sender ∙ a.sender; constants = b.constants ∙ a.constants; turns = (let one = a.turns in let two = b.turns in omega (arith, one, two)); rung = b.rung ∙ a.rung; claims = prefix_trans p.view.claims q.view.claims r.view.claims a.claims b.claims }

  still : (p q r : Known H K) → HasStayed p q → Rests q r → HasStayed p r
  still p q r a b = record { table = b.table ∙ a.table; sender = b.sender ∙ a.sender; constants = b.constants ∙ a.constants; turns = (let one = a.turns in let two = b.turns in omega (arith, one, two)); rung = b.rung ∙ a.rung; claims = prefix_trans p.view.claims q.view.claims r.view.claims a.claims b.claims }

  rests : (p q : Known H K) → HasStayed p q → Rests p q
  rests p q h = record { table = h.table; sender = h.sender; constants = h.constants; turns = (let more = h.turns in omega (arith, more)); rung = h.rung; claims = h.claims }

  slept_rests : (n : ℕ) (p q : Known H K) → Slept shows start idle cap n p q → Rests p q
  slept_rests zero p q s = subst (λ (x : Known H K). Rests p x) (sym s) (rests_self p)
  slept_rests (suc n) p q s =
      let h = s.2 in
      rests_then p s.0 q (slept_rests n p s.0 s.1) (rests s.0 q (still s.0 h.looked q (looked h.now (nexted.Wait h.until) s.0 h.looked h.look) (listened h.looked q h.listened)))

  ends_stayed : (p q : Known H K) (r : Waited K H) → LastLookBy shows start idle cap p q r → HasStayed p q
  ends_stayed p q (waited.Taken n at node) h = looked h.0 (nexted.Taken n at node) p q h.1
  ends_stayed p q waited.Idle h = looked h.0 nexted.Idle p q h.1
  ends_stayed p q (waited.End list) h = looked h.0 (nexted.End list) p q h.1
  ends_stayed p q waited.Over h = looked h.0 nexted.Over p q h.1
  ends_stayed p q (waited.Cap now) h = looked now (nexted.Wait h.0) p q h.1
  ends_stayed p q waited.Nudged h = still p h.looked q (looked h.now (nexted.Wait h.until) p h.looked h.look) (listened h.looked q h.listened)

  pub wait_stays : (p q r : Known H K) (w : Waited K H) → (n : ℕ) × Slept shows start idle cap n p q → LastLookBy shows start idle cap q r w → HasStayed p r
  wait_stays p q r w h e = stayed p q r (slept_rests h.0 p q h.1) (ends_stayed q r w e)

  -- a look that was answered to wait lets the poster sleep so long
  pub may_sleep : (before from after : Known H K) (of limit : Option ℕ) → from ≡ before → of ≡ cap → LooksOnce shows start idle cap before after (look.Sleeps limit) → MaySleep from after of limit
  may_sleep before from after of limit same is h =
      let s = h.0 in
      subst (λ (z : Known H K × Option ℕ). MaySleep z.0 after z.1 limit) (λ i. (sym same i, sym is i))
      (record { now = s.now; until = s.until; idle = idle; looked = s.looked; look = s.look.look; listened = s.listened; sleeps = h.1 })
