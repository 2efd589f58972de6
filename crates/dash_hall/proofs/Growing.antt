-- A turn of a sender, as its own entries go on.
use Rattle.std.proofs.Common.{◌≡◌, ℕ, zero, suc, ◌≤◌, ◌==◌, cond, Bool, false, List, [], ◌∷◌, ◌++◌, All, refl, sym, ap, ◌∙◌, subst, arith, append_assoc, inl, inr, eq-eqb, ne_eqb}
use Rattle.std.proofs.lemmas.List.{append-nil}
use Rattle.std.proofs.lemmas.List.Elements.{filter-append, All-append}
use Rattle.loop_model.specs.declared.call.Call.{Call}
use Rattle.loop_model.specs.declared.reply.Reply.{Reply}
use Rattle.loop_model.specs.declared.entry.Entry.{Entry}
use Rattle.loop_model.specs.Entries.{is_next}
use Rattle.message_pool.specs.Passes.{Tally}
use Rattle.queue_state.specs.Queue.{entry_of}
use Rattle.loop_model.specs.declared.segment.Segment.{Segment}
use Rattle.shared_queue.specs.Known.{IsTurn, IsTurnWith}
use Rattle.looper_run.specs.Holding.{Sender, State}
use Rattle.looper_run.specs.Acts.{IsNoLookOf}
use Rattle.looper_run.proofs.Working.{first_all}
use Rattle.looper_run.proofs.Turning.{IsOther, found, all_first, no_looks}
use Rattle.run_model.specs.Planned.{bare_call, token_in, entries_by}
use Rattle.handler_post.specs.Ways.{MadeNone}
use Rattle.dash_hall.specs.Slots.{GivesBackAll, KeepsSlots}
use Rattle.dash_hall.specs.Growth.{own, GoesOn, TurnsOnce, Makes}
use Rattle.dash_hall.proofs.Slots.{same_messages, slots_then}

-- what a sender's calls keep of its pass
pub record Keeps (before after : Tally) : Type 0 where
  pub home : after.home ≡ before.home
  pub back : before.back ≤ after.back

pub own_of_others : (s : ℕ) (es : List Entry) → All (IsOther s) es → entries_by s es ≡ []
own_of_others s [] others = refl
own_of_others s (e ∷ es) others =
    let parts = first_all (IsOther s) e es others in
    ap (λ (b : Bool). cond b (e ∷ entries_by s es) (entries_by s es)) (ne_eqb e.sender s (λ is. parts.0 is)) ∙ own_of_others s es parts.1

pub own_of_one : (s : ℕ) (e : Entry) → e.sender ≡ s → entries_by s (e ∷ []) ≡ e ∷ []
own_of_one s e is = ap (λ (b : Bool). cond b (e ∷ []) []) (eq-eqb e.sender s is)

-- nothing happened but at the pass
pub stays : (p : Sender) (a b : Tally) → Keeps a b → GivesBackAll a b → GoesOn p p a b
stays p a b k given = record {
  table = refl;
  sender = refl;
  constants = refl;
  heard = refl;
  rung = refl;
  sealed = refl;
  turns = omega arith;
  more = [];
  seen = sym (append-nil p.view.seen);
  no_looks = λ n d near. absurd (omega (arith, near));
  home = k.home;
  back = k.back;
  steps = zero;
  slots = (refl, given);
}

-- nothing was done with them
pub goes_nowhere : (p q : Sender) (a b : Tally) → p ≡ q → a ≡ b → GoesOn p q a b
goes_nowhere p q a b e f =
    let here : GoesOn p p a a = stays p a a (record { home = refl; back = omega arith }) refl in
    subst (λ (z : Sender). GoesOn p z a b) e (subst (λ (t : Tally). GoesOn p p a t) f here)

-- one after the other
pub goes_on_then : (p q r : Sender) (a b c : Tally) → GoesOn p q a b → GoesOn q r b c → GoesOn p r a c
goes_on_then p q r a b c f g =
    let turns : p.view.turns ≤ r.view.turns = omega (arith, f.turns, g.turns) in
    let back : a.back ≤ c.back = omega (arith, f.back, g.back) in
    let slots = slots_then f.steps g.steps p q r a b c f.slots g.slots in
    record {
      table = g.table ∙ f.table;
      sender = g.sender ∙ f.sender;
      constants = g.constants ∙ f.constants;
      heard = g.heard ∙ f.heard;
      rung = g.rung ∙ f.rung;
      sealed = g.sealed ∙ f.sealed;
      turns = turns;
      more = f.more ++ g.more;
      seen = g.seen ∙ (ap (λ (l : List Entry). l ++ g.more) f.seen ∙ append_assoc p.view.seen f.more g.more);
      no_looks = All-append (IsNoLookOf p.sender) f.more g.more f.no_looks (subst (λ (s : ℕ). All (IsNoLookOf s) g.more) f.sender g.no_looks);
      home = g.home ∙ f.home;
      back = back;
      steps = slots.0;
      slots = slots.1;
    }

-- a turn by which the sender left these entries of its own, none of which is a look
module _ {parts : List Segment} (p q : Sender) (x y : State) (tail : List Entry) (t : IsTurnWith parts p q x y) (left : y.entries ≡ x.entries ++ tail) where
  more : List Entry
  more = (found p q x y t).others ++ tail

  seen_is : q.view.seen ≡ p.view.seen ++ more
  unfolding more
  seen_is =
      let f = found p q x y t in
      t.seen ∙ (left ∙ (ap (λ (l : List Entry). l ++ tail) f.entries ∙ append_assoc p.view.seen f.others tail))

  pub turn_goes_on : (a b : Tally) → Keeps a b → IsTurn p q x y → KeepsSlots x y a b → All (IsNoLookOf p.sender) tail → GoesOn p q a b
  unfolding more
  turn_goes_on a b k turn slots quiet =
      let f = found p q x y t in
      record {
        table = t.table;
        sender = t.sender;
        constants = t.constants;
        heard = t.heard;
        rung = t.rung;
        sealed = turn.sealed;
        turns = omega (arith, t.turns);
        more = more;
        seen = seen_is;
        no_looks = All-append (IsNoLookOf p.sender) f.others tail (no_looks p.sender f.others f.all) quiet;
        home = k.home;
        back = k.back;
        steps = suc zero;
        slots = (q, b, x, y, turn, slots, (refl, refl));
      }

  pub turn_makes : entries_by p.sender tail ≡ tail → own q ≡ own p ++ tail
  unfolding more
  turn_makes mine =
      let f = found p q x y t in
      (λ i. entries_by (t.sender i) (seen_is i))
      ∙ (filter-append (λ (e : Entry). e.sender == p.sender) p.view.seen more
      ∙ (ap (λ (l : List Entry). own p ++ l) (filter-append (λ (e : Entry). e.sender == p.sender) f.others tail)
      ∙ (λ i. own p ++ (own_of_others p.sender f.others f.all i ++ mine i))))

pub one_turn : (p q : Sender) (x y : State) → IsTurn p q x y → TurnsOnce p q
one_turn p q x y t = omega (arith, t.turns)

-- a turn that left what it found made no entry
pub made_none : (p q : Sender) (x y : State) → IsTurn p q x y → y ≡ x → MadeNone p q
made_none p q x y t same = inr (x, subst (λ (z : State). IsTurn p q x z) same t)

pub turns_none : (p q : Sender) → MadeNone p q → TurnsOnce p q
turns_none p q (inl same) = omega (arith, ap (λ (z : Sender). z.view.turns) same)
turns_none p q (inr turn) = one_turn p q turn.0 turn.0 turn.1

-- a turn that entered one call of the sender, which is no look
pub enters : (p q : Sender) (x y : State) (c : Call) (r : Reply) (a b : Tally) → IsTurn p q x y → y.entries ≡ x.entries ++ entry_of x p.sender c r ∷ [] → is_next c ≡ false → Keeps a b → KeepsSlots x y a b
    → GoesOn p q a b × Makes p q (bare_call c) (token_in r)
enters p q x y c r a b t left quiet k slots =
    let e = entry_of x p.sender c r in (
      turn_goes_on p q x y (e ∷ []) t left a b k t slots (all_first (IsNoLookOf p.sender) e [] (λ _. quiet) (λ n d near. absurd (omega (arith, near)))),
      record { entry = e; made = turn_makes p q x y (e ∷ []) t left (own_of_one p.sender e refl); makes = refl; answered = refl },
    )

-- a turn that left what it found
pub leaves : (p q : Sender) (x y : State) (a b : Tally) → IsTurn p q x y → y ≡ x → Keeps a b → GivesBackAll a b → GoesOn p q a b × (own q ≡ own p)
leaves p q x y a b t same k given =
    let slots : KeepsSlots x y a b = same_messages x y a b (ap (λ (z : State). z.messages) same) given in
    let left : y.entries ≡ x.entries ++ [] = ap (λ (z : State). z.entries) same ∙ sym (append-nil x.entries) in (
      turn_goes_on p q x y [] t left a b k t slots (λ n d near. absurd (omega (arith, near))),
      turn_makes p q x y [] t left refl ∙ append-nil (own p),
    )

-- no entry was made
pub makes_none : (p q : Sender) (a b : Tally) → MadeNone p q → Keeps a b → GivesBackAll a b → GoesOn p q a b × (own q ≡ own p)
makes_none p q a b (inl same) k given = subst (λ (z : Sender). GoesOn p z a b × (own z ≡ own p)) (sym same) (stays p a b k given, refl)
makes_none p q a b (inr turn) k given = leaves p q turn.0 turn.0 a b turn.1 refl k given
