-- Parts of a round, one after the other.
use Rattle.std.proofs.Common.{◌≡◌, ℕ, suc, ◌+◌, cond, Bool, false, List, [], ◌∷◌, ◌++◌, length, All, get_or, Option, None, refl, sym, ap, ◌∙◌, subst, arith, append_assoc, length-append, eq-eqb, ne_eqb}
use Rattle.std.specs.List.{filter_map}
use Rattle.std.proofs.lemmas.List.{append-nil}
use Rattle.std.proofs.lemmas.List.Elements.{filter_map-append, All-append}
use mathlib.Core.Logic.{dite}
use native.Mathlib.Decide.{ℕ_discrete}
use Rattle.loop_model.specs.declared.journal.Act.{Act}
use Rattle.loop_model.specs.declared.journal.Act.TheVariants.{Dispatch, Idle, Event, Vsync, Paint}
use Rattle.loop_model.specs.declared.call.Call.{Call}
use Rattle.loop_model.specs.declared.call.Call.TheVariants.{Post, Barrier, Unbarrier, Remove, Quit, Next, Advance, Halt}
use Rattle.loop_model.specs.declared.reply.Reply.{Reply}
use Rattle.loop_model.specs.declared.entry.Entry.{Entry}
use Rattle.loop_model.specs.Answers.{Setting}
use Rattle.loop_model.specs.Entries.{is_next}
use Rattle.looper_run.specs.Holding.{Holding}
use Rattle.looper_run.specs.Acts.{IsOfDispatcher, entry_dispatch, taken_messages, IsNoLookOf, moment_on, IsLookAt, AreLooksAt}
use Rattle.loop_model.specs.Dispatches.{act_dispatch, dispatches, call_dispatch}
use Rattle.looper_run.specs.Tests.{IsSameLooper, IsLent}
use Rattle.looper_run.specs.Round.{Works}

pub same_self : (h : Holding) → IsSameLooper h h
same_self h = record { table = refl; sender = refl; constants = refl; heard = refl; turns = omega arith; home = refl; looper = refl }

pub same_then : (a b c : Holding) → IsSameLooper a b → IsSameLooper b c → IsSameLooper a c
same_then a b c p q = record {
  table = q.table ∙ p.table;
  sender = q.sender ∙ p.sender;
  constants = q.constants ∙ p.constants;
  heard = q.heard ∙ p.heard;
  turns = omega (arith, p.turns, q.turns);
  home = q.home ∙ p.home;
  looper = q.looper ∙ p.looper;
}

-- one list behind two others
pub behind : {A : Type 0} (a b c p q : List A) → b ≡ a ++ p → c ≡ b ++ q → c ≡ a ++ (p ++ q)
behind a b c p q e f = f ∙ (ap (λ l. l ++ q) e ∙ append_assoc a p q)

-- nothing was done with what was lent
pub lent_self : (h : Holding) → IsLent h h
lent_self h = record {
  same = same_self h;
  more = [];
  did = [];
  seen = sym (append-nil h.poster.view.seen);
  acts = sym (append-nil h.journal.acts);
  no_looks = λ k d near. absurd (omega (arith, near));
  told = λ k d near. absurd (omega (arith, near));
  back = omega arith;
}

-- two calls on what was lent
pub lent_then : (a b c : Holding) → IsLent a b → IsLent b c → IsLent a c
lent_then a b c p q = record {
  same = same_then a b c p.same q.same;
  more = p.more ++ q.more;
  did = p.did ++ q.did;
  seen = behind a.poster.view.seen b.poster.view.seen c.poster.view.seen p.more q.more p.seen q.seen;
  acts = behind a.journal.acts b.journal.acts c.journal.acts p.did q.did p.acts q.acts;
  no_looks = All-append (IsNoLookOf a.poster.sender) p.more q.more p.no_looks (subst (λ (s : ℕ). All (IsNoLookOf s) q.more) p.same.sender q.no_looks);
  told = All-append IsOfDispatcher p.did q.did p.told q.told;
  back = (let one = p.back in let two = q.back in omega (arith, one, two));
}

-- what holds of all elements holds of the first, and of those behind it
pub first_all : {A : Type 0} (P : A → Type 0) (x : A) (xs : List A) → All P (x ∷ xs) → P x × All P xs
first_all P x xs all = (all 0 x (omega arith), λ k d near. all (suc k) d (omega arith))

module _ (s : Setting) (sender now : ℕ) where
  pub looks_append : (past xs ys : List Entry) → AreLooksAt s sender now past xs → AreLooksAt s sender now (past ++ xs) ys → AreLooksAt s sender now past (xs ++ ys)
  looks_append past [] ys p q = subst (λ (l : List Entry). AreLooksAt s sender now l ys) (append-nil past) q
  looks_append past (x ∷ xs) ys p q = (p.0, looks_append (past ++ x ∷ []) xs ys p.1 (subst (λ (l : List Entry). AreLooksAt s sender now l ys) (sym (append_assoc past (x ∷ []) xs)) q))

  not_look : (m : ℕ) (c : Call) → is_next c ≡ false → IsLookAt m c
  not_look m (Post p) h = tt
  not_look m (Barrier n) h = tt
  not_look m (Unbarrier t) h = tt
  not_look m (Remove f) h = tt
  not_look m (Quit f n) h = tt
  not_look m (Next n) h = absurd (cc)
  not_look m (Advance n) h = tt
  not_look m (Halt n) h = tt

  pub no_looks_at : (past more : List Entry) → All (IsNoLookOf sender) more → AreLooksAt s sender now past more
  no_looks_at past [] none = tt
  no_looks_at past (e ∷ more) none =
      let parts = first_all (IsNoLookOf sender) e more none in
      (λ own. not_look (moment_on s past now) e.call (parts.0 own), no_looks_at (past ++ e ∷ []) more parts.1)

-- entries that are no looks of the sender take nothing
not_taken : (c : Call) (r : Reply) → is_next c ≡ false → call_dispatch c r ≡ None
not_taken (Post p) r h = refl
not_taken (Barrier n) r h = refl
not_taken (Unbarrier t) r h = refl
not_taken (Remove f) r h = refl
not_taken (Quit f n) r h = refl
not_taken (Next n) r h = absurd (cc)
not_taken (Advance n) r h = refl
not_taken (Halt n) r h = refl

pub entry_of_other : (sender : ℕ) (e : Entry) → (e.sender ≡ sender → ⊥) → entry_dispatch sender e ≡ None
entry_of_other sender e apart = ap (λ (b : Bool). cond b (call_dispatch e.call e.reply) None) (ne_eqb e.sender sender apart)

pub entry_of_own : (sender : ℕ) (e : Entry) → e.sender ≡ sender → entry_dispatch sender e ≡ call_dispatch e.call e.reply
entry_of_own sender e own = ap (λ (b : Bool). cond b (call_dispatch e.call e.reply) None) (eq-eqb e.sender sender own)

no_take : (sender : ℕ) (e : Entry) → IsNoLookOf sender e → entry_dispatch sender e ≡ None
no_take sender e none = dite (ℕ_discrete e.sender sender)
    (λ own. entry_of_own sender e own ∙ not_taken e.call e.reply (none own))
    (λ apart. entry_of_other sender e apart)

pub all_none : {A B : Type 0} (f : A → Option B) (xs : List A) → All (λ x. f x ≡ None) xs → filter_map f xs ≡ []
all_none f [] none = refl
all_none f (x ∷ xs) none = let parts = first_all (λ y. f y ≡ None) x xs none in rw parts.0 (all_none f xs parts.1)

told_no_dispatch : (a : Act) → IsOfDispatcher a → act_dispatch a ≡ None
told_no_dispatch (Dispatch n now route) h = absurd h
told_no_dispatch (Idle i k) h = absurd h
told_no_dispatch (Event f e m) h = absurd h
told_no_dispatch (Vsync s) h = refl
told_no_dispatch (Paint g v) h = refl

-- a dispatcher tells no dispatches
pub told_none : (did : List Act) → All IsOfDispatcher did → dispatches did ≡ []
told_none did told = all_none act_dispatch did (λ k d near. told_no_dispatch (get_or did k d) (told k d near))

pub takes_none : (sender : ℕ) (more : List Entry) → All (IsNoLookOf sender) more → taken_messages sender more ≡ []
takes_none sender [] none = refl
takes_none sender (e ∷ more) none = let parts = first_all (IsNoLookOf sender) e more none in rw (no_take sender e parts.0) (takes_none sender more parts.1)

-- what two parts told and took, one behind the other
pub told_then : (sender sender' : ℕ) (did did' : List Act) (more more' : List Entry) → sender' ≡ sender → dispatches did ≡ taken_messages sender more → dispatches did' ≡ taken_messages sender' more' → dispatches (did ++ did') ≡ taken_messages sender (more ++ more')
told_then sender sender' did did' more more' same first second =
    filter_map-append act_dispatch did did'
    ∙ (ap (λ (l : List (ℕ × ℕ)). l ++ dispatches did') first
    ∙ (ap (λ (l : List (ℕ × ℕ)). taken_messages sender more ++ l) (second ∙ ap (λ (k : ℕ). taken_messages k more') same)
    ∙ sym (filter_map-append (entry_dispatch sender) more more')))

module _ (s : Setting) (now : ℕ) where
  pub works_none : (h : Holding) → Works s now h h 0
  works_none h = record { same = same_self h; more = []; did = []; seen = sym (append-nil h.poster.view.seen); acts = sym (append-nil h.journal.acts); told = refl; count_is = refl; looks = tt }

  pub works_then : (a b c : Holding) (m n : ℕ) → Works s now a b m → Works s now b c n → Works s now a c (m + n)
  works_then a b c m n p q =
      record {
        same = same_then a b c p.same q.same;
        more = p.more ++ q.more;
        did = p.did ++ q.did;
        seen = behind a.poster.view.seen b.poster.view.seen c.poster.view.seen p.more q.more p.seen q.seen;
        acts = behind a.journal.acts b.journal.acts c.journal.acts p.did q.did p.acts q.acts;
        told = told_then a.poster.sender b.poster.sender p.did q.did p.more q.more p.same.sender p.told q.told;
        count_is = ap length (filter_map-append act_dispatch p.did q.did) ∙ (length-append (dispatches p.did) (dispatches q.did) ∙ (λ i. p.count_is i + q.count_is i));
        looks = looks_append s a.poster.sender now a.poster.view.seen p.more q.more p.looks
            (subst (λ (l : List Entry). AreLooksAt s a.poster.sender now l q.more) p.seen (subst (λ (k : ℕ). AreLooksAt s k now b.poster.view.seen q.more) p.same.sender q.looks));
      }

  -- a call of the dispatcher
  pub works_lent : (a b : Holding) → IsLent a b → Works s now a b 0
  works_lent a b p = record {
    same = p.same;
    more = p.more;
    did = p.did;
    seen = p.seen;
    acts = p.acts;
    told = told_none p.did p.told ∙ sym (takes_none a.poster.sender p.more p.no_looks);
    count_is = ap length (told_none p.did p.told);
    looks = no_looks_at s a.poster.sender now a.poster.view.seen p.more p.no_looks;
  }
