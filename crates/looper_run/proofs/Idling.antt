-- Idle handlers that run one after another.
use Rattle.std.proofs.Common.{◌≡◌, ℕ, Bool, List, [], ◌∷◌, ◌++◌, All, Option, sym, refl, ◌∙◌, subst, arith}
use Rattle.std.proofs.lemmas.List.{append-nil}
use Rattle.std.proofs.lemmas.List.Elements.{All-append}
use Rattle.loop_model.specs.declared.journal.Act.{Act}
use Rattle.loop_model.specs.declared.journal.Act.TheVariants.{Idle}
use Rattle.loop_model.specs.declared.entry.Entry.{Entry}
use Rattle.looper_run.specs.Holding.{Workplace}
use Rattle.looper_run.specs.Acts.{IsIdleAct, GrowsBy, IsQuietAct}
use Rattle.looper_run.specs.Asked.{Asked}
use Rattle.looper_run.specs.Carried.{CarriesOver, Carries}
use Rattle.looper_run.proofs.Working.{behind}
use Rattle.looper_run.proofs.Turning.{all_first}

pub grows_none : (P : Act → Type 0) (acts : List Act) → GrowsBy P acts acts
grows_none P acts = ([], sym (append-nil acts), λ k d near. absurd (omega (arith, near)))

-- one act more of the kind
pub grows_one : (P : Act → Type 0) (a b c : List Act) (x : Act) → P x → GrowsBy P a b → c ≡ b ++ x ∷ [] → GrowsBy P a c
grows_one P a b c x p (did, e, all) is =
    let one : All P (x ∷ []) = all_first P x [] p (λ k d near. absurd (omega (arith, near))) in
    (did ++ x ∷ [], behind a b c did (x ∷ []) e is, All-append P did (x ∷ []) all one)

pub grows_idle : (a b c : List Act) (i : ℕ) (k : Bool) → GrowsBy IsIdleAct a b → c ≡ b ++ Idle i k ∷ [] → GrowsBy IsIdleAct a c
grows_idle a b c i k before is = grows_one IsIdleAct a b c (Idle i k) tt before is

module _ {D : Type 0} {O : Type 0} (Works : D → Workplace → Type 0) (source : D → O) (count : D → ℕ) (told : D → Option (List Asked)) (Awaiting : D → Option ℕ → Type 0) (Passing : D → ℕ → List Entry → List Act → Type 0) where
  pub carries_none : (d : D) (acts : List Act) → CarriesOver Works source count told Awaiting Passing d d acts acts
  carries_none d acts = record { serves = λ w h. h; origin = refl; nudges = refl; asked = refl; awaits = λ awaited h. h; meets = λ s es h. h }

  -- a call, and then a quiet act
  pub carries_one : (d e f : D) (a b c : List Act) (x : Act) → IsQuietAct x → ((s : ℕ) (es : List Entry) → Passing f s es b → Passing f s es (b ++ x ∷ []))
      → CarriesOver Works source count told Awaiting Passing d e a b → Carries Works source count told Awaiting Passing e f → c ≡ b ++ x ∷ []
      → CarriesOver Works source count told Awaiting Passing d f a c
  carries_one d e f a b c x is law p q noted =
      let r = q b in
      record {
        serves = λ w h. r.serves w (p.serves w h);
        origin = r.origin ∙ p.origin;
        nudges = r.nudges ∙ p.nudges;
        asked = r.asked ∙ p.asked;
        awaits = λ awaited h. r.awaits awaited (p.awaits awaited h);
        meets = λ s es h. subst (λ (l : List Act). Passing f s es l) (sym noted) (law s es (r.meets s es (p.meets s es h)));
      }

  pub carries_then : (d e f : D) (a b : List Act) → CarriesOver Works source count told Awaiting Passing d e a b → Carries Works source count told Awaiting Passing e f → CarriesOver Works source count told Awaiting Passing d f a b
  carries_then d e f a b p q =
      let r = q b in
      record {
        serves = λ w h. r.serves w (p.serves w h);
        origin = r.origin ∙ p.origin;
        nudges = r.nudges ∙ p.nudges;
        asked = r.asked ∙ p.asked;
        awaits = λ awaited h. r.awaits awaited (p.awaits awaited h);
        meets = λ s es h. r.meets s es (p.meets s es h);
      }

  -- an idle handler that ran and was told
  pub carries_idle : (d e f : D) (a b c : List Act) (i : ℕ) (k : Bool) → ((s : ℕ) (es : List Entry) (x : Act) (acts : List Act) → IsQuietAct x → Passing f s es acts → Passing f s es (acts ++ x ∷ []))
      → CarriesOver Works source count told Awaiting Passing d e a b → Carries Works source count told Awaiting Passing e f → c ≡ b ++ Idle i k ∷ []
      → CarriesOver Works source count told Awaiting Passing d f a c
  carries_idle d e f a b c i k law p q noted = carries_one d e f a b c (Idle i k) tt (λ s es. law s es (Idle i k) b tt) p q noted

  -- a call behind which nothing was told
  pub carries_still : (d e f : D) (a b c : List Act) → CarriesOver Works source count told Awaiting Passing d e a b → Carries Works source count told Awaiting Passing e f → c ≡ b
      → CarriesOver Works source count told Awaiting Passing d f a c
  carries_still d e f a b c p q same = subst (λ (l : List Act). CarriesOver Works source count told Awaiting Passing d f a l) (sym same) (carries_then d e f a b p q)
