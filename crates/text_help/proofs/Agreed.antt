-- What is said agrees with what the reader answers, whatever it reads.
use Rattle.std.proofs.Common.{◌≡◌, ℕ, Bool, true, false, List, Option, Some, None, refl, sym, ap, subst, ◌∙◌, inl, inr}
use Rattle.std.specs.Prelude.{◌⊎◌}
use Rattle.dash_script.specs.declared.refusal.Cause.{Cause}
use Rattle.dash_script.specs.declared.refusal.Parsed.{Parsed}
use Rattle.dash_script.specs.declared.refusal.Parsed.TheVariants as script
use Rattle.value_animator.specs.declared.refusal.ParsedValues.{ParsedValues}
use Rattle.value_animator.specs.declared.refusal.ParsedValues.TheVariants as plan
use Rattle.run_picture.specs.declared.report.ParsedReport.{ParsedReport}
use Rattle.run_picture.specs.declared.report.ParsedReport.TheVariants as report
use Rattle.text_help.specs.declared.said.Said.{Said}
use Rattle.text_help.specs.declared.said.Said.TheVariants as said
use Rattle.text_help.specs.Saying.{IsSaidOf, GoodOnly, GoodAll, BadOnly, BadAll, BeginsWithHead, no_cause, refused_report}

abbrev pub Named : Type 0
Named = Option (ℕ × Option Cause)

abbrev line_in : Named → ℕ
line_in None = 0
line_in (Some p) = p.0

abbrev cause_in : Named → Option Cause
cause_in None = None
cause_in (Some p) = p.1

abbrev is_named : Named → Bool
is_named None = false
is_named (Some p) = true

abbrev named : ℕ → Option Cause → Named
named line c = Some (line, c)

-- a reader's three answers are told apart
pub record AreApart {P T C : Type 0} (taken : T → P) (refused : ℕ → C → P) (without : P) (told : C → Option Cause) : Type 0 where
  pub refusal : P → Named
  pub is_taken : P → Bool
  pub of_taken : (t : T) → refusal (taken t) ≡ None
  pub of_refused : (line : ℕ) (c : C) → refusal (refused line c) ≡ named line (told c)
  pub of_without : refusal without ≡ None
  pub taken_is : (t : T) → is_taken (taken t) ≡ true
  pub without_is : is_taken without ≡ false

module _ {P T C : Type 0} {taken : T → P} {refused : ℕ → C → P} {without : P} {told : C → Option Cause} where
  not_refused : {A : Type 0} (r : AreApart taken refused without told) (p : P) (line : ℕ) (c : C) → p ≡ refused line c → r.refusal p ≡ None → A
  not_refused r p line c bad none =
      let e : named line (told c) ≡ None = sym (r.of_refused line c) ∙ (ap r.refusal (sym bad) ∙ none) in
      let wrong : true ≡ false = ap is_named e in cc

  -- what was refused was not taken, and memory didn't run out
  refused_alone : {A : Type 0} (r : AreApart taken refused without told) (p : P) (line : ℕ) (c : C) (t : T) → p ≡ refused line c
      → (p ≡ taken t) ⊎ (p ≡ without) → A
  refused_alone r p line c t bad (inl ok) = not_refused r p line c bad (ap r.refusal ok ∙ r.of_taken t)
  refused_alone r p line c t bad (inr none) = not_refused r p line c bad (ap r.refusal none ∙ r.of_without)

  -- what was taken was not refused, and memory didn't run out
  taken_alone : {A : Type 0} (r : AreApart taken refused without told) (p : P) (t : T) (line : ℕ) (c : C) → p ≡ taken t
      → (p ≡ refused line c) ⊎ (p ≡ without) → A
  taken_alone r p t line c ok (inl bad) = not_refused r p line c bad (ap r.refusal ok ∙ r.of_taken t)
  taken_alone r p t line c ok (inr none) =
      let wrong : true ≡ false = sym (r.taken_is t) ∙ (ap r.is_taken (sym ok ∙ none) ∙ r.without_is) in cc

  -- what was refused was refused for one cause in one line
  refused_as : (r : AreApart taken refused without told) (p : P) (l : ℕ) (d : C) (line : ℕ) (c : C) → p ≡ refused l d
      → (p ≡ refused line c) ⊎ (p ≡ without) → (named l (told d) ≡ named line (told c)) ⊎ (false ≡ true)
  refused_as r p l d line c bad (inl other) = inl (sym (r.of_refused l d) ∙ (ap r.refusal (sym bad ∙ other) ∙ r.of_refused line c))
  refused_as r p l d line c bad (inr none) = not_refused r p l d bad (ap r.refusal none ∙ r.of_without)

  module _ (head : ℕ → Option Cause → List ℕ) (b : List ℕ) where
    pub good_only : (r : AreApart taken refused without told) (IsText : List ℕ → T → Type 0) (s : Said) (p : P) → IsSaidOf taken refused told head s p
        → ((t : T) → p ≡ taken t → IsText b t) → GoodOnly IsText s b
    good_only r IsText (said.Good text) p is only = λ _. (is.0, only is.0 is.1)
    good_only r IsText (said.Bad line c text) p is only = λ (wrong : false ≡ true). cc
    good_only r IsText said.NoMemory p is only = λ (wrong : false ≡ true). cc

    pub begins : (r : AreApart taken refused without told) (s : Said) (p : P) → IsSaidOf taken refused told head s p → BeginsWithHead head s
    begins r (said.Good text) p is = tt
    begins r (said.Bad line c text) p is = is.3
    begins r said.NoMemory p is = tt

    pub good_all : (r : AreApart taken refused without told) (IsText : List ℕ → T → Type 0) (s : Said) (p : P) → IsSaidOf taken refused told head s p
        → ((t : T) → IsText b t → (p ≡ taken t) ⊎ (p ≡ without)) → GoodAll IsText s b
    good_all r IsText (said.Good text) p is all = λ t it. inl refl
    good_all r IsText (said.Bad line c text) p is all = λ t it. refused_alone r p line is.0 t is.2 (all t it)
    good_all r IsText said.NoMemory p is all = λ t it. inr refl

    pub bad_only : (r : AreApart taken refused without told) (IsRefusal : List ℕ → ℕ → C → Type 0) (s : Said) (p : P) → IsSaidOf taken refused told head s p
        → ((line : ℕ) (c : C) → p ≡ refused line c → IsRefusal b line c) → BadOnly told IsRefusal s b
    bad_only r IsRefusal (said.Good text) p is only = λ line c e. let wrong : false ≡ true = ap is_named e in cc
    bad_only r IsRefusal (said.Bad l d text) p is only = λ line c e.
        let cause : d ≡ c = ap cause_in e in
        let place : l ≡ line = ap line_in e in
        (is.0, sym cause ∙ is.1, subst (λ k. IsRefusal b k is.0) place (only l is.0 is.2))
    bad_only r IsRefusal said.NoMemory p is only = λ line c e. let wrong : false ≡ true = ap is_named e in cc

    pub bad_all : (r : AreApart taken refused without told) (IsRefusal : List ℕ → ℕ → C → Type 0) (s : Said) (p : P) → IsSaidOf taken refused told head s p
        → ((line : ℕ) (c : C) → IsRefusal b line c → (p ≡ refused line c) ⊎ (p ≡ without)) → BadAll told IsRefusal s b
    bad_all r IsRefusal (said.Good text) p is all = λ line c it. taken_alone r p is.0 line c is.1 (all line c it)
    bad_all r IsRefusal (said.Bad l d text) p is all = λ line c it.
        subst (λ k. (named l k ≡ named line (told c)) ⊎ (false ≡ true)) (sym is.1) (refused_as r p l is.0 line c is.2 (all line c it))
    bad_all r IsRefusal said.NoMemory p is all = λ line c it. inr refl

-- ---- the languages

abbrev script_refusal : Parsed → Named
script_refusal (script.Ok s) = None
script_refusal (script.Bad line c) = named line (Some c)
script_refusal script.NoMemory = None

abbrev is_script : Parsed → Bool
is_script (script.Ok s) = true
is_script (script.Bad line c) = false
is_script script.NoMemory = false

pub scripts : AreApart script.Ok script.Bad script.NoMemory Some
scripts = record {
  refusal = script_refusal;
  is_taken = is_script;
  of_taken = λ t. refl;
  of_refused = λ line c. refl;
  of_without = refl;
  taken_is = λ t. refl;
  without_is = refl;
}

abbrev plan_refusal : ParsedValues → Named
plan_refusal (plan.Ok v) = None
plan_refusal (plan.Bad line c) = named line (Some c)
plan_refusal plan.NoMemory = None

abbrev is_plan : ParsedValues → Bool
is_plan (plan.Ok v) = true
is_plan (plan.Bad line c) = false
is_plan plan.NoMemory = false

pub plans : AreApart plan.Ok plan.Bad plan.NoMemory Some
plans = record {
  refusal = plan_refusal;
  is_taken = is_plan;
  of_taken = λ t. refl;
  of_refused = λ line c. refl;
  of_without = refl;
  taken_is = λ t. refl;
  without_is = refl;
}

abbrev report_refusal : ParsedReport → Named
report_refusal (report.Ok r) = None
report_refusal (report.Bad line) = named line None
report_refusal report.NoMemory = None

abbrev is_report : ParsedReport → Bool
is_report (report.Ok r) = true
is_report (report.Bad line) = false
is_report report.NoMemory = false

pub reports : AreApart report.Ok refused_report report.NoMemory no_cause
reports = record {
  refusal = report_refusal;
  is_taken = is_report;
  of_taken = λ t. refl;
  of_refused = λ line c. refl;
  of_without = refl;
  taken_is = λ t. refl;
  without_is = refl;
}
