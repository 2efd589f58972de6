-- The edition that is read is that of the matches.
use Rattle.std.proofs.Common.{◌≡◌, ◌∙◌, sym, true, false, codes, ap, Some, None, inl, inr, [], List, ℕ, Option}
use Rattle.std.specs.Prelude.{unwrap_or}
use Rattle.std.specs.Option.{option_map}
use Rattle.clap.specs.Words.{found_of}
use Rattle.clap.proofs.WalkLemmas.{first_value-rows}
use Rattle.dashboard_cli.proofs.CommandLineLemmas.{is_text}
use Rattle.dashboard_cli.proofs.words.text_found.Goals as goal

pub returns-in_default : goal.returns-in_default
returns-in_default c = λ command named has.
    let none = ap (option_map (λ s. s.now)) (sym c.in_default.is) ∙ c.get_str.ensures ∙ first_value-rows (found_of c.args.matches.now) (codes "to") in
    elim (is_text command _ named has) [
      | inl f ↦ ap Some (sym f.0)
      | inr f ↦ let bad : None ≡ Some (codes "2") = none ∙ f.1 in absurd (cc)
    ]

pub returns-then-eq : goal.returns-then-eq
returns-then-eq c = λ command named has.
    let some = c.in-Some.ensures ∙ first_value-rows (found_of c.args.matches.now) (codes "to") in
    elim (is_text command _ named has) [
      | inl f ↦ let bad : Some c.in-Some.edition.now ≡ None = some ∙ f.1 in absurd (cc)
      | inr f ↦ ap Some (sym f.0)
    ]

pub returns-else-eq : goal.returns-else-eq
returns-else-eq c = λ command named has.
    let some = c.in-Some.ensures ∙ first_value-rows (found_of c.args.matches.now) (codes "to") in
    elim (is_text command _ named has) [
      | inl f ↦ let bad : Some c.in-Some.edition.now ≡ None = some ∙ f.1 in absurd (cc)
      | inr f ↦
          let same : c.in-Some.edition.now ≡ codes "2" = ap (λ (o : Option (List ℕ)). unwrap_or o []) (some ∙ f.1) in
          let yes : c.eq.result ≡ true = rw same at c.eq.ensures in
          let bad : true ≡ false = sym yes ∙ c.if-eq.false in absurd (cc)
    ]
