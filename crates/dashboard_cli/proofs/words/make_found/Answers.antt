-- The number and the flag that are read are those of the matches.
use Rattle.std.proofs.Common.{◌≡◌, ◌∙◌, sym, true, false, codes, ap, Some, None, inl, inr, [], List, ℕ, Option}
use Rattle.std.specs.Prelude.{unwrap_or}
use Rattle.std.specs.Fmt.{decimal}
use Rattle.clap.specs.Words.{found_of}
use Rattle.clap.proofs.WalkLemmas.{first_value-rows, one_text-rows}
use Rattle.dashboard_cli.specs.declared.words.Subcommand.TheVariants.{Make, MakeRun}
use Rattle.dashboard_cli.proofs.CommandLineLemmas.{is_make, parses}
use Rattle.dashboard_cli.proofs.words.make_found.Goals as goal

pub returns-in_err-get_str : goal.returns-in_err-get_str
returns-in_err-get_str c = λ command fits named has.
    let made = is_make command _ fits named has in
    let bad : None ≡ Some (decimal made.number) = c.in_err-get_str.ensures ∙ first_value-rows (found_of c.args.matches.now) (codes "number") ∙ made.text in absurd (cc)

pub returns-in_err-number : goal.returns-in_err-number
returns-in_err-number c = λ command fits named has.
    let made = is_make command _ fits named has in
    let there = c.in_ok-get_str.ensures ∙ first_value-rows (found_of c.args.matches.now) (codes "number") ∙ made.text in
    let read = parses made.number _ c.parse.result made.small (ap (λ (o : Option (List ℕ)). unwrap_or o []) there) c.parse.ensures.value.0 in
    let bad : None ≡ Some made.number = rw read at c.in_err-number.ensures.value in absurd (cc)

pub returns-then-get_flag : goal.returns-then-get_flag
returns-then-get_flag c = λ command fits named has.
    let made = is_make command _ fits named has in
    let there = c.in_ok-get_str.ensures ∙ first_value-rows (found_of c.args.matches.now) (codes "number") ∙ made.text in
    let read = parses made.number _ c.parse.result made.small (ap (λ (o : Option (List ℕ)). unwrap_or o []) there) c.parse.ensures.value.0 in
    let same : c.in_ok-number.number ≡ made.number = ap (λ (o : Option ℕ). unwrap_or o 0) (rw read at c.in_ok-number.ensures.value) in
    elim made.flag [
      | inl f ↦ let bad : true ≡ false = sym c.if-get_flag.true ∙ c.get_flag.ensures.other (one_text-rows (found_of c.args.matches.now) (codes "run") ∙ f.1) in absurd (cc)
      | inr f ↦ ap (λ (k : ℕ). Some (MakeRun k)) same ∙ ap Some (sym f.0)
    ]

pub returns-else-get_flag : goal.returns-else-get_flag
returns-else-get_flag c = λ command fits named has.
    let made = is_make command _ fits named has in
    let there = c.in_ok-get_str.ensures ∙ first_value-rows (found_of c.args.matches.now) (codes "number") ∙ made.text in
    let read = parses made.number _ c.parse.result made.small (ap (λ (o : Option (List ℕ)). unwrap_or o []) there) c.parse.ensures.value.0 in
    let same : c.in_ok-number.number ≡ made.number = ap (λ (o : Option ℕ). unwrap_or o 0) (rw read at c.in_ok-number.ensures.value) in
    elim made.flag [
      | inl f ↦ ap (λ (k : ℕ). Some (Make k)) same ∙ ap Some (sym f.0)
      | inr f ↦ let bad : true ≡ false = sym (c.get_flag.ensures.value (one_text-rows (found_of c.args.matches.now) (codes "run") ∙ f.1)) ∙ c.if-get_flag.false in absurd (cc)
    ]
