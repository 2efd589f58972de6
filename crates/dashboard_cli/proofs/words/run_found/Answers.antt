-- The flag that is read is that of the matches.
use Rattle.std.proofs.Common.{◌≡◌, ◌∙◌, sym, true, false, codes, inl, inr}
use Rattle.clap.specs.Words.{found_of}
use Rattle.clap.proofs.WalkLemmas.{one_text-rows}
use Rattle.dashboard_cli.proofs.CommandLineLemmas.{is_run}
use Rattle.dashboard_cli.proofs.words.run_found.Goals as goal

pub returns-then-get_flag : goal.returns-then-get_flag
returns-then-get_flag c = λ command fits named has.
    elim (is_run command _ named has) [
      | inl f ↦ let bad : true ≡ false = sym c.if-get_flag.true ∙ c.get_flag.ensures.other (one_text-rows (found_of c.args.matches.now) (codes "free") ∙ f.1) in absurd (cc)
      | inr f ↦ sym f.0
    ]

pub returns-else-get_flag : goal.returns-else-get_flag
returns-else-get_flag c = λ command fits named has.
    elim (is_run command _ named has) [
      | inl f ↦ sym f.0
      | inr f ↦ let bad : true ≡ false = sym (c.get_flag.ensures.value (one_text-rows (found_of c.args.matches.now) (codes "free") ∙ f.1)) ∙ c.if-get_flag.false in absurd (cc)
    ]
