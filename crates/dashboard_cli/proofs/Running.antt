-- What comes of no input.
use Rattle.std.proofs.Common.{◌≡◌, ℕ, Bool, List, [], Option, Some, None, refl, sym, subst}
use Rattle.std.specs.Io.KnownBytes.{Keeps}
use Rattle.dashboard_cli.specs.Answers.{HasInput, MakesOf}
use Rattle.dashboard_cli.specs.Works.{ToldBytes}
use Rattle.dashboard_cli.specs.Words.{work_by}
use Rattle.dashboard_cli.specs.declared.making.Returned.{Returned}
use Rattle.dashboard_cli.specs.declared.words.Subcommand.{Subcommand}

keeps_itself : (known : ToldBytes) → Keeps known known
keeps_itself None = tt
keeps_itself (Some bytes) = refl

-- a command that reads nothing makes its text of no input
pub makes_of_nothing : (shows : ℕ → Bool) (command one : Subcommand) (before : ToldBytes) (out : List ℕ) (given : Returned) → command ≡ one → (work_by shows one).reads.most ≡ None
    → (work_by shows one).Makes [] out given → MakesOf (work_by shows command) before before out given
makes_of_nothing shows command one before out given same reads made = subst (λ (c : Subcommand). MakesOf (work_by shows c) before before out given) (sym same) (record {
  input = [];
  read = subst (λ (most : Option ℕ). HasInput most before before []) (sym reads) (keeps_itself before, refl);
  made = made;
})
