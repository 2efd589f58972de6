-- What is made without an input is made of none.
use Rattle.std.proofs.Common.{refl}
use Rattle.std.proofs.lemmas.Result.{IfOk-weaker}
use Rattle.dashboard_cli.specs.declared.words.Subcommand.TheVariants.{Make, MakeRun}
use Rattle.dashboard_cli.proofs.Running.{makes_of_nothing}
use Rattle.dashboard_cli.proofs.making.produce.Goals as goal

pub returns-in-Make-clause-made : goal.returns-in-Make-clause-made
returns-in-Make-clause-made g c = IfOk-weaker c.print_made.result _ _
    (λ product made. makes_of_nothing (g.C.Clock.shows c.args.clock.now) c.args.command (Make c.in-Make.number) _ _ _ c.in-Make.is refl made)
    c.print_made.ensures.made

pub returns-in-MakeRun-clause-made : goal.returns-in-MakeRun-clause-made
returns-in-MakeRun-clause-made g c = IfOk-weaker c.run_made.result _ _
    (λ product made. makes_of_nothing (g.C.Clock.shows c.args.clock.now) c.args.command (MakeRun c.in-MakeRun.number) _ _ _ c.in-MakeRun.is refl made)
    c.run_made.ensures.made
