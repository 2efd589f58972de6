-- The command line that the parser gets is the one of the definitions, builder by builder.
use Rattle.std.proofs.Common.{rules, ◌≡◌, ◌∙◌, ap, ap₂, codes, true}
use Rattle.std.proofs.lemmas.Result.{IfOk-weaker}
use Rattle.clap.specs.Words.{App, app_of, new_app, with_subcommand}
use Rattle.clap.specs.Simple.{app_of_fields}
use Rattle.dashboard_cli.specs.CommandLine.{without_help}
use Rattle.dashboard_cli.proofs.words.command_line.Goals as goal

pub returns : goal.returns
returns c =
    let words_first = ap app_of_fields c.no_binary_name.ensures ∙ ap (λ (a : App). record a { top = record a.top { no_binary_name = true } }) c.new.ensures.app in
    let no_flag = ap app_of_fields c.disable_help_flag.ensures ∙ ap (λ (a : App). record a { top = record a.top { disable_help_flag = true } }) words_first in
    let base : app_of c.disable_help_subcommand.result ≡ without_help (new_app (codes "dashboard")) =
    ap app_of_fields c.disable_help_subcommand.ensures ∙ ap (λ (a : App). record a { top = record a.top { disable_help_subcommand = true } }) no_flag in
    let with_run = c.in_ok-subcommand.ensures.shape c.in_ok-run.ensures.local ∙ ap₂ with_subcommand base (ap (λ (a : App). a.top) c.in_ok-run.ensures.app) in
    let with_text = c.in_ok-subcommand-2.ensures.shape c.in_ok-text.ensures.local ∙ ap₂ with_subcommand with_run (ap (λ (a : App). a.top) c.in_ok-text.ensures.app) in
    let with_make = c.in_ok-subcommand-3.ensures.shape c.in_ok-make.ensures.local ∙ ap₂ with_subcommand with_text (ap (λ (a : App). a.top) c.in_ok-make.ensures.app) in
    let with_trace = c.in_ok-subcommand-4.ensures.shape c.new-trace.ensures.local ∙ ap₂ with_subcommand with_make (ap (λ (a : App). a.top) c.new-trace.ensures.app) in
    let with_check = c.in_ok-subcommand-5.ensures.shape c.new-check.ensures.local ∙ ap₂ with_subcommand with_trace (ap (λ (a : App). a.top) c.new-check.ensures.app) in
    let with_animate = c.in_ok-subcommand-6.ensures.shape c.new-animate.ensures.local ∙ ap₂ with_subcommand with_check (ap (λ (a : App). a.top) c.new-animate.ensures.app) in
    IfOk-weaker c.subcommand-7.result _ _
    (λ line added. added.shape c.new-inbox.ensures.local ∙ ap₂ with_subcommand with_animate (ap (λ (a : App). a.top) c.new-inbox.ensures.app))
    c.subcommand-7.ensures

pub returns-in_err-subcommand : goal.returns-in_err-subcommand
returns-in_err-subcommand c = let told = c.from_residual-in_err-subcommand.ensures in search rules
