use Rattle.std.proofs.Common.{◌∙◌, sym, ap}
use Rattle.std.specs.Prelude.{is_some}
use Rattle.loop_model.specs.Items.{token_of, is_just}
use Rattle.trace_check.specs.declared.label.Shape.TheVariants.{Token}
use Rattle.trace_check.specs.Ranks.{listed}
use Rattle.trace_check.proofs.Labelled.{bears_token}
use Rattle.trace_check.proofs.Shelving.{any_found, named_passing}
use Rattle.trace_check.proofs.items.ItemsLiveItems.has_barrier.Goals as goal

pub returns-in-Some-first_on : goal.returns-in-Some-first_on
returns-in-Some-first_on c =
    let all = named_passing c.args.self.now c.of.result.now Token (0, c.args.token, 0) c.in-Some.ranks.now.keys (λ x. is_just (token_of x) c.args.token) c.requires.sound c.of.ensures c.in-Some.ensures (bears_token c.args.token) in
    ap is_some (c.in-Some-first_on.ensures.found (λ x. is_just (token_of x) c.args.token) all) ∙ sym (any_found (λ x. is_just (token_of x) c.args.token) (listed c.args.self.now))

pub returns-in-None-first_on : goal.returns-in-None-first_on
returns-in-None-first_on c =
    let all = named_passing c.args.self.now c.of.result.now Token (0, c.args.token, 0) c.in-Some.ranks.now.keys (λ x. is_just (token_of x) c.args.token) c.requires.sound c.of.ensures c.in-Some.ensures (bears_token c.args.token) in
    ap is_some (c.in-None-first_on.ensures.found (λ x. is_just (token_of x) c.args.token) all) ∙ sym (any_found (λ x. is_just (token_of x) c.args.token) (listed c.args.self.now))
