use Rattle.std.proofs.Common.{◌∙◌, ap}
use Rattle.std.specs.Option.{option_map}
use Rattle.loop_model.specs.Items.{is_asynchronous}
use Rattle.trace_check.specs.declared.label.Shape.TheVariants.{Asynchronous}
use Rattle.trace_check.proofs.Labelled.{bears_asynchronous}
use Rattle.trace_check.proofs.Shelving.{find_values, known_found, named_passing}
use Rattle.trace_check.proofs.items.Items.first_asynchronous.Goals as goal

pub returns-in-Some-clause-item : goal.returns-in-Some-clause-item
returns-in-Some-clause-item c =
    c.first_on.ensures.found is_asynchronous (named_passing c.args.self.now c.of.result.now Asynchronous (0, 0, 0) c.in-Some.ranks.now.keys is_asynchronous c.requires c.of.ensures c.in-Some.ensures bears_asynchronous)

pub returns-in-None-clause-item : goal.returns-in-None-clause-item
returns-in-None-clause-item c = ap (option_map (λ e. e.1)) c.look_for_asynchronous.ensures ∙ find_values is_asynchronous c.args.self.now.by_rank.entries

pub returns-in-None-clause-known : goal.returns-in-None-clause-known
returns-in-None-clause-known c = known_found c.args.self.now is_asynchronous c.look_for_asynchronous.result c.requires c.look_for_asynchronous.ensures
