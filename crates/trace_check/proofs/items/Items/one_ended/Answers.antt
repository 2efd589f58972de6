use Rattle.std.proofs.Common.{◌∙◌, ap}
use Rattle.std.specs.Option.{option_map}
use Rattle.loop_model.specs.Entries.{ends}
use Rattle.trace_check.proofs.Shelving.{find_values, known_found, named_passing, one_from}
use Rattle.trace_check.proofs.items.Items.one_ended.Goals as goal

pub returns-in-Some-get : goal.returns-in-Some-get
returns-in-Some-get c =
    let all = named_passing c.args.self.now c.of.result.now c.in-Some.shape c.in-Some.label c.in-Some-get.ranks.now.keys (ends c.args.entry.now) c.requires c.of.ensures c.in-Some-get.ensures c.in-Some.ensures in
    one_from c.args.self.now c.args.entry.now c.first_on.result (c.first_on.ensures.found (ends c.args.entry.now) all) c.first_on.ensures.known

pub returns : goal.returns
returns c =
    one_from c.args.self.now c.args.entry.now c.look_for_ended.result (ap (option_map (λ e. e.1)) c.look_for_ended.ensures ∙ find_values (ends c.args.entry.now) c.args.self.now.by_rank.entries)
    (known_found c.args.self.now (ends c.args.entry.now) c.look_for_ended.result c.requires c.look_for_ended.ensures)
