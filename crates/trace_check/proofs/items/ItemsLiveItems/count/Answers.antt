use Rattle.std.proofs.Common.{◌∙◌, ap, length}
use Rattle.loop_model.specs.Items.{matches}
use Rattle.trace_check.specs.Labels.{bears, filter_shape}
use Rattle.trace_check.proofs.Indexed.{length_passing}
use Rattle.trace_check.proofs.Labelled.{bears_filter}
use Rattle.trace_check.proofs.Shelving.{named_passing}
use Rattle.trace_check.proofs.items.ItemsLiveItems.count.Goals as goal

pub returns-in-Some : goal.returns-in-Some
returns-in-Some c =
    let all = named_passing c.args.self.now c.of.result.now c.filter_shape-shape.result c.filter_label.result c.in-Some.ranks.now.keys (matches c.args.filter.now) c.requires.sound c.of.ensures c.in-Some.ensures
    (λ x. ap (λ s. bears s c.filter_label.result x) c.filter_shape-shape.ensures ∙ ap (λ l. bears (filter_shape c.args.filter.now) l x) c.filter_label.ensures ∙ bears_filter c.args.filter.now x) in
    c.len.ensures.len ∙ ap length all ∙ length_passing (matches c.args.filter.now) c.args.self.now.by_rank.entries
