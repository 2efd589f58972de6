use Rattle.std.proofs.Common.{◌<◌, ◌^◌, ◌∙◌, ap, arith}
use Rattle.loop_model.specs.Items.{when_of}
use Rattle.trace_check.specs.Ranks.{rank_of}
use Rattle.trace_check.proofs.Ranked.{new_apart, put_listed, put_ranked}
use Rattle.trace_check.proofs.Shelving.{put_shelved}
use Rattle.trace_check.proofs.items.Items.insert.Goals as goal

pub returns-in-Ok-clause-listed : goal.returns-in-Ok-clause-listed
returns-in-Ok-clause-listed c =
    let small : c.args.place < 2 ^ 64 = omega (arith, c.ranges.place.fits) in
    put_listed c.args.place c.args.item c.args.self.now.by_rank.entries c.insert-2.new.self.entries c.rank_of-rank.result small c.requires.ranked (c.rank_of-rank.ensures ∙ ap (λ w. rank_of w c.args.place) c.when.ensures) c.in-Ok.ensures.entries

pub returns-in-Ok-clause-ranked : goal.returns-in-Ok-clause-ranked
returns-in-Ok-clause-ranked c =
    let small : c.args.place < 2 ^ 64 = omega (arith, c.ranges.place.fits) in
    put_ranked c.args.place c.args.item c.args.self.now.by_rank.entries c.insert-2.new.self.entries c.rank_of-rank.result small c.requires.ranked (c.rank_of-rank.ensures ∙ ap (λ w. rank_of w c.args.place) c.when.ensures) c.in-Ok.ensures.entries

pub returns-in-Ok-clause-indexed : goal.returns-in-Ok-clause-indexed
returns-in-Ok-clause-indexed c =
    let small : c.args.place < 2 ^ 64 = omega (arith, c.ranges.place.fits) in
    let apart = new_apart c.args.place (when_of c.args.item) c.rank_of-rank.result c.args.self.now.by_rank.entries small c.requires.ranked (c.rank_of-rank.ensures ∙ ap (λ w. rank_of w c.args.place) c.when.ensures) in
    record {
      ordered = c.in-Ok.ensures.ordered;
      shelved = put_shelved c.args.self.now.shelves c.insert.new.self c.rank_of-rank.result c.args.item c.args.self.now.by_rank.entries c.insert-2.new.self.entries c.requires.indexed.ordered apart c.in-Ok.ensures.entries c.in_ok-insert.ensures c.requires.indexed.shelved;
    }
