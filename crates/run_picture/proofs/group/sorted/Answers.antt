use Rattle.std.proofs.Common.{rules}
use Rattle.run_picture.proofs.Grouped.{sorted_by_place, stable_by_place}
use Rattle.run_picture.proofs.group.sorted.Goals as goal

pub returns-clause-sorted : goal.returns-clause-sorted
returns-clause-sorted c = sorted_by_place c.args.scale _ c.in_ok-sort_by_key.ensures.sorted (λ a r q k. search rules)

pub returns-clause-stable : goal.returns-clause-stable
returns-clause-stable c = stable_by_place c.args.scale _ _ c.in_ok-sort_by_key.ensures.stable (λ a r q k. search rules)
