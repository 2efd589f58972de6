use Rattle.std.proofs.Common.{◌≡◌}
use Rattle.trace_check.specs.Labels.{Label, label_of}
use Rattle.trace_check.specs.Shelves.{ranks_at, ranks_with}
use Rattle.trace_check.proofs.EachShelf.{each_shelf}
use Rattle.trace_check.proofs.shelves.Shelves.insert.Goals as goal

pub returns : goal.returns
returns c =
    each_shelf (λ shape f g. (l : Label) → ranks_at g l ≡ ranks_with (label_of shape c.args.item.now) c.args.rank l (ranks_at f l)) c.args.self.now _
    c.in_ok-insert.ensures c.in_ok-insert-2.ensures c.in_ok-insert-3.ensures c.in_ok-insert-4.ensures c.in_ok-insert-5.ensures c.in_ok-insert-6.ensures c.in_ok-insert-7.ensures c.in_ok-insert-8.ensures
