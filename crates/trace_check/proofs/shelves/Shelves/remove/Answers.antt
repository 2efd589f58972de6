use Rattle.std.proofs.Common.{◌≡◌}
use Rattle.trace_check.specs.Labels.{Label, label_of}
use Rattle.trace_check.specs.Shelves.{ranks_at, ranks_without}
use Rattle.trace_check.proofs.EachShelf.{each_shelf}
use Rattle.trace_check.proofs.shelves.Shelves.remove.Goals as goal

pub returns : goal.returns
returns c =
    each_shelf (λ shape f g. (l : Label) → ranks_at g l ≡ ranks_without (label_of shape c.args.item.now) c.args.rank l (ranks_at f l)) c.args.self.now _
    c.remove.ensures c.remove-2.ensures c.remove-3.ensures c.remove-4.ensures c.remove-5.ensures c.remove-6.ensures c.remove-7.ensures c.remove-8.ensures
