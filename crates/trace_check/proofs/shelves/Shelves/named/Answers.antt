use Rattle.trace_check.proofs.EachShelf.{each_bare}
use Rattle.trace_check.proofs.shelves.Shelves.named.Goals as goal

pub returns : goal.returns
returns c =
    each_bare _ c.in_ok-named.ensures c.in_ok-named-2.ensures c.in_ok-named-3.ensures c.in_ok-named-4.ensures c.in_ok-named-5.ensures c.in_ok-named-6.ensures c.in_ok-named-7.ensures c.in_ok-named-8.ensures
