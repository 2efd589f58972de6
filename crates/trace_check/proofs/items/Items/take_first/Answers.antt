use Rattle.std.proofs.Common.{sym, subst}
use Rattle.std.specs.List.{AllByRecursion}
use Rattle.std.specs.BTreeMap.{is_at}
use Rattle.trace_check.specs.Ranks.{IsRanked}
use Rattle.trace_check.specs.Shelves.{by_rank}
use Rattle.trace_check.proofs.Shelving.{one_dispatched, removed_ranked}
use Rattle.trace_check.proofs.items.Items.take_first.Goals as goal

pub returns-clause-taken : goal.returns-clause-taken
returns-clause-taken c =
    λ t. one_dispatched c.args.entry.now c.in-Next.now c.in-Dispatched.number (is_at (by_rank c.in-Some.rank)) c.in-Some.item c.args.self.now.by_rank.entries c.take_out.new.self.by_rank.entries c.in-Next.is c.in-Dispatched.is c.in-Some.ensures.known c.take_out.ensures.entries
    (sym c.if-not-has_number.ensures) c.requires.apart

pub returns-clause-ranked : goal.returns-clause-ranked
returns-clause-ranked c =
    λ n r. subst (AllByRecursion (IsRanked n)) (sym c.take_out.ensures.entries) (removed_ranked n (is_at (by_rank c.in-Some.rank)) c.args.self.now.by_rank.entries r)
