use Rattle.std.proofs.Common.{◌∙◌, ap}
use Rattle.std.specs.BTreeSet.{insert_key}
use Rattle.trace_check.specs.Shelves.{by_rank, ranks_at, ranks_with}
use Rattle.trace_check.proofs.Shelved.{written_at, not_there, by_label_total}
use Rattle.trace_check.proofs.shelf.Shelf.insert.Goals as goal

pub returns-in_default-get_mut : goal.returns-in_default-get_mut
unfolding ranks_at
returns-in_default-get_mut c =
    λ l. ap (λ m. ranks_at (record { ranks = m }) l) c.get_mut.follows.holds-at-none ∙ not_there by_label_total c.args.self.now.ranks c.in-Some.label l (λ s. s.keys) (λ ks. insert_key by_rank ks c.args.rank) c.in_default-get_mut.ensures.value
    ∙ ap (λ o. ranks_with o c.args.rank l (ranks_at c.args.self.now l)) c.in-Some.ensures

pub returns-in-Ok : goal.returns-in-Ok
unfolding ranks_at
returns-in-Ok c =
    λ l. written_at by_label_total c.args.self.now.ranks (c.get_mut.follows.lender c.insert.new.self) c.in-Some.label l c.in-Some-get_mut.ranks.now c.insert.new.self (λ s. s.keys) (λ ks. insert_key by_rank ks c.args.rank)
    (c.get_mut.follows.holds c.insert.new.self) c.in-Some-get_mut.ensures.value c.in-Ok.ensures.keys
    ∙ ap (λ o. ranks_with o c.args.rank l (ranks_at c.args.self.now l)) c.in-Some.ensures
