use Rattle.std.proofs.Common.{◌≡◌, []}
use Rattle.trace_check.specs.Labels.{by_label}
use Rattle.trace_check.specs.Shelves.{ranks_at}
use Rattle.trace_check.proofs.Shelved.{named_bare}
use Rattle.trace_check.proofs.shelf.Shelf.name.Goals as goal

pub returns-in-Ok : goal.returns-in-Ok
unfolding ranks_at
returns-in-Ok c =
    λ l. named_bare by_label c.args.self.now.ranks c.insert.new.self c.args.label l c.new.result (λ s. s.keys) (λ ks. ks ≡ []) c.in-Ok.ensures.updates c.new.ensures.empty (c.requires l)
