-- the quits rise, so that the test cuts them in two
use Rattle.std.proofs.Common.{rules, nat_lt}
use Rattle.std.proofs.lemmas.List.Sorted.{IsPartitionPoint-from_clause, IsPartitionedBy-ltb}
use Rattle.fate_ledger.specs.declared.quits.SafeQuit.{SafeQuit}
use Rattle.fate_ledger.proofs.quits.count_before.Goals as goal

pub returns : goal.returns
returns c =
    let parted = IsPartitionedBy-ltb (λ (q : SafeQuit). q.now) c.args.quits.now c.args.moment c.requires in
    let point = IsPartitionPoint-from_clause (λ q. nat_lt q.now c.args.moment) _ _ c.partition_point.ensures.partitioned parted (λ a r f k. search rules) in
    (c.partition_point.ensures.bound, point)
