use Rattle.std.proofs.Common.{◌≤◌, length, ap, arith}
use Rattle.std.specs.Prelude.{not}
use Rattle.std.specs.List.{position_or_len}
use Rattle.std.proofs.lemmas.List.Sums.{prefix_len-le-length}
use Rattle.when_queue.specs.Wanted.{is_wanted}
use Rattle.when_queue.proofs.queue.seek_behind.Goals as goal

pub seek_from-requires-clause-within : goal.seek_from-requires-clause-within
seek_from-requires-clause-within g c κs within =
    let le = prefix_len-le-length (λ m. not (is_wanted c.args.wanted.now m.item)) c.args.list.now in
    let low : c.args.from ≤ position_or_len (λ m. is_wanted c.args.wanted.now m.item) c.args.list.now = c.requires in
    let same = ap length c.go_to.ensures in
    omega arith
