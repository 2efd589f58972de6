use Rattle.std.proofs.Common.{◌≡◌, ap, ◌∙◌, arith, length}
use Rattle.std.specs.Prelude.{nat_lt, not}
use Rattle.std.specs.List.{position_or_len}
use Rattle.std.proofs.lemmas.List.Sums.{prefix_len-le-length}
use Rattle.loop_model.specs.Items.{when_of}
use Rattle.when_queue.specs.Queue.{is_later}
use Rattle.when_queue.proofs.queue.seek_between.Goals as goal

pub returns-clause-within : goal.returns-clause-within
returns-clause-within g c =
    let le = prefix_len-le-length (λ m. not (nat_lt c.args.when (when_of m.item))) c.seek_start-from.new.list in
    let at : c.seek_from-place.result ≡ position_or_len (λ m. nat_lt c.args.when (when_of m.item)) c.seek_start-from.new.list = c.seek_from-place.ensures.index in
    let same = ap length c.seek_start-from.ensures.same in
    omega arith

pub returns-clause-place : goal.returns-clause-place
returns-clause-place g c = c.seek_from-place.ensures.index ∙ ap (position_or_len (is_later c.args.when)) c.seek_start-from.ensures.same
