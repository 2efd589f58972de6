use Rattle.std.proofs.Common.{◌≤◌, sym, subst, arith}
use Rattle.when_queue.specs.Queue.{IsRising}
use Rattle.loop_model.specs.Items.{when_of}
use Rattle.when_queue.proofs.Lists.{low_place}
use Rattle.when_queue.proofs.queue.seek_start.Goals as goal

pub returns-then-when-clause-none : goal.returns-then-when-clause-none
returns-then-when-clause-none g c =
    let low = c.if-when.true in
    let early : when_of c.get.result.now.item ≤ c.args.when = omega arith in
    low_place c.args.when c.seek_near.new.list c.here-here.result c.get.result.now (subst IsRising (sym c.seek_near.ensures) c.requires) c.get.ensures early
