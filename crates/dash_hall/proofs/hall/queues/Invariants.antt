use Rattle.std.proofs.Common.{◌≡◌, map}
use Rattle.std.specs.List.{range_with_len}
use Rattle.dash_hall.specs.Kits.{badge_for, queue_key, queue_constants}
use Rattle.dash_hall.specs.Dealing.{EachGets, nothing}
use Rattle.dash_hall.proofs.hall.queues.Given as goal

abbrev pub invariant-loop-looper : goal.invariant-loop-looper
invariant-loop-looper l = record {
  queues : map queue_key l.queues.items ≡ map (queue_constants l.lockstep l.script l.pool) (range_with_len 0 l.looper);
  dealt : EachGets (λ k. map (badge_for k) l.queues.items) nothing l.initial.kits.items l.kits.items;
}
