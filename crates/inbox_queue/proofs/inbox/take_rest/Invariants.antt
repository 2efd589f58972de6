use Rattle.std.proofs.Common.{◌≡◌, ◌++◌}
use Rattle.crossbeam_queue.specs.SegTies.{IsSegPassOf}
use Rattle.inbox_queue.specs.declared.known.Known.TheVariants.{Admits}
use Rattle.inbox_queue.specs.Carried.{taken_of, admitted_of}
use Rattle.inbox_queue.specs.Passes.{known}
use Rattle.inbox_queue.proofs.inbox.take_rest.Given as goal

abbrev pub invariant-loop : goal.invariant-loop
invariant-loop g l =
    IsSegPassOf l.queue l.pass × (known l.pass ≡ Admits (taken_of (known l.fn.pass)) (admitted_of (known l.fn.pass) ++ l.left.items)) × (goal.iterator-loop g).can_next l.iterator' × (goal.iterator-loop g).is_finite l.iterator'
