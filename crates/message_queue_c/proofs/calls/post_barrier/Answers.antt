use Rattle.std.proofs.Common.{refl}
use Rattle.message_slot.specs.Letter.{blank}
use Rattle.queue_state.specs.declared.answers.BarrierPosted.TheVariants.{NoMemory}
use Rattle.message_queue_c.proofs.calls.post_barrier.Goals as goal

pub returns-in-Err-clause-done : goal.returns-in-Err-clause-done
returns-in-Err-clause-done c = (NoMemory blank, (refl, refl), c.no_memory.ensures)
