use Rattle.std.proofs.Common.{refl}
use Rattle.message_queue_c.specs.Messages.{letter_by}
use Rattle.queue_state.specs.declared.answers.Posted.TheVariants.{NoMemory}
use Rattle.message_queue_c.proofs.calls.post.Goals as goal

pub returns-in-Err-clause-done : goal.returns-in-Err-clause-done
returns-in-Err-clause-done c = (NoMemory (letter_by c.args.message.now), (refl, refl), c.no_memory.ensures)
