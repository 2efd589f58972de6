use Rattle.loop_sources_c.proofs.Done.{done_by}
use Rattle.loop_sources_c.proofs.mloop_core_fd_answer.Goals as goal

pub returns-clause-done : goal.returns-clause-done
returns-clause-done c = done_by _ _ _ _ _ _ _ c.in-Some.ensures.taken c.get_mut.ensures.value c.put.ensures.kept c.answer_event-answer.ensures
