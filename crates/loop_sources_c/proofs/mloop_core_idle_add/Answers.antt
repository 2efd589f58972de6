use Rattle.loop_sources_c.proofs.Done.{done_by}
use Rattle.loop_sources_c.proofs.mloop_core_idle_add.Goals as goal

pub returns-clause-done : goal.returns-clause-done
returns-clause-done c = done_by _ _ _ _ _ _ _ c.in-Some.ensures.taken c.get_mut.ensures.value c.put.ensures.kept c.add_idle-answer.ensures
