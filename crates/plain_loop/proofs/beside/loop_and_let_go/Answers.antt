use Rattle.std.proofs.Common.{rules, sym, ◌∙◌}
use Rattle.plain_loop.proofs.Looping.{kept}
use Rattle.plain_loop.proofs.beside.loop_and_let_go.Goals as goal

pub returns-clause-looped : goal.returns-clause-looped
returns-clause-looped g c = record {
  loops = (_, (sym c.in_ok-is_over.ensures.over ∙ c.if-branch.false), c.in_ok-is_over.ensures.kept, c.run_some-answer.new.self, (_, c.waits_to.ensures, c.run_some-answer.ensures.loops), c.in_ok-let_go.ensures.gone);
  ended = search rules;
  looper = search rules;
  place = search rules;
}

pub returns-clause-awaits : goal.returns-clause-awaits
returns-clause-awaits g c = (kept _ _ c.in_ok-is_over.ensures.kept c.run_some-answer.ensures.rests).awaits
