use Rattle.std.proofs.Common.{rules, refl, sym, ◌∙◌}
use Rattle.plain_loop.proofs.Looping.{kept, loops_ended}
use Rattle.plain_loop.proofs.value_looper.loop_and_drop.Goals as goal

pub returns-clause-looped : goal.returns-clause-looped
returns-clause-looped g c = record {
  loops = (_, (sym c.in_ok-is_over.ensures.over ∙ c.if-branch.false), c.in_ok-is_over.ensures.kept, c.run_some-answer.new.self, (c.args.until, refl, c.run_some-answer.ensures.loops), c.in_ok-drop_told.ensures.gone);
  ended = search rules;
  looper = search rules;
  place = search rules;
}

pub returns-clause-awaits : goal.returns-clause-awaits
returns-clause-awaits g c = (kept _ _ c.in_ok-is_over.ensures.kept c.run_some-answer.ensures.rests).awaits

pub returns-then-branch-clause-looped : goal.returns-then-branch-clause-looped
returns-then-branch-clause-looped g c = record {
  loops = loops_ended _ _ _ _ c.args.looper.now c.run_some-answer.new.self _ c.in_ok-is_over.ensures.over c.if-branch.true c.run_some-answer.ensures.loops;
  ended = search rules;
  looper = search rules;
  place = search rules;
}
