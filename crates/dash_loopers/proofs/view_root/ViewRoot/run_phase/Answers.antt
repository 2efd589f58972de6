use Rattle.std.proofs.Common.{sym, ap, ◌∙◌, subst}
use Rattle.dash_hall.specs.Hosts.{IsHostNow, origin_now}
use Rattle.dash_loopers.proofs.FrameSteps.{by_on, taken_badge, phase_runs}
use Rattle.dash_loopers.proofs.view_root.ViewRoot.run_phase.Goals as goal

pub run_batch-requires : goal.run_batch-requires
run_batch-requires g c =
    let took = c.take_phase in
    let badge = taken_badge _ c.args.c.now.constants.phases c.args.phase c.args.pass.now took.new.pass took.result took.ensures.turn in
    record { by = by_on c.args.c.now c.args.pass.now took.new.pass badge c.args.host.now took.new.self c.requires.by (subst IsHostNow (sym took.ensures.same) c.requires.by.ready) }

pub returns-in-Batch-clause-keeps : goal.returns-in-Batch-clause-keeps
returns-in-Batch-clause-keeps g c =
    let took = c.take_phase in
    let badge = taken_badge _ c.args.c.now.constants.phases c.args.phase c.args.pass.now took.new.pass took.result took.ensures.turn in
    let keeps = c.run_batch.ensures.keeps in
    record { ready = keeps.ready; origin = keeps.origin ∙ ap origin_now took.ensures.same; badge = keeps.posts.badge ∙ badge }

pub returns-in-Batch-clause-ran : goal.returns-in-Batch-clause-ran
returns-in-Batch-clause-ran g c =
    phase_runs g.U.Uptime.is_moment c.args.c.now c.run_batch.result c.args.phase _ _ c.as_slice.result.now c.args.host.now c.take_phase.new.self c.run_batch.new.host c.args.pass.now c.take_phase.new.pass c.run_batch.new.pass c.args.self.now c.run_batch.new.self
    c.requires.takes.0 c.take_phase.ensures.same c.as_slice.ensures c.in-Batch.ensures.turn c.run_batch.ensures.keeps.posts c.run_batch.ensures.ran

pub returns-in-NoMemory-clause-keeps : goal.returns-in-NoMemory-clause-keeps
returns-in-NoMemory-clause-keeps g c =
    let took = c.take_phase in
    record {
      ready = subst IsHostNow (sym took.ensures.same) c.requires.by.ready;
      origin = ap origin_now took.ensures.same;
      badge = taken_badge _ c.args.c.now.constants.phases c.args.phase c.args.pass.now took.new.pass took.result took.ensures.turn;
    }
