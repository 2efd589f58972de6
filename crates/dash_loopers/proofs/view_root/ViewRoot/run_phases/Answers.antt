use Rattle.std.proofs.Common.{◌<◌, [], refl, ◌∙◌, arith}
use Rattle.dash_loopers.proofs.FrameSteps.{by_on, may_take_on, phases_run_more}
use Rattle.dash_loopers.proofs.FrameTurns.{no_phases}
use Rattle.dash_loopers.proofs.view_root.ViewRoot.run_phases.Goals as goal

pub loop-phase-init : goal.loop-phase-init
loop-phase-init g c =
    let key = c.args.c.now.constants in
    record {
      keeps = record { ready = c.requires.by.ready; origin = refl; badge = refl };
      ran = ([], no_phases key.interval key.phases (g.U.Uptime.is_moment c.args.host.now.uptime.now) c.args.pass.now c.requires.takes.frame, λ lockstep s q at may all text a is. is);
    }

pub run_phase-requires-clause-by : goal.run_phase-requires-clause-by
run_phase-requires-clause-by g c =
    let at = c.loop-phase in by_on c.args.c.now c.args.pass.now at.pass at.invariant.keeps.badge c.args.host.now at.host c.requires.by at.invariant.keeps.ready

pub run_phase-requires-clause-takes : goal.run_phase-requires-clause-takes
run_phase-requires-clause-takes g c =
    let at = c.loop-phase in
    let within : at.phase < c.args.c.now.constants.phases = omega (arith, c.requires.phases, c.loop-phase-test.true) in
    (may_take_on c.args.c.now c.args.pass.now at.pass at.invariant.keeps.badge at.phase c.requires.takes.pass c.requires.takes.delivers (at.invariant.ran.1.next within).0, within)

pub loop-phase-preserved : goal.loop-phase-preserved
loop-phase-preserved g c =
    let at = c.loop-phase in
    let was = at.invariant in
    let keeps = c.run_phase.ensures.keeps in
    record {
      keeps = record { ready = keeps.ready; origin = keeps.origin ∙ was.keeps.origin; badge = keeps.badge ∙ was.keeps.badge };
      ran = phases_run_more g.U.Uptime.is_moment c.args.c.now at.phase c.args.host.now at.host c.run_phase.new.host c.args.pass.now at.pass c.run_phase.new.pass c.args.self.now at.self c.run_phase.new.self
          was.keeps.origin (omega (arith, c.requires.phases, c.loop-phase-test.true)) was.keeps.badge was.ran c.in_ok-run_phase.ensures.ran;
    }

pub returns-in_err-run_phase-clause-keeps : goal.returns-in_err-run_phase-clause-keeps
returns-in_err-run_phase-clause-keeps g c =
    let was = c.loop-phase.invariant.keeps in
    let keeps = c.run_phase.ensures.keeps in
    record { ready = keeps.ready; origin = keeps.origin ∙ was.origin; badge = keeps.badge ∙ was.badge }
