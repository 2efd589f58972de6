use Rattle.std.proofs.Common.{rules, ℕ, Bool, subst}
use Rattle.choreographer.specs.Done.{GivesUpAt}
use Rattle.choreographer.specs.Within.{PhaseRan}
use Rattle.choreographer.proofs.Phases.{phases_more, none_ran, given_up_behind, if_err}
use Rattle.choreographer.proofs.Recorded.{turns_none, turns_then}
use Rattle.choreographer.proofs.table.Choreographer.run_phases.Goals as goal

pub loop-phase-init : goal.loop-phase-init
loop-phase-init g c =
    let L = g.L.FrameClient in
    let H = g.H.FrameHost in
    let h = c.args.host.now in
    record {
      keeps = search rules;
      meets = c.requires.may.meets;
      ran = none_ran (H.is_moment h) c.args.self.now.constants.phases c.args.pass.now _ (search rules) c.requires.takes.frame;
      turns = turns_none c.args.pass.now (H.sends h);
    }

pub loop-phase-preserved : goal.loop-phase-preserved
loop-phase-preserved g c =
    let L = g.L.FrameClient in
    let H = g.H.FrameHost in
    let at = c.loop-phase in
    let was = at.invariant in
    let phases = c.args.self.now.constants.phases in
    record {
      keeps = search rules;
      meets = c.in_ok-run_phase.ensures.meets;
      ran = phases_more (H.is_moment c.args.host.now) phases at.phase c.args.pass.now at.pass c.run_phase.new.pass _ _ _ was.ran
          (subst (λ (m : ℕ → Bool). PhaseRan m phases at.phase at.pass c.run_phase.new.pass (L.ran at.client) (L.ran c.run_phase.new.client)) was.keeps.host.moments c.in_ok-run_phase.ensures.ran);
      turns = turns_then c.args.pass.now at.pass c.run_phase.new.pass _ _ _ was.turns c.run_phase.ensures.turns;
    }

pub returns-in_err-run_phase-clause-part : goal.returns-in_err-run_phase-clause-part
returns-in_err-run_phase-clause-part g c =
    let L = g.L.FrameClient in
    let H = g.H.FrameHost in
    let at = c.loop-phase in
    let was = at.invariant in
    if_err _ _ (given_up_behind (H.is_moment c.args.host.now) c.args.self.now.constants.phases at.phase c.args.pass.now at.pass c.run_phase.new.pass _ _ _ was.ran
    (subst (λ (m : ℕ → Bool). GivesUpAt m at.phase at.pass c.run_phase.new.pass (L.ran at.client) (L.ran c.run_phase.new.client)) was.keeps.host.moments c.in_err-run_phase.ensures.part))

pub returns-in_err-run_phase-clause-turns : goal.returns-in_err-run_phase-clause-turns
returns-in_err-run_phase-clause-turns g c =
    let at = c.loop-phase in turns_then c.args.pass.now at.pass c.run_phase.new.pass _ _ _ at.invariant.turns c.run_phase.ensures.turns
