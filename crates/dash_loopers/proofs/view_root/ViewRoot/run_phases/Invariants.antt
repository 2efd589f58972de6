use Rattle.dash_loopers.specs.FrameParts.{ShowsPhases}
use Rattle.dash_loopers.specs.Steps.{LeavesHost}
use Rattle.dash_loopers.proofs.view_root.ViewRoot.run_phases.Given as goal

abbrev pub invariant-loop-phase : goal.invariant-loop-phase
invariant-loop-phase g l = record {
  keeps : LeavesHost l.initial.host l.host l.initial.pass l.pass;
  ran : ShowsPhases l.c (g.U.Uptime.is_moment l.initial.host.uptime.now) l.phase l.initial.pass l.pass l.initial.host l.host l.initial.self l.self;
}
