use Rattle.choreographer.specs.Carried.{KeepsBoth}
use Rattle.choreographer.specs.Done.{TurnsForPhases}
use Rattle.choreographer.specs.Within.{PhasesRan}
use Rattle.choreographer.proofs.table.Choreographer.run_phases.Given as goal

abbrev pub invariant-loop-phase : goal.invariant-loop-phase
invariant-loop-phase g l = record {
  keeps : KeepsBoth g.L.FrameClient.Serves g.L.FrameClient.origin g.H.FrameHost.Ready g.H.FrameHost.origin g.H.FrameHost.is_moment l.initial.client l.client l.initial.host l.host;
  meets : g.L.FrameClient.Meets l.client l.host;
  ran : PhasesRan (g.H.FrameHost.is_moment l.initial.host) l.self.constants.phases l.phase l.initial.pass l.pass (g.L.FrameClient.ran l.initial.client) (g.L.FrameClient.ran l.client);
  turns : TurnsForPhases l.initial.pass l.pass (g.H.FrameHost.sends l.initial.host) (g.H.FrameHost.sends l.host);
}
