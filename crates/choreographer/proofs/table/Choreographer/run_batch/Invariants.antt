use Rattle.std.proofs.Common.{◌≡◌, take, []}
use Rattle.choreographer.specs.Carried.{KeepsBoth}
use Rattle.choreographer.specs.Client.{with_runs}
use Rattle.choreographer.specs.Done.{runs}
use Rattle.choreographer.proofs.table.Choreographer.run_batch.Given as goal

abbrev pub invariant-loop-callback : goal.invariant-loop-callback
invariant-loop-callback g l = record {
  keeps : KeepsBoth g.L.FrameClient.Serves g.L.FrameClient.origin g.H.FrameHost.Ready g.H.FrameHost.origin g.H.FrameHost.is_moment l.initial.client l.client l.initial.host l.host;
  meets : g.L.FrameClient.Meets l.client l.host;
  ran : g.L.FrameClient.ran l.client ≡ with_runs (g.L.FrameClient.ran l.initial.client) (runs l.time (take l.callback-index l.callbacks));
  sends : l.callbacks ≡ [] → g.H.FrameHost.sends l.host ≡ g.H.FrameHost.sends l.initial.host;
}
