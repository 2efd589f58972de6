use Rattle.std.proofs.Common.{map, take}
use Rattle.frame_phases.specs.declared.entry.Callback.{Callback}
use Rattle.dash_loopers.specs.FrameParts.{ShowsBatch}
use Rattle.dash_loopers.specs.Steps.{PostsByHost}
use Rattle.dash_loopers.proofs.view_root.ViewRoot.run_batch.Given as goal

abbrev pub invariant-loop-callback : goal.invariant-loop-callback
invariant-loop-callback g l = record {
  keeps : PostsByHost l.initial.host l.host l.initial.pass l.pass;
  ran : ShowsBatch (map (λ (d : Callback). d.id) (take l.callback-index l.callbacks)) l.initial.host l.host l.initial.pass l.pass l.initial.self l.self;
}
