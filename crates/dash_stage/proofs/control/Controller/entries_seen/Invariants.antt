use Rattle.std.proofs.Common.{◌≡◌, ◌≤◌, ◌*◌, ◌^◌, length, sum_by, take}
use Rattle.looper_run.specs.Holding.{Sender}
use Rattle.dash_stage.proofs.control.Controller.entries_seen.Given as goal

abbrev pub invariant-loop-poster : goal.invariant-loop-poster
invariant-loop-poster l = record {
  seen : l.seen ≡ sum_by (λ (p : Sender). length p.view.seen) (take l.poster-index l.poster-items);
  bound : l.seen ≤ l.poster-index * 2 ^ 64;
}
