use Rattle.std.proofs.Common.{◌≡◌, take}
use Rattle.dashboard_cli.specs.InboxText.{admitted_from}
use Rattle.dashboard_cli.proofs.inbox.count_admitted.Given as goal

abbrev pub invariant-loop-parcels : goal.invariant-loop-parcels
invariant-loop-parcels l = l.total ≡ admitted_from l.thread (take l.parcels-index l.lists)
