use Rattle.std.proofs.Common.{◌≡◌, length}
use Rattle.std.specs.Prelude.{All}
use Rattle.dash_hall.specs.Dealing.{HasCountedNothing, IsEmptyKit}
use Rattle.dash_hall.proofs.hall.kits.Given as goal

abbrev pub invariant-loop : goal.invariant-loop
invariant-loop l = (l.pass.home ≡ l.pool) × (length l.kits.items ≡ l.counter) × All (IsEmptyKit l.pool) l.kits.items × HasCountedNothing l.pass
