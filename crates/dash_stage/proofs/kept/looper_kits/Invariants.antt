use Rattle.std.proofs.Common.{◌≡◌, ◌+◌, List, length, map, drop}
use Rattle.loop_model.specs.declared.entry.Entry.{Entry}
use Rattle.loop_model.specs.declared.journal.Journal.{Journal}
use Rattle.std.specs.List.{range_with_len}
use Rattle.dash_stage.specs.Runs.{HaveRunAll}
use Rattle.dash_hall.specs.Hearing.{HaveSeenAll}
use Rattle.dash_stage.specs.Sharing.{OfLoopers, OfKits}
use Rattle.dash_loopers.specs.Loopers.{HaveTold}
use Rattle.dash_stage.specs.Leaving.{HaveGiven}
use Rattle.dash_stage.specs.Stages.{AreLoopersFrom, AreFirstKits, OthersHaveEnded, LoopersGoOn}
use Rattle.dash_stage.proofs.Played.KitsOver.{HaveEndedFrom, AreOverAmong}
use Rattle.dash_stage.proofs.kept.looper_kits.Given as goal
use Rattle.run_model.specs.Moments.{Mode}
use Rattle.dash_threads.specs.Threads.{AreByClock}

abbrev pub invariant-each : goal.invariant-each
invariant-each l = record {
  rest : AreLoopersFrom l.script l.hall (length l.journals.items) l.loopers.items;
  count : length l.kits.items ≡ l.script.threads + length l.journals.items;
  first : AreFirstKits l.script l.hall l.kits.items;
  journals : map (λ (j : Journal). j.looper) l.journals.items ≡ range_with_len 0 (length l.journals.items);
  run : (m : Mode) → HaveRunAll m l.script l.initial.kits.items → HaveRunAll m l.script l.kits.items;
  over : OthersHaveEnded l.initial.loopers.items → HaveEndedFrom (length l.journals.items) l.loopers.items × AreOverAmong l.script l.kits.items;
  told : LoopersGoOn l.initial.loopers.items → LoopersGoOn l.loopers.items × HaveTold l.script l.journals.items l.kits.items;
  seen : (whole : List (List Entry)) → OfLoopers (HaveSeenAll whole) l.initial.loopers.items → OfKits (HaveSeenAll whole) l.initial.kits.items → OfLoopers (HaveSeenAll whole) l.loopers.items × OfKits (HaveSeenAll whole) l.kits.items;
  behind : l.loopers.items ≡ drop (length l.journals.items) l.initial.loopers.items;
  given : HaveGiven l.script l.initial.loopers.items l.journals.items l.kits.items;
  clocked : (m : Mode) → OfLoopers (AreByClock m) l.initial.loopers.items → OfKits (AreByClock m) l.initial.kits.items → OfLoopers (AreByClock m) l.loopers.items × OfKits (AreByClock m) l.kits.items;
}

abbrev pub decreases-each : goal.decreases-each
decreases-each l = length l.loopers.items
