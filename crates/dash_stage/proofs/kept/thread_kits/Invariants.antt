use Rattle.std.proofs.Common.{length, List}
use Rattle.loop_model.specs.declared.entry.Entry.{Entry}
use Rattle.run_model.specs.Moments.{Mode}
use Rattle.dash_threads.specs.Threads.{AreByClock}
use Rattle.dash_stage.specs.Runs.{HaveRunFrom, HaveRunAll}
use Rattle.dash_hall.specs.Hearing.{HaveSeenAll}
use Rattle.dash_stage.specs.Sharing.{OfThreads, OfKits}
use Rattle.dash_stage.specs.Stages.{AreThreadsFrom, AreFirstKits, HaveRunBy}
use Rattle.dash_stage.proofs.kept.thread_kits.Given as goal

abbrev pub invariant-each : goal.invariant-each
invariant-each l = record {
  rest : AreThreadsFrom l.script l.hall (length l.kits.items) l.threads.items;
  first : AreFirstKits l.script l.hall l.kits.items;
  run : (m : Mode) → HaveRunBy m l.script l.script.blocks l.initial.threads.items → HaveRunFrom m l.script (length l.kits.items) l.threads.items × HaveRunAll m l.script l.kits.items;
  seen : (whole : List (List Entry)) → OfThreads (HaveSeenAll whole) l.initial.threads.items → OfThreads (HaveSeenAll whole) l.threads.items × OfKits (HaveSeenAll whole) l.kits.items;
  clocked : (m : Mode) → OfThreads (AreByClock m) l.initial.threads.items → OfThreads (AreByClock m) l.threads.items × OfKits (AreByClock m) l.kits.items;
}

abbrev pub decreases-each : goal.decreases-each
decreases-each l = length l.threads.items
