use Rattle.std.proofs.Common.{◌≤◌, ◌∙◌, ℕ, subst}
use Rattle.dash_stage.proofs.Controller.Controls.{quitting_kept, quitting_skips}
use Rattle.dash_stage.proofs.Controller.ControlTurns.{turns_behind, turns_moving}
use Rattle.dash_threads.proofs.ThreadRuns.{on_ok}
use Rattle.dash_stage.proofs.control.Controller.quit.Goals as goal

pub returns-then-time_on-script-clause-quits : goal.returns-then-time_on-script-clause-quits
returns-then-time_on-script-clause-quits g c =
    let s = c.args.script.now in
    let timed = c.time_on.ensures.idle in
    record {
      quitting = quitting_skips s c.time_on.new.self c.args.looper (quitting_kept s c.args.self.now c.time_on.new.self timed.none c.args.looper c.requires.quitting);
      here = λ d. turns_moving _ _ (timed.here d);
    }

pub quit_one-requires : goal.quit_one-requires
quit_one-requires g c = record {
  at = record { is_hall = c.requires.at.is_hall; controller = c.time_on.ensures.idle.alone.controller; known = c.requires.at.known };
  quitting = quitting_kept c.args.script.now c.args.self.now c.time_on.new.self c.time_on.ensures.idle.none c.args.looper c.requires.quitting;
  time = λ d. subst (λ (n : ℕ). c.args.script.now.end ≤ n) (c.time_on.ensures.time d) c.if-time_on-script.false;
}

pub returns : goal.returns
returns g c =
    let quit = c.quit_one.ensures in
    let timed = c.time_on.ensures.idle in
    record {
      alone = record { controller = quit.alone.controller; elsewhere = λ q d apart. quit.alone.elsewhere q d apart ∙ timed.alone.elsewhere q d apart };
      quits = on_ok c.quit_one.result _ _ (λ quits. record { quitting = quits.quitting; here = λ d. turns_behind _ _ _ (timed.here d) (quits.here d) }) quit.quits;
    }
