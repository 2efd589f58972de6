use Rattle.std.proofs.Common.{ap, refl}
use Rattle.loop_model.specs.declared.call.Call.TheVariants.{Halt}
use Rattle.loop_model.specs.declared.reply.Reply.TheVariants.{Halted}
use Rattle.looper_run.specs.Holding.{State}
use Rattle.dash_stage.proofs.Controller.Controlling.{after_turn}
use Rattle.dash_stage.proofs.Controller.Controls.{closing_by_kept}
use Rattle.dash_stage.proofs.Controller.ControlTurns.{turned_none, turned_over, turns_none, turns_one, each_turns, ends_with, nothing_moves, halts_closing, halts_clocked, still_clocked}
use Rattle.dash_stage.proofs.control.Controller.halt_by_clock.Goals as goal

pub returns-in-Halted : goal.returns-in-Halted
returns-in-Halted g c =
    let at = c.requires.at in
    let is_p = c.index_mut.ensures.value in
    let t = c.in-Halted.ensures.2 in
    let is = c.in-Halted.ensures.3.1 in
    let pass = c.args.self.now.kit.pass in
    record {
      tries = record {
        controller = after_turn at is_p t;
        turns = each_turns at pass is_p (turns_one t (Halt _) Halted (ap (λ (z : State). z.entries) is) refl);
        going = λ wrong. absurd cc;
        closed = λ _. record { closed = halts_closing at is_p t pass c.args.now is c.requires.late c.requires.closing; halted = ends_with at pass is_p t _ is };
      };
      clocked = λ m moment. halts_clocked at is_p t pass c.args.now is m moment;
    }

pub returns-in-Over : goal.returns-in-Over
returns-in-Over g c =
    turned_over c.requires.at c.index_mut.ensures.value c.index.ensures c.in-Over.ensures.2 refl (nothing_moves c.args.script.now c.args.self.now 0 c.requires.closing.main) c.in-Over.ensures.3.0

pub returns-in-NotDrained : goal.returns-in-NotDrained
returns-in-NotDrained g c =
    let at = c.requires.at in
    let is_p = c.index_mut.ensures.value in
    let t = c.in-NotDrained.ensures.2 in
    let same = c.in-NotDrained.ensures.3.2 in
    let pass = c.args.self.now.kit.pass in
    record {
      tries = record {
        controller = after_turn at is_p t;
        turns = each_turns at pass is_p (turns_none t same);
        going = λ _. closing_by_kept c.args.script.now c.args.self.now _ (turned_none at is_p c.index.ensures t pass same) c.requires.closing;
        closed = λ wrong. absurd cc;
      };
      clocked = λ m moment. still_clocked at is_p t pass same m;
    }
