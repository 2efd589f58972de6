use Rattle.std.proofs.Common.{◌≡◌, ◌∙◌, inr, sym, refl, length}
use Rattle.dash_hall.specs.Hearing.{HaveHeard}
use Rattle.dash_stage.specs.declared.stage.Stage.{Stage}
use Rattle.dash_stage.specs.Timeliness.{IsHaltEntry, whole_on}
use Rattle.dash_stage.proofs.Controller.Controls.{closing_kept, closed_kept}
use Rattle.dash_stage.proofs.Sharing.{calls_none, ended_kept, awaited_ended}
use Rattle.dash_stage.proofs.Stages.StageTurns.{halt_moves_not, halt_in_time, halted_stays, go_on_kept}
use Rattle.dash_stage.proofs.Stages.StageWhole.{turned_by}
use Rattle.dash_stage.proofs.Moves.{turned_at}
use Rattle.dash_stage.proofs.stage.Stage.end.Goals as goal

pub loop-init : goal.loop-init
loop-init g c = record { stage = c.quit_others.ensures.stage; closing = c.in_ok-quit_others.ensures.closes.closing; at = c.in_ok-quit_others.ensures.closes.at }

pub loop-preserved : goal.loop-preserved
loop-preserved g c =
    let at = c.loop.invariant in
    let still = c.run_round.ensures.still in
    record {
      stage = still.stage;
      closing = closing_kept c.args.script.now c.loop.self.controller c.run_round.new.self.controller still.none at.closing;
      at = λ past rests. (c.in_ok-run_round.ensures.round.at past (at.at past rests)).at;
    }

pub halt-halted-requires-clause-at : goal.halt-halted-requires-clause-at
halt-halted-requires-clause-at g c = (let is = c.run_rounds.ensures.still.stage in record { is_hall = is.hall; controller = is.controller; known = c.requires.way.some })

pub halt-halted-requires-clause-closing : goal.halt-halted-requires-clause-closing
halt-halted-requires-clause-closing g c =
    closing_kept c.args.script.now c.loop-2.self.controller c.run_rounds.new.self.controller c.run_rounds.ensures.still.none c.loop-2.invariant.closes.closing

pub returns-then-halted : goal.returns-then-halted
returns-then-halted g c =
    let s = c.args.script.now in
    let ran : Stage = c.run_rounds.new.self in
    let st' : Stage = c.share.new.self in
    let is = c.run_rounds.ensures.still.stage in
    let at = c.loop-2.invariant in
    let halt = c.halt-halted.ensures in
    let shared = c.share.ensures.shared in
    let kept = shared.kept in
    let turns = c.in_ok-run_rounds.ensures.rounds.turns in
    let many : length ran.loopers.items ≡ length c.loop-2.self.loopers.items = is.loopers.0 ∙ sym at.closes.stage.loopers.0 in
    record {
      stage = shared.stage;
      ends = λ past rests.
          let before = (c.in_ok-run_rounds.ensures.rounds.at past (at.closes.at past rests)).at in
          let over = turned_by IsHaltEntry s ran _ st' shared is before.timely.same refl refl halt.turns in
          record {
            stage = shared.stage;
            at = (turned_at over (λ e halts. halt_moves_not e.call halts) shared.heard kept.time (λ q d lt. inr (λ e sound halts. halt_in_time (whole_on ran.controller q d) e.call e.reply halts)) past before).at;
            closed = closed_kept s c.halt-halted.new.self st'.controller (calls_none c.halt-halted.new.self st'.controller kept.controller) (halt.closed c.if-halted.true).closed;
            ended = ended_kept HaveHeard ran.loopers.items st'.loopers.items kept.loopers (awaited_ended c.loop-2.self.loopers.items ran.loopers.items many turns.others at.ended);
            on = go_on_kept HaveHeard ran.loopers.items st'.loopers.items kept.loopers turns.on;
            halted = halted_stays over (halt.closed c.if-halted.true).halted;
          };
    }

pub loop-2-preserved : goal.loop-2-preserved
loop-2-preserved g c =
    let s = c.args.script.now in
    let ran : Stage = c.run_rounds.new.self in
    let st' : Stage = c.share.new.self in
    let is = c.run_rounds.ensures.still.stage in
    let at = c.loop-2.invariant in
    let halt = c.halt-halted.ensures in
    let shared = c.share.ensures.shared in
    let kept = shared.kept in
    let turns = c.in_ok-run_rounds.ensures.rounds.turns in
    let many : length ran.loopers.items ≡ length c.loop-2.self.loopers.items = is.loopers.0 ∙ sym at.closes.stage.loopers.0 in
    record {
      closes = record {
        stage = shared.stage;
        closing = closing_kept s c.halt-halted.new.self st'.controller (calls_none c.halt-halted.new.self st'.controller kept.controller) (halt.going c.if-halted.false);
        at = λ past rests.
            let before = (c.in_ok-run_rounds.ensures.rounds.at past (at.closes.at past rests)).at in
            let over = turned_by IsHaltEntry s ran _ st' shared is before.timely.same refl refl halt.turns in
            (turned_at over (λ e halts. halt_moves_not e.call halts) shared.heard kept.time (λ q d lt. inr (λ e sound halts. halt_in_time (whole_on ran.controller q d) e.call e.reply halts)) past before).at;
      };
      ended = ended_kept HaveHeard ran.loopers.items st'.loopers.items kept.loopers (awaited_ended c.loop-2.self.loopers.items ran.loopers.items many turns.others at.ended);
    }
