use Rattle.std.proofs.Common.{◌≡◌, max, List, refl, ◌∙◌, arith}
use Rattle.dash_script.specs.declared.script.Block.{Block}
use Rattle.dash_stage.specs.Steps.{IsReadyFor}
use Rattle.dash_stage.specs.Timeliness.{AreBy}
use Rattle.dash_stage.proofs.Controller.Controls.{moving_kept, reached_kept, by_kept}
use Rattle.dash_stage.proofs.Stages.StageWhole.{by_later}
use Rattle.dash_stage.proofs.Played.PlayedTurns.{advanced_sound}
use Rattle.dash_stage.proofs.Sharing.{calls_none}
use Rattle.dash_stage.proofs.Moves.{advanced_by, advanced_at, advanced_begins}
use Rattle.dash_stage.proofs.stage.Stage.advance.Goals as goal

pub advance-requires : goal.advance-requires
advance-requires g c = (let way = c.requires.way in record { at = record { is_hall = way.stage.hall; controller = way.stage.controller; known = way.some }; within = c.requires.end; moving = way.moving })

pub returns-in_err-moved-clause-way : goal.returns-in_err-moved-clause-way
returns-in_err-moved-clause-way g c =
    let way = c.requires.way in
    let m = c.max-self.ensures in
    record {
      some = way.some;
      stage = record { text = way.stage.text; hall = way.stage.hall; threads = way.stage.threads; loopers = way.stage.loopers; controller = c.advance.ensures.controller; pass = way.stage.pass };
      moving = c.advance.ensures.pace.moving;
      by = c.advance.ensures.pace.by c.max-self.result (omega (arith, m)) (by_later c.args.self.now.time c.max-self.result c.args.self.now.controller (omega (arith, m)) way.by);
    }

pub returns : goal.returns
returns g c =
    let s = c.args.script.now in
    let time = c.args.time in
    let st = c.args.self.now in
    let left = c.advance.new.self in
    let st' = c.share.new.self in
    let way = c.requires.way in
    let shared = c.share.ensures.shared in
    let went = c.in_ok-moved.ensures.all in
    let m = c.max-self.ensures in
    let now : st'.time ≡ max st.time time = shared.kept.time ∙ m in
    let by : AreBy st'.time left = c.advance.ensures.pace.by st'.time (omega (arith, now)) (by_later st.time st'.time st.controller (omega (arith, now)) way.by) in
    let none = calls_none left st'.controller shared.kept.controller in
    let advanced = λ (past : List Block) (ready : IsReadyFor s past time st). advanced_by s past time st _ st' _ shared ready refl refl went.turns now by went.come went.stuck in
    record {
      way = record { some = way.some; stage = shared.stage; moving = moving_kept s left st'.controller none c.advance.ensures.pace.moving; by = by_kept left st'.controller none st'.time by };
      on = record {
        now = now;
        reached = λ moved. reached_kept s left st'.controller none time (went.reached moved);
        at = λ past ready. advanced_at (advanced past ready) shared.heard past way.some c.requires.end ready.may ready.rests.at;
        drained = λ past ready sound. (advanced_sound (advanced past ready) sound).0;
        block = λ past ready. advanced_begins (advanced past ready) shared.heard past;
      };
    }
