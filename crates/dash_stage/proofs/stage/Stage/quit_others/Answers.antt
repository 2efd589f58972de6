use Rattle.std.proofs.Common.{◌≡◌, ◌+◌, ◌∙◌, List, false, refl, sym, subst, arith, length}
use Rattle.std.specs.Prelude.{slice_index_or}
use Rattle.looper_run.specs.Round.{is_ended}
use Rattle.dash_loopers.specs.declared.looper.StageLooper.{StageLooper}
use Rattle.dash_stage.specs.declared.control.Controller.{Controller}
use Rattle.dash_stage.specs.declared.stage.Stage.{Stage}
use Rattle.dash_stage.specs.Timeliness.{MovesNot}
use Rattle.dash_stage.proofs.Controller.Controlling.{poster_count}
use Rattle.dash_stage.proofs.Controller.Controls.{quitting_starts, quitting_skips, closing_kept, quitting_ends}
use Rattle.dash_stage.proofs.Sharing.{calls_none}
use Rattle.dash_stage.proofs.Stages.StageTurns.{turns_none, turns_more, kept_where_ended, quit_in_time}
use Rattle.dash_stage.proofs.Stages.StageWhole.{turned_by}
use Rattle.dash_stage.proofs.Moves.{turned_at}
use Rattle.dash_stage.proofs.stage.Stage.quit_others.Invariants.{HasQuit}
use Rattle.dash_stage.proofs.stage.Stage.quit_others.Goals as goal
use Rattle.dash_stage.proofs.stage.Stage.quit_others.Goals.{then-not-has_ended+in_ok-quit, else-not-has_ended}

pub loop-looper-init : goal.loop-looper-init
loop-looper-init g c =
    let way = c.requires.way in
    let control = c.args.self.now.controller in
    record {
      stage = way.stage;
      threads = refl;
      loopers = refl;
      same_time = refl;
      quitting = quitting_starts c.args.script.now control way.moving c.requires.reached;
      turns = turns_none MovesNot control;
      rest = λ q d le. refl;
      ended = λ q d why. refl;
    }

pub quit-requires : goal.quit-requires
quit-requires g c =
    let at = c.loop-looper.invariant in
    record { at = record { is_hall = at.stage.hall; controller = at.stage.controller; known = omega (arith, c.loop-looper-test.true) }; quitting = at.quitting }

pub loop-looper-preserved : goal.loop-looper-preserved
loop-looper-preserved g c =
    let s = c.args.script.now in
    let n = c.loop-looper.looper in
    let st = c.loop-looper.self in
    let at = c.loop-looper.invariant in
    let first = c.args.self.now in
    elim c.if-not-has_ended.branch [
      | then-not-has_ended+in_ok-quit w ↦
          let stage = at.stage in
          let l : StageLooper = c.index.result.now in
          let found : is_ended l.last ≡ false = sym c.has_ended.ensures ∙ w.if-not-has_ended.true in
          let going : is_ended (slice_index_or first.loopers.items n l).last ≡ false =
          subst (λ (ls : List StageLooper). is_ended (slice_index_or ls n l).last ≡ false) at.loopers (subst (λ (z : StageLooper). is_ended z.last ≡ false) c.index.ensures found) in
          let quit : Controller = w.quit.new.self in
          let long : length quit.kit.posters.items ≡ length st.controller.kit.posters.items =
          poster_count s st.hall quit stage.hall w.quit.ensures.alone.controller ∙ sym (poster_count s st.hall st.controller stage.hall stage.controller) in
          let more = turns_more MovesNot first.controller st.controller quit n at.turns at.rest long w.in_ok-quit.ensures.quits.here w.quit.ensures.alone.elsewhere in
          subst (HasQuit s (n + 1) first) (sym w.self-is) (record {
            stage = record { text = stage.text; hall = stage.hall; threads = stage.threads; loopers = stage.loopers; controller = w.quit.ensures.alone.controller; pass = stage.pass };
            threads = at.threads;
            loopers = at.loopers;
            same_time = at.same_time;
            quitting = w.in_ok-quit.ensures.quits.quitting;
            turns = more.0;
            rest = more.1;
            ended = kept_where_ended first.loopers.items first.controller st.controller quit n l at.quitting.side going at.ended w.quit.ensures.alone.elsewhere;
          })
      | else-not-has_ended w ↦
          subst (HasQuit s (n + 1) first) (sym w.self-is) (record {
            stage = at.stage;
            threads = at.threads;
            loopers = at.loopers;
            same_time = at.same_time;
            quitting = quitting_skips s st.controller n at.quitting;
            turns = at.turns;
            rest = λ q d le. at.rest q d (omega (arith, le));
            ended = at.ended;
          })
    ]

pub returns : goal.returns
returns g c =
    let s = c.args.script.now in
    let st = c.args.self.now in
    let st' : Stage = c.share.new.self in
    let left : Stage = c.loop-looper.self in
    let at = c.loop-looper.invariant in
    let is = c.requires.way.stage in
    let shared = c.share.ensures.shared in
    record {
      stage = shared.stage;
      closes = record {
        closing = closing_kept s left.controller st'.controller (calls_none left.controller st'.controller shared.kept.controller) (quitting_ends s c.loop-looper.looper left.controller at.quitting);
        at = λ past rests.
            (turned_at (turned_by MovesNot s st left st' shared is rests.at.timely.same at.threads at.loopers at.turns) (λ e h. h) shared.heard (shared.kept.time ∙ at.same_time)
            (quit_in_time s st left.controller is at.ended rests.rested) past rests.at).at;
      };
    }
