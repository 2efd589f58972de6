use Rattle.std.proofs.Common.{inr, refl}
use Rattle.dash_stage.specs.Timeliness.{IsNoEntry}
use Rattle.dash_stage.proofs.Stages.StageWhole.{turned_by}
use Rattle.dash_stage.proofs.Moves.{still_shared, turned_at}
use Rattle.dash_stage.proofs.stage.Stage.hand_out.Goals as goal

pub returns : goal.returns
returns g c =
    let s = c.args.script.now in
    let st = c.args.self.now in
    let shared = c.share.ensures.shared in
    record {
      still = still_shared s st _ c.share.new.self shared c.seal.ensures.idle.none refl;
      shares = record {
        at = λ past at. turned_at (turned_by IsNoEntry s st _ c.share.new.self shared c.requires.stage at.timely.same refl refl c.in_ok-seal.ensures.turns) (λ e none. absurd none) shared.heard shared.kept.time
            (λ q d lt. inr (λ e sound none. absurd none)) past at;
        same = shared.same;
      };
    }
