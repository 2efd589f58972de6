use Rattle.std.proofs.Common.{true}
use Rattle.dash_stage.proofs.Sharing.{stage_in_its_mode, stage_kept, stage_then, kept_heard, same_kept}
use Rattle.dash_stage.proofs.stage.Stage.share.Goals as goal

pub share_each-requires : goal.share_each-requires
share_each-requires c = record { stage = stage_in_its_mode c.args.script.now c.args.self.now c.requires.stage }

pub share_frames-requires : goal.share_frames-requires
share_frames-requires c = record { stage = stage_in_its_mode c.args.script.now c.share_each.new.self (c.share_each.ensures.stage true c.requires.stage) }

pub returns : goal.returns
returns c =
    let each = c.share_each.ensures in
    let frames = c.share_frames.ensures in
    let heard = kept_heard c.share_each.new.self c.share_frames.new.self frames.kept in
    record {
      shared = record {
        stage = stage_kept c.args.script.now c.share_each.new.self c.share_frames.new.self heard (each.stage true c.requires.stage);
        kept = stage_then c.args.self.now c.share_each.new.self c.share_frames.new.self each.shares.kept heard;
        same = same_kept c.share_each.new.self c.share_frames.new.self frames.kept each.shares.shared;
        heard = frames.heard;
      };
    }
