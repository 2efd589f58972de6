use Rattle.std.proofs.Common.{refl, ap, ◌∙◌}
use Rattle.choreographer.specs.declared.view.Constants.{Constants}
use Rattle.dash_hall.proofs.Badges.{choreographer_at}
use Rattle.dash_stage.proofs.Controller.Controlling.{in_choreographers, in_passes, own_pass, in_frame_lists, last_pass, frames_controller}
use Rattle.dash_stage.proofs.control.Controller.seal_frames.Goals as goal

pub index-requires : goal.index-requires
index-requires g c = in_choreographers c.requires.at

pub index_mut-requires : goal.index_mut-requires
index_mut-requires g c = in_passes c.requires.at

pub index_mut-requires-2 : goal.index_mut-requires-2
index_mut-requires-2 g c = in_frame_lists c.requires.at

pub hand_out_frames-requires : goal.hand_out_frames-requires
hand_out_frames-requires g c = record {
  pass = own_pass c.requires.at c.index_mut.ensures.value c.index.ensures;
  last = last_pass c.requires.at c.index_mut.ensures.value c.index.ensures;
  seals = ap (λ (k : Constants). k.seals) (ap (λ f. f.constants) c.index.ensures ∙ choreographer_at c.args.script.now c.args.hall.now.choreographers.items c.requires.at.is_hall.choreographers c.args.place c.index.result.now c.requires.at.known);
}

pub returns : goal.returns
returns g c = record { controller = frames_controller c.requires.at c.hand_out_frames.new.parts c.index_mut.ensures.value c.index_mut-2.ensures.value c.hand_out_frames.ensures; posters = refl }
