use Rattle.std.proofs.Common.{refl}
use Rattle.std.proofs.lemmas.List.{get_or-set_other}
use Rattle.dash_stage.proofs.Controller.Controlling.{in_choreographers, in_passes, own_pass, after_frame_turn}
use Rattle.dash_loopers.proofs.LooperPulses.{none_rounded, some_rounded}
use Rattle.dash_stage.proofs.Moves.{asked_comes, looked}
use Rattle.dash_stage.proofs.control.Controller.asked.Goals as goal

pub index-requires : goal.index-requires
index-requires g c = in_choreographers c.requires.at

pub index_mut-requires : goal.index_mut-requires
index_mut-requires g c = in_passes c.requires.at

pub asked-requires : goal.asked-requires
asked-requires g c =
    own_pass c.requires.at c.index_mut.ensures.value c.index.ensures

pub returns-in_err-stamp : goal.returns-in_err-stamp
returns-in_err-stamp g c = record {
  controller = after_frame_turn c.requires.at c.index_mut.ensures.value c.asked.ensures.turn.1;
  posters = refl;
  pulse = λ time is. absurd cc;
  look = looked c.requires.at c.index_mut.ensures.value c.asked.ensures.turn (none_rounded _ _ c.in_err-stamp.was c.from_residual.ensures);
  elsewhere = λ q p other. get_or-set_other c.args.self.now.kit.frames.items c.args.looper q c.asked.new.pass p other;
}

pub returns : goal.returns
returns g c = record {
  controller = after_frame_turn c.requires.at c.index_mut.ensures.value c.asked.ensures.turn.1;
  posters = refl;
  pulse = λ time is. asked_comes c.requires.at c.index.ensures c.in_ok-stamp.stamp c.div_ceil.result time c.in_ok-stamp.ensures.is_pulse c.div_ceil.ensures is;
  look = looked c.requires.at c.index_mut.ensures.value c.asked.ensures.turn (some_rounded _ _ _ c.in_ok-stamp.was c.div_ceil.ensures);
  elsewhere = λ q p other. get_or-set_other c.args.self.now.kit.frames.items c.args.looper q c.asked.new.pass p other;
}
