use Rattle.dash_loopers.proofs.LooperPlaces.{frames_near}
use Rattle.dash_loopers.proofs.player.Place.choreographer.Goals as goal

pub of_looper-requires : goal.of_looper-requires
of_looper-requires g c = frames_near c.args.self.now.script.now c.args.self.now.hall.now c.args.self.now.looper c.requires
