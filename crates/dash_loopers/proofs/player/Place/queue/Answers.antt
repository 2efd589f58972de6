use Rattle.dash_loopers.proofs.LooperPlaces.{queue_near}
use Rattle.dash_loopers.proofs.player.Place.queue.Goals as goal

pub of_looper-requires : goal.of_looper-requires
of_looper-requires g c = queue_near c.args.self.now.script.now c.args.self.now.hall.now c.args.self.now.looper c.requires
