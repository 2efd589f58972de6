use Rattle.inbox_queue.proofs.Handing.{look_done}
use Rattle.inbox_queue.proofs.main_queue.Place.look.Goals as goal

pub returns-clause-at : goal.returns-clause-at
returns-clause-at g c = (look_done c.args.self.now c.args.hands.now c.look_once-look.new.hands c.share.new.hands _ (record { at = c.requires; kept = c.look_once-look.ensures.kept; same = c.share.ensures.same; heard = c.share.ensures.looper }) c.look_once-look.ensures.done).0

pub returns-clause-made : goal.returns-clause-made
returns-clause-made g c = (look_done c.args.self.now c.args.hands.now c.look_once-look.new.hands c.share.new.hands _ (record { at = c.requires; kept = c.look_once-look.ensures.kept; same = c.share.ensures.same; heard = c.share.ensures.looper }) c.look_once-look.ensures.done).1
