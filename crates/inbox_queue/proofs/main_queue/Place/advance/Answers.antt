use Rattle.inbox_queue.proofs.Handing.{move_done}
use Rattle.inbox_queue.proofs.main_queue.Place.advance.Goals as goal

pub returns-clause-at : goal.returns-clause-at
returns-clause-at g c = (move_done c.args.self.now c.args.hands.now c.advance_once-moved.new.hands c.share.new.hands c.args.time _ (record { at = c.requires; kept = c.advance_once-moved.ensures.kept; same = c.share.ensures.same; heard = c.share.ensures.controller }) c.advance_once-moved.ensures.done).0

pub returns-clause-made : goal.returns-clause-made
returns-clause-made g c = (move_done c.args.self.now c.args.hands.now c.advance_once-moved.new.hands c.share.new.hands c.args.time _ (record { at = c.requires; kept = c.advance_once-moved.ensures.kept; same = c.share.ensures.same; heard = c.share.ensures.controller }) c.advance_once-moved.ensures.done).1
