use Rattle.inbox_queue.proofs.Handing.{post_done}
use Rattle.inbox_queue.proofs.main_queue.Place.post.Goals as goal

pub returns-clause-at : goal.returns-clause-at
returns-clause-at g c = (post_done c.args.self.now c.args.hands.now c.post_once.new.hands c.share.new.hands c.args.post.now (record { at = c.requires; kept = (c.in_ok-post_once.ensures.kept.0, c.in_ok-post_once.ensures.kept.1); same = c.share.ensures.same; heard = c.share.ensures.looper }) c.in_ok-post_once.ensures.done).0

pub returns-clause-made : goal.returns-clause-made
returns-clause-made g c = (post_done c.args.self.now c.args.hands.now c.post_once.new.hands c.share.new.hands c.args.post.now (record { at = c.requires; kept = (c.in_ok-post_once.ensures.kept.0, c.in_ok-post_once.ensures.kept.1); same = c.share.ensures.same; heard = c.share.ensures.looper }) c.in_ok-post_once.ensures.done).1
