use Rattle.inbox_queue.proofs.Handing.{looper_heard, controller_heard}
use Rattle.inbox_queue.proofs.main_queue.Place.share.Goals as goal

pub returns-clause-looper : goal.returns-clause-looper
returns-clause-looper c = looper_heard c.args.hands.now.looper c.hear.new.other c.hear-2.new.self c.args.hands.now.controller c.hear.new.self c.hear-2.new.other c.hear.ensures.seen c.hear.ensures.other c.hear-2.ensures.seen c.hear-2.ensures.other

pub returns-clause-controller : goal.returns-clause-controller
returns-clause-controller c = controller_heard c.args.hands.now.looper c.hear.new.other c.hear-2.new.self c.args.hands.now.controller c.hear.new.self c.hear-2.new.other c.hear.ensures.seen c.hear.ensures.other c.hear-2.ensures.seen c.hear-2.ensures.other
