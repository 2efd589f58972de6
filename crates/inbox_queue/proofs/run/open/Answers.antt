use Rattle.std.proofs.Common.{◌+◌, ◌∙◌, true, ap}
use Rattle.atomic_table.specs.Seated.{TableId}
use Rattle.shared_queue.specs.Constants.{Constants}
use Rattle.inbox_queue.specs.declared.main_queue.Place.{Place}
use Rattle.inbox_queue.specs.declared.main_queue.Hands.{Hands}
use Rattle.inbox_queue.proofs.Ending.{two_popped, as_opened}
use Rattle.inbox_queue.proofs.run.open.Goals as goal

pub returns : goal.returns
returns c =
    let threads = c.args.script.now.threads in
    let place : Place = record { queue = c.in_ok-queue.queue; pool = c.in_ok-pool.pool } in
    let hands : Hands = record { looper = c.unwrap-looper.result; controller = c.unwrap-controller.result; pass = c.in_ok-pool.pass } in
    let are = two_popped c.in_ok-queue.threads.items c.pop.new.self.items c.pop-2.new.self.items c.pop.result c.pop-2.result hands.looper hands.controller c.pop.ensures.items c.unwrap-controller.ensures c.pop-2.ensures.items c.unwrap-looper.ensures in
    let o = as_opened threads place hands c.pop-2.new.self.items c.in_ok-queue.threads.items are c.in_ok-queue.ensures.posters.0 c.in_ok-queue.ensures.posters.1
    (c.in_ok-queue.ensures.constants ∙ ap (λ (h : TableId). let k : Constants TableId = record { home = h; looper = 0; setting = record { main = true; lockstep = true; senders = threads + 2 } } in k) c.home.ensures) c.in_ok-pool.ensures.0 in
    (record { at = o.0; count = o.1; looper = o.2; idle = o.3; posters = o.4 }, o.5)
