use Rattle.std.proofs.Common.{◌≡◌, ◌≤◌, Some, length, ap, sym, subst, ◌∙◌, arith}
use Rattle.loop_model.specs.Items.{is_asynchronous}
use Rattle.message_slot.specs.Letter.{Letter}
use Rattle.when_queue.specs.Queue.{IsRising}
use Rattle.when_queue.specs.Tally.{what_place, callback_place, with_fewer}
use Rattle.when_queue.proofs.Lists.{got_back, removed_is, rising_removed, length_put}
use Rattle.when_queue.proofs.Tallied.{tallied_fewer, skip_gone}
use Rattle.when_queue.proofs.queue.WhenQueue.unlink.Goals as goal

pub invariant_of-self : goal.invariant_of-self
invariant_of-self g c =
    let at = rw (← c.self.view_is) at c.requires in
    let back : Some c.get.result.now ≡ Some c.remove_at-node.result = sym c.get.ensures ∙ got_back c.self.inside.list c.remove_at-node.new.self c.args.index c.remove_at-node.result at c.remove_at-node.ensures in
    let is : c.get.result.now ≡ c.remove_at-node.result = cc in
    let fewer = ap length c.remove_at-node.ensures ∙ length_put c.remove_at-node.new.self c.args.index c.remove_at-node.result in
    let within : c.args.index ≤ length c.remove_at-node.new.self = omega arith in (
      subst IsRising (sym (removed_is c.self.inside.list c.remove_at-node.new.self c.args.index c.remove_at-node.result at c.remove_at-node.ensures)) (rising_removed c.self.inside.list c.args.index c.self.invariant.0),
      tallied_fewer c.self.inside.tally.whats.items c.self.inside.tally.callbacks.items c.take_off.new.self.whats.items c.take_off.new.self.callbacks.items c.remove_at-node.new.self c.self.inside.list c.args.index c.remove_at-node.result
          (c.take_off.ensures.whats ∙ ap (λ (m : Letter g.row.K.Denot). with_fewer (what_place m.item) c.self.inside.tally.whats.items) is)
          (c.take_off.ensures.callbacks ∙ ap (λ (m : Letter g.row.K.Denot). with_fewer (callback_place m.item) c.self.inside.tally.callbacks.items) is)
          c.remove_at-node.ensures c.self.invariant.1,
      skip_gone (λ m. is_asynchronous m.item) c.self.inside.list c.remove_at-node.new.self c.args.index c.self.inside.skip c.skip_without-self-inside.result c.remove_at-node.result c.skip_without-self-inside.ensures c.remove_at-node.ensures within c.self.invariant.2,
    )

pub returns-clause-node : goal.returns-clause-node
returns-clause-node g c =
    let at = rw (← c.self.view_is) at c.requires in
    rw (← c.self.view_is) (got_back c.self.inside.list c.remove_at-node.new.self c.args.index c.remove_at-node.result at c.remove_at-node.ensures)

pub returns-clause-list : goal.returns-clause-list
returns-clause-list g c =
    let at = rw (← c.self.view_is) at c.requires in
    rw (← c.self.view_is) (removed_is c.self.inside.list c.remove_at-node.new.self c.args.index c.remove_at-node.result at c.remove_at-node.ensures)
