use Rattle.std.proofs.Common.{rules, ◌≡◌, ◌+◌, [], ◌∷◌, ◌++◌, length, sym, ◌∙◌, subst}
use Rattle.shared_queue.specs.Ends.{AreNew}
use Rattle.shared_queue.proofs.Gathers.{deals_more}
use Rattle.shared_queue.proofs.queue.SharedQueue.deal_all.Goals as goal

pub loop-sender-preserved : goal.loop-sender-preserved
loop-sender-preserved g c =
    let at = c.loop-sender in
    let p = c.deal-poster.result in
    let seat = c.deal-poster.ensures.seat in
    let poster = c.deal-poster.ensures.poster in
    let items : c.push.new.self.items ≡ at.posters.items ++ p ∷ [] = search rules in
    let long : length c.push.new.self.items ≡ at.sender + 1 = search rules in (
      seat.0 ∙ at.invariant.0,
      seat.1,
      long,
      subst (AreNew c.args.self.now) (sym items) (deals_more c.args.self.now at.posters.items p at.sender at.invariant.2 at.invariant.3 poster.0 poster.1 poster.2),
    )
