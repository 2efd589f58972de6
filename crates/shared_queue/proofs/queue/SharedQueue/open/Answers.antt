use Rattle.std.proofs.Common.{◌≡◌, [], ◌∷◌, ◌++◌, Some, ap, sym, ◌∙◌, subst}
use Rattle.atomic_table.specs.Table.{opening}
use Rattle.queue_state.specs.Queue.{Queue}
use Rattle.shared_queue.specs.Constants.{constants_of}
use Rattle.shared_queue.specs.Turn.{QueueTurn, opening_view}
use Rattle.shared_queue.proofs.Turns.{opens}
use Rattle.shared_queue.proofs.queue.SharedQueue.open.Goals as goal

pub new-requires : goal.new-requires
new-requires g c =
    let key = constants_of c.args.home.value c.args.traits in
    let x : Queue g.row.K-Home.Denot g.row.K.Denot = c.args.state in
    let items : c.push_reserved.new.self.items ≡ Some x ∷ [] = c.push_reserved.ensures.items ∙ ap (λ l. l ++ Some x ∷ []) c.in-Ok.ensures.items in
    subst (λ slots. QueueTurn key (opening (0 ∷ 0 ∷ []) slots (opening_view key))) (sym items) (opens key x c.requires.state)
