use Rattle.std.proofs.Common.{Some, None, ap, sym, ◌∙◌, arith, length}
use Rattle.std.specs.Option.{option_map}
use Rattle.loop_model.specs.Items.{when_of}
use Rattle.when_queue.specs.Queue.{items_of}
use Rattle.when_queue.proofs.First.{first_by, within_not, within_is}
use Rattle.when_queue.proofs.Lists.{listed_at, listed_none}
use Rattle.when_queue.proofs.queue.found_at.Goals as goal

pub returns-then-index-len-clause-index : goal.returns-then-index-len-clause-index
returns-then-index-len-clause-index g c = sym (c.requires ∙ within_not c.args.index (length c.args.list.now) (omega arith))

pub returns-then-index-len-clause-when : goal.returns-then-index-len-clause-when
returns-then-index-len-clause-when g c =
    let none = c.requires ∙ within_not c.args.index (length c.args.list.now) (omega arith) in
    sym (ap (option_map when_of) (listed_none c.args.list.now none))

pub returns-then-index-len-clause-first : goal.returns-then-index-len-clause-first
returns-then-index-len-clause-first g c = first_by (items_of c.args.list.now) None (returns-then-index-len-clause-index g c)

pub returns-clause-index : goal.returns-clause-index
returns-clause-index g c = sym (c.requires ∙ within_is c.args.index (length c.args.list.now) (omega arith))

pub returns-clause-first : goal.returns-clause-first
returns-clause-first g c = first_by _ _ (returns-clause-index g c)

pub returns-clause-when : goal.returns-clause-when
returns-clause-when g c =
    let is = c.requires ∙ within_is c.args.index (length c.args.list.now) (omega arith) in
    ap Some c.when-when.ensures ∙ sym (ap (option_map when_of) (listed_at c.args.list.now c.args.index c.get.result.now is c.get.ensures))
