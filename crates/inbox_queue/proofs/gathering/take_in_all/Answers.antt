use Rattle.std.proofs.Common.{◌≡◌, ◌∷◌, ◌++◌, length, ap, sym, ◌∙◌, arith, Some}
use Rattle.std.specs.Prelude.{slice_set}
use Rattle.std.specs.Vec.Iter.{into_iter_items}
use Rattle.inbox_queue.specs.Handed.{Admitting}
use Rattle.inbox_queue.proofs.Gatherings.{regrouped, one_sender, taken_more}
use Rattle.inbox_queue.proofs.gathering.take_in_all.Goals as goal

pub loop-sender-preserved : goal.loop-sender-preserved
loop-sender-preserved c =
    let at = c.loop-sender in
    let s = c.in-Some.sender in
    let steps : into_iter_items at.sender-iterator ≡ s ∷ into_iter_items c.next.new.self = c.in-Some.ensures.steps.0 in
    let one = one_sender c.args.inbox.now c.args.senders.items at.yielded (into_iter_items c.next.new.self) s (ap (λ l. at.yielded ++ l) (sym steps) ∙ at.invariant.0 ∙ c.into_iter-sender-iterator.ensures.into_iter_gives.0) c.requires.senders in (
      regrouped at.yielded _ _ _ s steps at.invariant.0,
      let was = at.invariant.1 in let gone = c.in-Some.ensures.steps.1 in let short = ap length steps in omega arith,
      ap (λ (a : Admitting). a.inbox) c.take_in.ensures ∙ at.invariant.2,
      ap (λ (a : Admitting). a.admitted) c.take_in.ensures ∙ at.invariant.3,
      ap (λ (a : Admitting). a.taken) c.take_in.ensures ∙ ap (λ l. slice_set l s.number (Some s.put)) at.invariant.4
          ∙ taken_more at.yielded s c.args.admitter.now.taken one.1 (let lt = one.2 in let count = c.requires.admitter.1 in omega (arith, lt, count)),
    )
