use Rattle.std.proofs.Common.{ap, sym, subst, ◌∙◌, ◌++◌, ◌∷◌, []}
use mathlib.Core.List.{IsPrefix}
use Rattle.inbox_queue.specs.Plans.{parcels_of, from_sender}
use Rattle.inbox_queue.specs.Passes.{known}
use Rattle.inbox_queue.specs.Handed.{Admitting}
use Rattle.inbox_queue.proofs.Gatherings.{takes_as, admission}
use Rattle.inbox_queue.proofs.admitter.Admitter.admit.Goals as goal

pub pop_as-requires-clause-rule : goal.pop_as-requires-clause-rule
pop_as-requires-clause-rule g c = takes_as _ _ _ _ c.self.invariant.0

pub returns-in-Some-clause-next : goal.returns-in-Some-clause-next
returns-in-Some-clause-next g c =
    let h = admission c.args.self.now (known c.self.inside.pass) (known c.pop_as.new.pass) c.self.inside.admitted.items c.in-Some.parcel (sym (ap (λ (a : Admitting). a.taken) c.self.view_is)) (sym (ap (λ (a : Admitting). a.admitted) c.self.view_is)) c.self.invariant.0 c.in-Some.ensures.rule.0 c.requires.senders in
    (h.0, λ p posts is. subst (λ l. IsPrefix (from_sender p l) (parcels_of p posts)) (sym (c.push_reserved.ensures.items ∙ ap (λ l. l ++ c.in-Some.parcel ∷ []) c.reserve.ensures.items)) (h.1 p posts is))

pub returns-in-Some-clause-empty : goal.returns-in-Some-clause-empty
returns-in-Some-clause-empty g c = (admission c.args.self.now (known c.self.inside.pass) (known c.pop_as.new.pass) c.self.inside.admitted.items c.in-Some.parcel (sym (ap (λ (a : Admitting). a.taken) c.self.view_is)) (sym (ap (λ (a : Admitting). a.admitted) c.self.view_is)) c.self.invariant.0 c.in-Some.ensures.rule.0 c.requires.senders).2
