use denote.Param.Send.{sendable}
use Rattle.std.proofs.Common.{◌≡◌, Some, refl, sym, ap, ◌∙◌, arith}
use Rattle.dash_loopers.specs.Loopers.{posters_of, rest_in}
use Rattle.dash_hall.proofs.Hearing.{has_heard, ready_is, known_is, longer_whole}
use Rattle.dash_loopers.proofs.LooperPasses.{may_self, may_same}
use Rattle.dash_loopers.proofs.LooperSeats.{own_at, own_ready, other_is, looper_own_heard, looper_other_heard}
use Rattle.dash_loopers.proofs.looper.StageLooper.hear.Goals as goal

pub hear-requires : goal.hear-requires
hear-requires c = (search sendable, (own_ready c.args.self.now c.args.place c.args.queue.now c.requires.ready c.requires.within (omega (arith, c.if-place-number.true)), c.requires.other))

pub returns-then-place-number-clause-kept : goal.returns-then-place-number-clause-kept
returns-then-place-number-clause-kept c =
    let l = c.args.self.now in
    let p = l.looper.held.poster in
    let whole = c.args.other.now.view.seen in
    let at : c.args.place ≡ l.number = omega (arith, c.if-place-number.true) in
    let known = known_is (posters_of l) c.args.place p whole c.requires.known (own_at l c.args.place c.requires.within at) in
    record {
      number = refl;
      sender = refl;
      posters = looper_own_heard l c.args.place c.hear.new.self whole c.requires.within at
          (has_heard p c.hear.new.self.held.poster c.hear.ensures.same c.hear.ensures.begins.0) (c.hear.ensures.seen ∙ longer_whole p.view.seen whole known);
      beside = c.hear.ensures.beside;
      rest = may_self (rest_in l.parts);
      last = refl;
      dispatched = refl;
    }

pub hear-requires-2-after_bounds : goal.hear-requires-2-after_bounds
hear-requires-2-after_bounds c κs =
    let l = c.args.self.now in
    let parts = c.in-Some.parts in
    let is : l.parts ≡ Some parts = cc in
    let p = c.index_mut.result.now in
    (ready_is (posters_of l) c.args.place p c.args.queue.now c.requires.ready (other_is l parts c.args.place c.place_without.result p c.requires.within is c.place_without.ensures c.index_mut.ensures.value), c.requires.other)

pub returns-clause-kept : goal.returns-clause-kept
returns-clause-kept c =
    let l = c.args.self.now in
    let parts = c.in-Some.parts in
    let is : l.parts ≡ Some parts = cc in
    let p = c.index_mut.result.now in
    let whole = c.args.other.now.view.seen in
    let known = known_is (posters_of l) c.args.place p whole c.requires.known (other_is l parts c.args.place c.place_without.result p c.requires.within is c.place_without.ensures c.index_mut.ensures.value) in
    record {
      number = refl;
      sender = refl;
      posters = looper_other_heard l parts c.args.place c.place_without.result p c.hear-2.new.self whole c.requires.within is c.place_without.ensures c.requires.ready.0 c.index_mut.ensures.value
          (has_heard p c.hear-2.new.self c.hear-2.ensures.same c.hear-2.ensures.begins.0) (c.hear-2.ensures.seen ∙ longer_whole p.view.seen whole known);
      beside = record { pass = refl; journal = refl; idle_owed = refl; ended = refl };
      rest = may_same (rest_in l.parts) (rest_in (Some parts)) (sym (ap rest_in is));
      last = refl;
      dispatched = refl;
    }
