use denote.Param.Send.{sendable}
use Rattle.std.proofs.Common.{◌≡◌, List, Some, refl, sym, ap, ◌∙◌, subst, arith}
use Rattle.std.specs.List.{insert}
use Rattle.looper_run.specs.Holding.{Sender, Looping, IsBeside}
use Rattle.dash_loopers.specs.Loopers.{posters_of, others_in, rest_in}
use Rattle.dash_hall.proofs.Hearing.{has_heard, ready_is, known_at, kept_at}
use Rattle.dash_loopers.proofs.LooperPasses.{may_self, may_same}
use Rattle.dash_loopers.proofs.LooperSeats.{own_at, own_ready, other_is}
use Rattle.dash_loopers.proofs.looper.StageLooper.tell.Goals as goal

pub tell-requires : goal.tell-requires
tell-requires c = (search sendable, (own_ready c.args.self.now c.args.place c.args.queue.now c.requires.ready c.requires.within (omega (arith, c.if-place-number.true)), c.requires.other))

pub returns-then-place-number-clause-kept : goal.returns-then-place-number-clause-kept
returns-then-place-number-clause-kept c =
    let l = c.args.self.now in
    record {
      number = refl;
      sender = refl;
      posters = ap (λ (x : Looping). insert (others_in l.parts) l.number x.held.poster) c.tell.ensures.looper;
      beside = subst (IsBeside l.looper) (sym c.tell.ensures.looper) record { pass = refl; journal = refl; idle_owed = refl; ended = refl };
      rest = may_self (rest_in l.parts);
      last = refl;
      dispatched = refl;
    }

pub returns-then-place-number-clause-heard : goal.returns-then-place-number-clause-heard
returns-then-place-number-clause-heard c = has_heard c.args.other.now c.tell.new.other c.tell.ensures.same c.tell.ensures.begins.0

pub returns-then-place-number-clause-told : goal.returns-then-place-number-clause-told
returns-then-place-number-clause-told c =
    let l = c.args.self.now in
    let at : c.args.place ≡ l.number = omega (arith, c.if-place-number.true) in
    known_at (posters_of l) c.args.place l.looper.held.poster c.tell.new.other.view.seen c.requires.ready.0 (own_at l c.args.place c.requires.within at) c.tell.ensures.begins.1

pub hear-requires-after_bounds : goal.hear-requires-after_bounds
hear-requires-after_bounds c κs =
    let l = c.args.self.now in
    let parts = c.in-Some.parts in
    let is : l.parts ≡ Some parts = cc in
    let p = c.index_mut.result.now in
    (c.requires.other, ready_is (posters_of l) c.args.place p c.args.queue.now c.requires.ready (other_is l parts c.args.place c.place_without.result p c.requires.within is c.place_without.ensures c.index_mut.ensures.value))

pub returns-clause-kept : goal.returns-clause-kept
returns-clause-kept c =
    let l = c.args.self.now in
    let parts = c.in-Some.parts in
    let is : l.parts ≡ Some parts = cc in
    record {
      number = refl;
      sender = refl;
      posters = ap (λ (os : List Sender). insert os l.number l.looper.held.poster)
          (kept_at parts.others.items c.place_without.result c.index_mut.result.now c.hear.new.other c.index_mut.ensures.value c.hear.ensures.other ∙ sym (ap others_in is));
      beside = record { pass = refl; journal = refl; idle_owed = refl; ended = refl };
      rest = may_same (rest_in l.parts) (rest_in (Some parts)) (sym (ap rest_in is));
      last = refl;
      dispatched = refl;
    }

pub returns-clause-heard : goal.returns-clause-heard
returns-clause-heard c = has_heard c.args.other.now c.hear.new.self c.hear.ensures.same c.hear.ensures.begins.0

pub returns-clause-told : goal.returns-clause-told
returns-clause-told c =
    let l = c.args.self.now in
    let parts = c.in-Some.parts in
    let is : l.parts ≡ Some parts = cc in
    let p = c.index_mut.result.now in
    known_at (posters_of l) c.args.place p c.hear.new.self.view.seen c.requires.ready.0 (other_is l parts c.args.place c.place_without.result p c.requires.within is c.place_without.ensures c.index_mut.ensures.value) c.hear.ensures.begins.1
