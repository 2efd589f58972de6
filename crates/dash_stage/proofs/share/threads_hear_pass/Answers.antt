use Rattle.std.proofs.Common.{◌<◌, ◌≤◌, length, refl, sym, subst, arith, slice_index_or}
use Rattle.choreographer.specs.Known.{Pass, IsPassOf}
use Rattle.dash_hall.specs.Hearing.{ArePassesReady, ArePassesKnown}
use Rattle.dash_hall.proofs.Sharing.{first_all}
use Rattle.dash_threads.specs.Threads.{HearsPass}
use Rattle.dash_stage.proofs.Sharing.{next_of, pass_heard_next, first_none}
use Rattle.dash_stage.proofs.share.threads_hear_pass.Goals as goal

pub hear_pass-requires-clause-ready : goal.hear_pass-requires-clause-ready
hear_pass-requires-clause-ready c =
    let at = c.loop-k in
    let lt : at.k < length at.threads = omega (arith, c.loop-k-test.true) in
    next_of c.args.threads.now at.threads at.k (HearsPass c.args.place c.args.other.now.view.heard) (ArePassesReady c.args.place c.args.choreographer.now) c.requires.at.ready at.invariant.0 c.index-threads-k.result lt

pub hear_pass-requires-clause-other : goal.hear_pass-requires-clause-other
hear_pass-requires-clause-other c = subst (λ (p : Pass). IsPassOf p c.args.choreographer.now) (sym c.loop-k.invariant.1) c.requires.at.pass

pub hear_pass-requires-clause-known : goal.hear_pass-requires-clause-known
hear_pass-requires-clause-known c =
    let at = c.loop-k in
    let lt : at.k < length at.threads = omega (arith, c.loop-k-test.true) in
    subst (λ (p : Pass). ArePassesKnown c.args.place p.view.heard (slice_index_or at.threads at.k c.index-threads-k.result).kit.frames.items) (sym at.invariant.1)
    (next_of c.args.threads.now at.threads at.k (HearsPass c.args.place c.args.other.now.view.heard) (ArePassesKnown c.args.place c.args.other.now.view.heard) c.requires.known at.invariant.0 c.index-threads-k.result lt)

pub loop-k-init : goal.loop-k-init
loop-k-init c = (first_none (HearsPass c.args.place c.args.other.now.view.heard) c.args.threads.now, refl)

pub loop-k-preserved : goal.loop-k-preserved
loop-k-preserved c =
    let at = c.loop-k in
    let lt : at.k < length at.threads = omega (arith, c.loop-k-test.true) in
    pass_heard_next c.args.threads.now at.threads at.k c.args.place c.index-threads-k.result c.hear_pass.new.self c.args.other.now at.other c.hear_pass.new.other at.invariant lt c.hear_pass.ensures.kept c.hear_pass.ensures.other

pub returns-clause-kept : goal.returns-clause-kept
returns-clause-kept c =
    let at = c.loop-k in
    let long = at.invariant.0.long in
    let all : length c.args.threads.now ≤ at.k = omega (arith, c.loop-k-test.false, long) in
    first_all (HearsPass c.args.place c.args.other.now.view.heard) c.args.threads.now at.threads at.k all at.invariant.0
