use Rattle.std.proofs.Common.{◌<◌, ◌≤◌, length, arith}
use Rattle.dash_hall.specs.Hearing.{ArePassesReady}
use Rattle.dash_hall.proofs.PassesHearing.{pass_heard_self}
use Rattle.dash_hall.proofs.Sharing.{first_all, each_weaker}
use Rattle.dash_threads.specs.Threads.{TellsPass}
use Rattle.dash_stage.proofs.Sharing.{TellsAll, still_of, next_of, pass_told, first_none}
use Rattle.dash_stage.proofs.share.threads_tell_pass.Goals as goal

pub tell_pass-requires-clause-ready : goal.tell_pass-requires-clause-ready
tell_pass-requires-clause-ready c =
    let at = c.loop-k in
    let long = at.invariant.0.long in
    let lt : at.k < length at.threads = omega (arith, c.loop-k-test.true) in
    next_of c.args.threads.now at.threads at.k (TellsAll c.args.place at.other.view.heard) (ArePassesReady c.args.place c.args.choreographer.now) c.requires.ready at.invariant.0 c.index-threads-k.result lt

pub tell_pass-requires-clause-other : goal.tell_pass-requires-clause-other
tell_pass-requires-clause-other c = still_of c.args.other.now c.loop-k.other c.args.choreographer.now c.loop-k.invariant.1 c.requires.pass

pub loop-k-init : goal.loop-k-init
loop-k-init c = (first_none (TellsAll c.args.place c.args.other.now.view.heard) c.args.threads.now, pass_heard_self c.args.other.now)

pub loop-k-preserved : goal.loop-k-preserved
loop-k-preserved c =
    let at = c.loop-k in
    let lt : at.k < length at.threads = omega (arith, c.loop-k-test.true) in
    pass_told c.args.threads.now at.threads at.k c.args.place c.index-threads-k.result c.tell_pass.new.self c.args.other.now at.other c.tell_pass.new.other at.invariant lt c.tell_pass.ensures.heard c.tell_pass.ensures.kept c.tell_pass.ensures.told

pub returns : goal.returns
returns c =
    let at = c.loop-k in
    let long = at.invariant.0.long in
    let all : length c.args.threads.now ≤ at.k = omega (arith, c.loop-k-test.false, long) in
    let tells = TellsAll c.args.place at.other.view.heard in
    let first = first_all tells c.args.threads.now at.threads at.k all at.invariant.0 in
    record { kept = each_weaker tells TellsPass c.args.threads.now at.threads (λ x y t. t.kept) first; heard = at.invariant.1; told = λ k d lt. (first.each k d lt).told }
