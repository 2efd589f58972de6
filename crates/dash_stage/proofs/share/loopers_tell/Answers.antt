use Rattle.std.proofs.Common.{◌<◌, ◌≤◌, length, arith}
use Rattle.dash_hall.specs.Hearing.{AreKept}
use Rattle.dash_loopers.specs.Loopers.{LooperKeeps, posters_of}
use Rattle.dash_hall.proofs.OneByOne.{told_next, all_told}
use Rattle.dash_stage.proofs.share.loopers_tell.Goals as goal

pub loop-k-preserved : goal.loop-k-preserved
loop-k-preserved c =
    let at = c.loop-k in
    let long = at.invariant.0.long in
    let lt : at.k < length at.loopers = omega (arith, c.loop-k-test.true) in
    told_next posters_of (LooperKeeps AreKept) c.args.place c.args.loopers.now at.loopers at.k c.index-loopers-k.result c.tell.new.self c.args.other.now at.other c.tell.new.other at.invariant lt c.tell.ensures.heard c.tell.ensures.kept c.tell.ensures.told

pub returns : goal.returns
returns c =
    let at = c.loop-k in
    let long = at.invariant.0.long in
    let all : length c.args.loopers.now ≤ at.k = omega (arith, c.loop-k-test.false, long) in
    let told = all_told posters_of (LooperKeeps AreKept) c.args.place c.args.loopers.now at.loopers at.k at.other.view.seen all at.invariant.0 in
    record { kept = told.0; heard = at.invariant.1; told = told.1 }
