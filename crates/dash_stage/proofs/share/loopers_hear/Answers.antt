use Rattle.std.proofs.Common.{◌<◌, length, arith}
use Rattle.dash_hall.specs.Hearing.{HaveHeardAt}
use Rattle.dash_loopers.specs.Loopers.{LooperKeeps, posters_of}
use Rattle.dash_hall.proofs.OneByOne.{known_next, heard_next}
use Rattle.dash_stage.proofs.share.loopers_hear.Goals as goal

pub hear-requires-clause-known : goal.hear-requires-clause-known
hear-requires-clause-known c =
    let at = c.loop-k in
    let long = at.invariant.0.long in
    let lt : at.k < length at.loopers = omega (arith, c.loop-k-test.true) in
    known_next posters_of (LooperKeeps (HaveHeardAt c.args.place c.args.other.now.view.seen)) c.args.place c.args.loopers.now at.loopers at.k c.index-loopers-k.result c.args.other.now at.other c.requires.known at.invariant lt

pub loop-k-preserved : goal.loop-k-preserved
loop-k-preserved c =
    let at = c.loop-k in
    let long = at.invariant.0.long in
    let lt : at.k < length at.loopers = omega (arith, c.loop-k-test.true) in
    heard_next (λ whole. LooperKeeps (HaveHeardAt c.args.place whole)) c.args.loopers.now at.loopers at.k c.index-loopers-k.result c.hear.new.self c.args.other.now at.other _ at.invariant lt c.hear.ensures.kept c.hear.ensures.other
