use Rattle.std.proofs.Common.{subst, sym, take}
use Rattle.std.specs.List.{AllByRecursion}
use Rattle.run_picture.specs.View.{IsSeen, is_seen}
use Rattle.run_picture.proofs.Seen.{all_seen, seen_more}
use Rattle.run_picture.proofs.view.seen.Goals as goal

pub loop-mark-preserved : goal.loop-mark-preserved
loop-mark-preserved c =
    seen_more (is_seen c.args.window) c.args.marks.now c.loop-mark.mark-index _ c.loop-mark.out.items c.push_seen.new.out.items c.loop-mark-test.true c.loop-mark.invariant c.in_ok-push_seen.ensures

pub returns-clause-only : goal.returns-clause-only
returns-clause-only c = subst (AllByRecursion (IsSeen c.args.window)) (sym c.loop-mark.invariant) (all_seen c.args.window (take c.loop-mark.mark-index c.args.marks.now))
