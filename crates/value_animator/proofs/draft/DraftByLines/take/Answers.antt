use Rattle.std.proofs.Common.{sym}
use Rattle.value_animator.specs.Drafts.{so_far}
use Rattle.value_animator.proofs.Lines.{good_is}
use Rattle.value_animator.proofs.draft.DraftByLines.take.Goals as goal

pub add-requires : goal.add-requires
add-requires c = (good_is (so_far c.args.self.now) c.in-Some.row (sym c.in_default-cause.ensures)).fits
