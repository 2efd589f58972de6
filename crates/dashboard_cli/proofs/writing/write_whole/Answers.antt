-- One more piece joins the front that was written.
use Rattle.std.proofs.Common.{rules, take}
use Rattle.std.proofs.lemmas.Grind.{common_steps}
use Rattle.dashboard_cli.proofs.StreamLemmas.{front_grows}
use Rattle.dashboard_cli.proofs.writing.write_whole.Goals as goal

pub pieces-preserved : goal.pieces-preserved
pieces-preserved g c =
    let so_far = c.pieces.invariant.0 in (
      front_grows _ _ _ c.args.bytes.now so_far.0 c.pieces.rest.now (take c.in_ok-count.count c.pieces.rest.now) _
          so_far.1 so_far.2 c.in_ok-count.ensures.bytes (search (rules, common_steps)),
      search rules,
    )
