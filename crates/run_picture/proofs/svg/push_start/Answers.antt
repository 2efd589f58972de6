use Rattle.std.proofs.Common.{codes}
use Rattle.std.specs.Fmt.{decimal}
use Rattle.run_picture.specs.Drawn.{opening}
use Rattle.run_picture.proofs.Elements.{five}
use Rattle.run_picture.proofs.svg.push_start.Goals as goal

pub returns : goal.returns
unfolding opening
returns c =
    five c.args.out.now.items (codes "<g class=\"mark\" transform=\"translate(") (decimal c.args.x) (codes " ") (decimal c.args.y) (codes ")\"><title>") _ _ _ _ _
    c.in_ok-extend_from_slice.ensures.items c.in_ok-push_number.ensures c.in_ok-extend_from_slice-2.ensures.items c.in_ok-push_number-2.ensures c.in_ok-extend_from_slice-3.ensures.items
