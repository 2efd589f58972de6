use Rattle.std.proofs.Common.{◌∙◌}
use Rattle.run_picture.proofs.Periods.{none_more, one_more}
use Rattle.run_picture.proofs.scale.nearer.Goals as goal

pub returns-then-before-time : goal.returns-then-before-time
returns-then-before-time c = c.lesser.ensures ∙ one_more c.args.least c.args.before c.args.time c.if-before-time.true

pub returns : goal.returns
returns c = none_more c.args.least c.args.before c.args.time c.if-before-time.false
