use Rattle.std.proofs.Common.{rules, refl}
use Rattle.looper_run.specs.Holding.{held}
use Rattle.looper_run.proofs.Working.{lent_self}
use Rattle.looper_run.proofs.Rings.{no_rings, lent_rung}
use Rattle.frame_loop.proofs.dispatching.FrameHandling.ring.Goals as goal

pub returns-then-is_none-clause-keeps : goal.returns-then-is_none-clause-keeps
returns-then-is_none-clause-keeps g c = record {
  serves = search rules;
  origin = refl;
  nudges = no_rings c.args.own.now.poster.now c.args.own.now.poster.now _ _ refl refl;
  asked = refl;
  own = record { poster = refl; pass = refl; journal = refl };
  lent = lent_self (held c.args.own.now);
}

pub returns-clause-keeps : goal.returns-clause-keeps
returns-clause-keeps g c = record {
  serves = search rules;
  origin = refl;
  nudges = search rules;
  asked = refl;
  own = record { poster = refl; pass = refl; journal = refl };
  lent = lent_rung (held c.args.own.now) (held c.args.own.now) c.nudge.new.self (lent_self (held c.args.own.now)) c.nudge.ensures.same.0 c.nudge.ensures.same.1 c.nudge.ensures.same.2;
}
