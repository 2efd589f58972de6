use Rattle.std.proofs.Common.{refl, sym, ◌∙◌}
use Rattle.looper_run.specs.Holding.{held}
use Rattle.looper_run.proofs.Working.{lent_self}
use Rattle.frame_loop.proofs.dispatching.FrameHandling.deliver_pulse.Goals as goal

pub returns-clause-own : goal.returns-clause-own
returns-clause-own g c =
    let kept = c.flush.ensures.keeps.lent (held c.args.own.now) (lent_self (held c.args.own.now), refl) in
    record { same = record { poster = refl; pass = refl; journal = refl }; lent = kept.0; rung = kept.1 }

pub on_vsync-requires-clause-delivers : goal.on_vsync-requires-clause-delivers
on_vsync-requires-clause-delivers g c = λ n named. let both = sym c.requires.serves.has.pulses ∙ named in absurd (cc (both))
