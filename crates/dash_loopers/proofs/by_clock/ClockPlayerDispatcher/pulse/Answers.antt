use Rattle.std.proofs.Common.{refl}
use Rattle.looper_run.specs.Holding.{held}
use Rattle.run_model.specs.ByClock.{in_free_mode}
use Rattle.looper_run.proofs.Asking.{unless_weaker}
use Rattle.dash_loopers.proofs.LooperByClock.{pulse_or_none_by}
use Rattle.dash_loopers.proofs.LooperMoments.{pulse_at}
use Rattle.dash_loopers.proofs.by_clock.ClockPlayerDispatcher.pulse.Goals as goal

pub returns-clause-rests : goal.returns-clause-rests
returns-clause-rests g c =
    let p = c.args.self.now in
    let m = in_free_mode (g.C.Clock.shows p.timer.now.clock.now) p.timer.now.start in
    unless_weaker _ _ c.pulse.result (λ h. record { awaits = refl; meets = h })
    (pulse_at m p.place.script.now p.place.looper p.began.now.value c.pulse.result (held c.args.own.now) (held c.pulse.new.own) p.parts c.pulse.new.parts c.pulse.ensures.leaves.own.lent c.pulse.ensures.untimed c.requires.ready.meets
    (pulse_or_none_by p.place.script.now p.place.looper p.began.now.value c.args.now c.pulse.result (held c.args.own.now) (held c.pulse.new.own) p.parts c.pulse.new.parts c.pulse.ensures.leaves.own.lent c.pulse.ensures.pulses c.requires.ready.meets.plays))
