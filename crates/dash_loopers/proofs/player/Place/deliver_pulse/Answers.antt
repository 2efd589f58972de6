use Rattle.std.proofs.Common.{◌≡◌, ◌==◌, ℕ, true, ap, subst, refl}
use Rattle.run_model.specs.FrameRecords.{nanos_of}
use Rattle.dash_hall.specs.declared.uptime.Still.{Still}
use Rattle.dash_hall.specs.Hosts.{origin_now}
use Rattle.frame_phases.specs.Pulses.{is_pulse_if_any}
use Rattle.choreographer.specs.Calls.{stamp_in}
use Rattle.choreographer.proofs.InTime.{pulse_quiet}
use Rattle.dash_loopers.proofs.LooperPlaces.{its_period, may_deliver}
use Rattle.dash_loopers.proofs.LatestPulses.{gets_latest, comes_later, pulse_may_await, pulse_waits}
use Rattle.dash_loopers.proofs.PlaySteps.{pulse_here, pulse_hosted}
use Rattle.dash_loopers.proofs.PulsesOnTime.{comes_as_asked}
use Rattle.dash_loopers.proofs.LooperClock.{untimed_same, pulse_untimed_hosted}
use Rattle.dash_loopers.proofs.player.Place.deliver_pulse.Goals as goal
use Rattle.dash_loopers.proofs.LooperLeaves.{keeps_hosted, tells_none}
use Rattle.dash_loopers.specs.declared.player.Parts.{Parts}
use Rattle.std.specs.Prelude.{◌||◌}

pub returns-clause-pulses : goal.returns-clause-pulses
returns-clause-pulses g c =
    let h = c.host-host.result in
    let k = c.deliver-pulse.new.self in
    pulse_hosted c.args.self.now.script.now c.args.self.now.looper c.args.now h.uptime.now.now (origin_now h) (origin_now k) c.args.own.now.poster.now h.poster.now k.poster.now k.pass.now c.args.parts.now _ c.deliver-pulse.result
    c.deliver-pulse.ensures.stays.origin c.deliver-pulse.ensures.stays.ready c.host-host.ensures.host.began.0 c.host-host.ensures.host.by_poster.1 (ap (λ (x : Still). x.now) c.host-host.ensures.host.uptime_is) c.host-host.ensures.host.moment.1 c.deliver-pulse.ensures.pulse refl refl refl

pub returns-clause-untimed : goal.returns-clause-untimed
returns-clause-untimed g c =
    let h = c.host-host.result in
    let k = c.deliver-pulse.new.self in
    record {
      own = pulse_untimed_hosted (origin_now h) (origin_now k) (λ n. n == nanos_of h.uptime.now.now) c.args.own.now.poster.now h.poster.now k.poster.now k.pass.now c.args.parts.now.frames c.deliver-pulse.new.pass c.deliver-pulse.result c.deliver-pulse.ensures.stays.origin c.deliver-pulse.ensures.stays.ready c.host-host.ensures.host.began.0 c.host-host.ensures.host.by_poster.1 c.deliver-pulse.ensures.pulse;
      others = untimed_same c.args.parts.now.others.items c.args.parts.now.others.items refl;
    }

pub returns-clause-looked : goal.returns-clause-looked
returns-clause-looked g c =
    let h = c.host-host.result in
    let k = c.deliver-pulse.new.self in
    pulse_here c.args.self.now.looper c.args.now h.uptime.now.now (origin_now h) (origin_now k) c.args.own.now.poster.now h.poster.now k.poster.now c.args.parts.now.frames c.deliver-pulse.new.pass c.deliver-pulse.result
    c.deliver-pulse.ensures.stays.origin c.host-host.ensures.host.by_poster.1 (ap (λ (x : Still). x.now) c.host-host.ensures.host.uptime_is) c.host-host.ensures.host.moment.1 c.deliver-pulse.ensures.pulse

pub deliver-pulse-requires-clause-delivers : goal.deliver-pulse-requires-clause-delivers
deliver-pulse-requires-clause-delivers g c =
    let place = c.args.self.now in
    let frames = c.choreographer.result.now in
    may_deliver place.script.now place.hall.now place.looper c.requires.serves.looper frames c.choreographer.ensures c.args.parts.now.frames (c.requires.serves.are_parts.frames frames c.choreographer.ensures)

pub returns-clause-next : goal.returns-clause-next
returns-clause-next g c =
    let place = c.args.self.now in
    let before = c.args.parts.now.frames in
    let period = its_period place.script.now place.hall.now place.looper c.requires.serves.looper c.choreographer.result.now c.choreographer.ensures in
    record {
      is_pulse = subst (λ (n : ℕ). is_pulse_if_any n (stamp_in c.deliver-pulse.result) ≡ true) period c.deliver-pulse.ensures.latest.is_pulse;
      later = comes_later before c.deliver-pulse.new.pass (stamp_in c.deliver-pulse.result) c.deliver-pulse.ensures.latest.later c.deliver-pulse.ensures.latest.awaits;
      asked = comes_as_asked before c.deliver-pulse.new.pass _ _ _ c.deliver-pulse.result c.deliver-pulse.ensures.pulse;
      got = gets_latest before c.deliver-pulse.new.pass (stamp_in c.deliver-pulse.result) c.deliver-pulse.ensures.pass c.deliver-pulse.ensures.latest.stamp c.deliver-pulse.ensures.latest.awaits;
      quiet = pulse_quiet before c.deliver-pulse.new.pass (λ n. n == nanos_of c.host-host.result.uptime.now.now) _ _ c.deliver-pulse.result c.deliver-pulse.ensures.pulse;
      wanted = c.deliver-pulse.ensures.latest.wanted;
      waits = pulse_waits c.deliver-pulse.result c.args.parts.now.awaits c.is_some.result c.is_some.ensures;
    }

pub returns-clause-leaves : goal.returns-clause-leaves
returns-clause-leaves g c =
    let own = c.args.own.now in
    let after : Parts = record c.args.parts.now { frames = c.deliver-pulse.new.pass; awaits = c.args.parts.now.awaits || c.is_some.result } in
    (keeps_hosted c.args.self.now.looper c.args.now _ own.poster.now own.pass.now _ _ c.host-host.result c.deliver-pulse.new.self c.host-host.ensures.host c.deliver-pulse.ensures.stays.ready c.deliver-pulse.ensures.stays.origin
    c.args.parts.now after own _ refl refl refl refl (record { poster = refl; pass = refl; journal = refl }) (tells_none own.journal.now) (record { others = refl; frames = c.deliver-pulse.ensures.pass; awaits = pulse_may_await c.args.parts.now after (stamp_in c.deliver-pulse.result) c.deliver-pulse.ensures.pass c.deliver-pulse.ensures.latest.awaits (pulse_waits c.deliver-pulse.result c.args.parts.now.awaits c.is_some.result c.is_some.ensures) }) refl).leaves
