use Rattle.std.proofs.Common.{ℕ, refl, ap, subst, arith}
use Rattle.std.specs.Prelude.{◌==◌}
use Rattle.choreographer.specs.Calls.{DueBy}
use Rattle.choreographer.proofs.Recorded.{due_records}
use Rattle.run_model.specs.FrameRecords.{asks_in, nanos_of}
use Rattle.choreographer.proofs.Quiet.{grows_self}
use Rattle.choreographer.proofs.InTime.{due_quiet}
use Rattle.loop_model.proofs.Prefixes.{prefix_self}
use Rattle.dash_hall.specs.declared.uptime.Still.{Still}
use Rattle.dash_hall.specs.Hosts.{origin_now}
use Rattle.dash_loopers.specs.Played.{calls_of}
use Rattle.dash_loopers.proofs.PlaySteps.{untold_hosted, played_with}
use Rattle.dash_loopers.proofs.LooperPlaces.{frame_of_badge, its_phases}
use Rattle.dash_loopers.proofs.LatestPulses.{due_keeps_latest, due_may_await}
use Rattle.dash_loopers.proofs.player.Place.on_due.Goals as goal
use Rattle.dash_loopers.proofs.LooperLeaves.{queue_left, keeps_hosted, tells_none}
use Rattle.dash_loopers.specs.declared.player.Parts.{Parts}

pub on_due-requires-clause-pass : goal.on_due-requires-clause-pass
on_due-requires-clause-pass g c =
    let place = c.args.self.now in
    let frames = c.choreographer.result.now in
    let phases = its_phases place.script.now place.hall.now place.looper c.requires.serves.looper frames c.choreographer.ensures in
    (frame_of_badge place.script.now.threads c.args.parts.now.frames frames (c.requires.serves.are_parts.frames frames c.choreographer.ensures), omega (arith, phases, c.phase_count-phases.ensures, c.if-phase-phases.false))

pub returns-clause-plays : goal.returns-clause-plays
returns-clause-plays g c = λ lockstep text a is.
    (let h = c.host-host.result in
    let k = c.on_due.new.self in
    let calls = untold_hosted (origin_now h) (origin_now k) c.args.own.now.poster.now h.poster.now k.poster.now k.pass.now c.on_due.ensures.stays.origin c.on_due.ensures.stays.ready c.host-host.ensures.host.began.0 c.host-host.ensures.host.by_poster.1 c.on_due.ensures.sends in
    played_with c.args.self.now.script.now c.args.self.now.looper (calls_of c.args.own.now.poster.now) (calls_of k.poster.now) c.args.parts.now _ a calls
    (ap asks_in (due_records c.args.parts.now.frames c.on_due.new.pass (λ n. n == nanos_of h.uptime.now.now) c.args.phase c.on_due.result c.on_due.ensures.due)) refl refl refl is)

pub returns-clause-due : goal.returns-clause-due
returns-clause-due g c = λ within. (
  c.on_due.result,
  subst (λ (n : ℕ). DueBy c.args.parts.now.frames c.on_due.new.pass (λ m. m == nanos_of n) c.args.phase c.on_due.result)
      (ap (λ (x : Still). x.now) c.host-host.ensures.host.uptime_is) c.on_due.ensures.due,
)

pub returns-then-phase-phases-clause-due : goal.returns-then-phase-phases-clause-due
returns-then-phase-phases-clause-due g c = λ within. absurd (omega (arith, within, c.phase_count-phases.ensures, c.if-phase-phases.true))

pub returns-clause-beyond : goal.returns-clause-beyond
returns-clause-beyond g c = λ beyond. absurd (omega (arith, beyond, c.phase_count-phases.ensures, c.if-phase-phases.false))

pub returns-then-phase-phases-clause-beyond : goal.returns-then-phase-phases-clause-beyond
returns-then-phase-phases-clause-beyond g c = λ beyond. refl

pub returns-then-phase-phases-clause-leaves : goal.returns-then-phase-phases-clause-leaves
returns-then-phase-phases-clause-leaves g c = queue_left c.args.now c.args.parts.now c.args.own.now

pub returns-then-phase-phases-clause-asks : goal.returns-then-phase-phases-clause-asks
returns-then-phase-phases-clause-asks g c = record { seen = prefix_self c.args.parts.now.frames.view.seen; asks = refl; latest = λ stamp waits has. has; quiet = λ k e named. grows_self c.args.parts.now.frames.view.seen }

pub returns-clause-leaves : goal.returns-clause-leaves
returns-clause-leaves g c =
    let own = c.args.own.now in
    let after : Parts = record c.args.parts.now { frames = c.on_due.new.pass } in
    keeps_hosted c.args.self.now.looper c.args.now _ own.poster.now own.pass.now _ _ c.host-host.result c.on_due.new.self c.host-host.ensures.host c.on_due.ensures.stays.ready c.on_due.ensures.stays.origin
    c.args.parts.now after own _ refl refl refl refl (record { poster = refl; pass = refl; journal = refl }) (tells_none own.journal.now) (record { others = refl; frames = c.on_due.ensures.pass; awaits = due_may_await c.args.parts.now after (λ n. n == nanos_of c.host-host.result.uptime.now.now) c.args.phase c.on_due.result c.on_due.ensures.due refl }) refl

pub returns-clause-tells : goal.returns-clause-tells
returns-clause-tells g c =
    let h = c.host-host.result in
    let k = c.on_due.new.self in
    record {
      calls = untold_hosted (origin_now h) (origin_now k) c.args.own.now.poster.now h.poster.now k.poster.now k.pass.now c.on_due.ensures.stays.origin c.on_due.ensures.stays.ready c.host-host.ensures.host.began.0 c.host-host.ensures.host.by_poster.1 c.on_due.ensures.sends;
      acts = refl;
    }

pub returns-clause-asks : goal.returns-clause-asks
returns-clause-asks g c =
    let before = c.args.parts.now.frames in
    let now : ℕ = c.host-host.result.uptime.now.now in
    record {
      seen = c.on_due.ensures.seen;
      asks = ap asks_in (due_records before c.on_due.new.pass (λ n. n == nanos_of now) c.args.phase c.on_due.result c.on_due.ensures.due);
      latest = due_keeps_latest before c.on_due.new.pass (λ n. n == nanos_of now) c.args.phase c.on_due.result c.on_due.ensures.due;
      quiet = due_quiet before c.on_due.new.pass (λ n. n == nanos_of now) c.args.phase c.on_due.result c.on_due.ensures.due;
    }
