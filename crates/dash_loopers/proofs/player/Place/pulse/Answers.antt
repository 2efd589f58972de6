use Rattle.looper_run.specs.Holding.{Holding, held}
use Rattle.looper_run.proofs.Working.{lent_then}
use Rattle.dash_loopers.proofs.LooperLent.{holding, lent_grown}
use Rattle.dash_loopers.specs.Played.{calls_of}
use Rattle.dash_loopers.proofs.PlaySteps.{unless_made, pulse_told}
use Rattle.dash_loopers.proofs.player.Place.pulse.Goals as goal

pub returns-else-is_wanting-clause-leaves : goal.returns-else-is_wanting-clause-leaves
returns-else-is_wanting-clause-leaves g c =
    let own = c.deliver_pulse.new.own in
    let left = c.deliver_pulse.ensures.leaves in
    let after : Holding = holding own.poster.now own.pass.now c.tell.new.journal in
    record {
      parts = left.parts;
      own = record {
        own = record { poster = left.own.own.poster; pass = left.own.own.pass; journal = left.own.own.journal };
        lent = lent_then (held c.args.own.now) (held own) after left.own.lent (lent_grown own.poster.now own.pass.now own.journal.now c.tell.new.journal c.tell.ensures.more.looper c.tell.ensures.more.grew);
        rung = left.own.rung;
      };
    }

pub returns-else-is_wanting-clause-pulses : goal.returns-else-is_wanting-clause-pulses
returns-else-is_wanting-clause-pulses g c =
    let old = c.args.own.now in
    let own = c.deliver_pulse.new.own in
    unless_made c.did.result c.tell.result _ _ c.did.ensures.no c.did.ensures.yes c.tell.ensures.told
    (pulse_told c.args.self.now.script.now c.args.self.now.looper c.args.now (calls_of old.poster.now) (calls_of own.poster.now) c.args.parts.now c.deliver_pulse.new.parts old.journal.now.acts own.journal.now.acts c.tell.new.journal.acts c.in-Some.pulse
    c.in-Some.ensures.next c.in-Some.ensures.pulses (c.is_wanting.ensures c.if-is_wanting.false) c.deliver_pulse.ensures.acts)
