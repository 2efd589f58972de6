use Rattle.std.proofs.Common.{refl, inr, arith}
use Rattle.looper_run.specs.Holding.{held}
use Rattle.looper_run.proofs.Asking.{unless_weaker}
use Rattle.looper_run.proofs.Keeping.{lent_nothing}
use Rattle.looper_run.proofs.Working.{lent_self}
use Rattle.dash_loopers.specs.Played.{calls_of}
use Rattle.dash_loopers.proofs.LooperPlaces.{serves_with}
use Rattle.dash_loopers.proofs.LooperPlaying.{playing_pulse, pulse_or_none}
use Rattle.dash_loopers.proofs.PulsesOnTime.{looked_only, looked_parts, found_then, comes_then}
use Rattle.dash_loopers.proofs.player.PlayerDispatcher.pulse.Goals as goal

pub returns-then-self-clause-keeps : goal.returns-then-self-clause-keeps
returns-then-self-clause-keeps g c = lent_nothing _ _ _ _ c.args.self.now c.args.self.now c.args.own.now (λ w h. h) refl refl refl

pub returns-in_default-clause-keeps : goal.returns-in_default-clause-keeps
returns-in_default-clause-keeps g c =
    let p = c.args.self.now in
    lent_nothing _ _ _ _ p (record p { parts = record p.parts { frames = c.asked-stamp.new.pass } }) c.args.own.now
    (λ w h. serves_with p.place.script.now p.place.hall.now p.place.looper p.parts (record p.parts { frames = c.asked-stamp.new.pass }) w (looked_parts p.parts c.asked-stamp.new.pass c.asked-stamp.result c.asked-stamp.ensures.turn) h) refl refl refl

pub returns-then-due-self-clause-keeps : goal.returns-then-due-self-clause-keeps
returns-then-due-self-clause-keeps g c =
    let p = c.args.self.now in
    lent_nothing _ _ _ _ p (record p { parts = record p.parts { frames = c.asked-stamp.new.pass } }) c.args.own.now
    (λ w h. serves_with p.place.script.now p.place.hall.now p.place.looper p.parts (record p.parts { frames = c.asked-stamp.new.pass }) w (looked_parts p.parts c.asked-stamp.new.pass c.asked-stamp.result c.asked-stamp.ensures.turn) h) refl refl refl

pub returns-in_default-clause-rests : goal.returns-in_default-clause-rests
returns-in_default-clause-rests g c =
    let p = c.args.self.now in
    let own = held c.args.own.now in
    record {
      awaits = refl;
      meets = playing_pulse p.place.script.now p.place.looper p.now p.began.now.value p.dispatched own own p.parts (record p.parts { frames = c.asked-stamp.new.pass }) (inr refl) (lent_self own)
          (looked_only p.place.script.now p.place.looper p.now (calls_of own.poster) p.parts c.asked-stamp.new.pass c.asked-stamp.result own.journal.acts c.asked-stamp.ensures.turn) c.requires.ready.meets;
    }

pub returns-then-due-self-clause-rests : goal.returns-then-due-self-clause-rests
returns-then-due-self-clause-rests g c =
    let p = c.args.self.now in
    let own = held c.args.own.now in
    record {
      awaits = refl;
      meets = playing_pulse p.place.script.now p.place.looper p.now p.began.now.value p.dispatched own own p.parts (record p.parts { frames = c.asked-stamp.new.pass }) (inr refl) (lent_self own)
          (looked_only p.place.script.now p.place.looper p.now (calls_of own.poster) p.parts c.asked-stamp.new.pass c.asked-stamp.result own.journal.acts c.asked-stamp.ensures.turn) c.requires.ready.meets;
    }

pub returns-clause-rests : goal.returns-clause-rests
returns-clause-rests g c =
    let p = c.args.self.now in
    let own = held c.args.own.now in
    let asked = c.asked-stamp.ensures.turn in
    let early = c.if-self.false in
    let found = found_then c.asked-stamp.result c.rounded_up.result c.in-Some.due p.now c.rounded_up.ensures (cc) c.if-due-self.false in
    let looked = playing_pulse p.place.script.now p.place.looper p.now p.began.now.value p.dispatched own own p.parts (record p.parts { frames = c.asked-stamp.new.pass }) (inr refl) (lent_self own)
    (looked_only p.place.script.now p.place.looper p.now (calls_of own.poster) p.parts c.asked-stamp.new.pass c.asked-stamp.result own.journal.acts asked) c.requires.ready.meets in
    unless_weaker _ _ c.pulse.result (λ h. record { awaits = refl; meets = h })
    (pulse_or_none p.place.script.now p.place.looper p.now p.began.now.value p.dispatched c.pulse.result own (held c.pulse.new.own) (record p.parts { frames = c.asked-stamp.new.pass }) c.pulse.new.parts (omega (arith, early)) c.pulse.ensures.leaves.own.lent
    (unless_weaker _ _ c.pulse.result (λ came. (came, comes_then p.parts.frames c.asked-stamp.new.pass _ p.now found.0 c.asked-stamp.result came.stamp asked c.asked-stamp.ensures.is_pulse found.1 found.2 came.next.asked)) c.pulse.ensures.pulses) looked)
