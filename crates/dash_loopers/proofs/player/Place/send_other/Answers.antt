use Rattle.std.proofs.Common.{◌<◌, length, refl, sym, subst, arith}
use Rattle.std.proofs.lemmas.Option.{slice_get_read}
use Rattle.looper_run.specs.Holding.{Sender}
use Rattle.choreographer.proofs.Phases.{on_ok}
use Rattle.dash_loopers.specs.Played.{calls_of, IsPlayed}
use Rattle.dash_loopers.proofs.LooperPlaces.{queue_home, queue_count, other_within, other_read, other_of_read, parts_with}
use Rattle.dash_loopers.proofs.RuleSteps.{called_there}
use Rattle.std.proofs.Common.{ap}
use Rattle.dash_hall.specs.Kits.{Badge}
use Rattle.dash_loopers.proofs.LooperClock.{untimed_put, untimed_self}
use Rattle.dash_loopers.proofs.player.Place.send_other.Goals as goal
use Rattle.dash_loopers.proofs.LooperLeaves.{none_called}

pub index_mut-poster-requires : goal.index_mut-poster-requires
index_mut-poster-requires g c =
    let place = c.args.self.now in
    let hall = place.hall.now in
    let near : c.args.looper < length hall.queues.items = omega (arith, hall.queues.ok.0) in
    omega (arith, other_within place.script.now hall place.looper c.args.looper c.place_without.result c.args.parts.now c.requires.serves.looper c.requires.serves.are_parts near c.place_without.ensures, c.args.parts.now.others.ok.0)

pub send_by-requires : goal.send_by-requires
send_by-requires g c =
    let place = c.args.self.now in
    let hall = place.hall.now in
    let parts = c.args.parts.now in
    let near : c.args.looper < length hall.queues.items = omega (arith, hall.queues.ok.0) in
    let at = other_read place.script.now hall place.looper c.args.looper c.place_without.result parts c.requires.serves.looper c.requires.serves.are_parts near c.place_without.ensures parts.others.len c.index_mut-poster.result.now (omega (arith, parts.others.ok.0)) c.index_mut-poster.ensures.value in
    record {
      at = record {
        poster = other_of_read place.script.now hall place.looper c.args.looper c.place_without.result parts c.requires.serves.looper c.requires.serves.are_parts near c.place_without.ensures c.index_mut-poster.result.now c.index-queue.result.now hall.queues.len at
            (omega (arith, hall.queues.ok.0)) c.index-queue.ensures;
        pass = c.requires.serves.place.pool;
        home = queue_home place.script.now hall place.looper c.requires.serves.looper c.args.looper c.index-queue.result.now
            (slice_get_read hall.queues.items hall.queues.len c.args.looper c.index-queue.result.now (omega (arith, hall.queues.ok.0)) (omega (arith, near, hall.queues.ok.0)) c.index-queue.ensures);
      };
    }

pub returns-then-place-len-clause-calls : goal.returns-then-place-len-clause-calls
returns-then-place-len-clause-calls g c = none_called c.args.parts.now c.args.own.now

pub returns-clause-calls : goal.returns-clause-calls
returns-clause-calls g c =
    let place = c.args.self.now in
    let hall = place.hall.now in
    let parts = c.args.parts.now in
    let near : c.args.looper < length hall.queues.items = omega (arith, hall.queues.ok.0) in
    let at = other_read place.script.now hall place.looper c.args.looper c.place_without.result parts c.requires.serves.looper c.requires.serves.are_parts near c.place_without.ensures parts.others.len c.index_mut-poster.result.now (omega (arith, parts.others.ok.0)) c.index_mut-poster.ensures.value in
    record {
      leaves = record { parts = parts_with parts c.place_without.result c.index_mut-poster.result.now c.send_by.new.poster _ at c.send_by.ensures.poster refl refl refl; own = c.send_by.ensures.leaves };
      untimed = record {
        own = untimed_self c.args.own.now.poster.now c.send_by.new.own.poster.now c.send_by.ensures.seen;
        others = untimed_put parts.others.items c.place_without.result c.index_mut-poster.result.now c.send_by.new.poster at (ap (λ (b : Badge). b.sender) c.send_by.ensures.poster) c.send_by.ensures.untimed;
      };
      acts = c.send_by.ensures.acts;
      frames = refl;
      root = refl;
      awaits = refl;
    }

pub returns-then-place-len-clause-plays : goal.returns-then-place-len-clause-plays
returns-then-place-len-clause-plays g c = λ timing lockstep text.
    let place = c.args.self.now in
    let hall = place.hall.now in
    absurd (omega (arith, c.requires.within text, queue_count place.script.now hall place.looper c.requires.serves.looper, hall.queues.ok.0, c.if-place-len.true, c.len.ensures))

pub returns-clause-plays : goal.returns-clause-plays
returns-clause-plays g c = λ timing.
    let place = c.args.self.now in
    let hall = place.hall.now in
    let parts = c.args.parts.now in
    let near : c.args.looper < length hall.queues.items = omega (arith, hall.queues.ok.0) in
    let at = other_read place.script.now hall place.looper c.args.looper c.place_without.result parts c.requires.serves.looper c.requires.serves.are_parts near c.place_without.ensures parts.others.len c.index_mut-poster.result.now (omega (arith, parts.others.ok.0)) c.index_mut-poster.ensures.value in
    on_ok c.send_by.result _ _ c.send_by.ensures.made (λ m lockstep text a is.
    called_there lockstep place.script.now place.looper c.args.looper c.place_without.result c.args.post.now timing c.index_mut-poster.result.now c.send_by.new.poster _ c.args.parts.now _ c.place_without.ensures at
    m refl refl refl refl a (subst (λ (p : Sender). IsPlayed lockstep place.script.now place.looper (calls_of p) c.args.parts.now a) (sym c.send_by.ensures.seen) is))
