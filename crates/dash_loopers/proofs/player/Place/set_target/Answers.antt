use Rattle.std.proofs.Common.{refl, sym, subst, ◌<◌, ℕ}
use Rattle.dash_loopers.specs.declared.player.Parts.{Parts}
use Rattle.dash_loopers.specs.Played.{calls_of}
use Rattle.dash_loopers.proofs.LooperLeaves.{keeps_hosted, tells_none}
use Rattle.dash_loopers.proofs.LooperPlaces.{frame_of_badge, its_phases, up_to_three}
use Rattle.dash_loopers.proofs.PlaySteps.{set_hosted}
use Rattle.dash_loopers.proofs.QuietPosts.{posts_may_await}
use Rattle.dash_loopers.proofs.player.Place.set_target.Goals as goal

pub set_target-requires : goal.set_target-requires
set_target-requires g c =
    let place = c.args.self.now in
    let frames = c.choreographer.result.now in
    let phases = its_phases place.script.now place.hall.now place.looper c.requires.serves.looper frames c.choreographer.ensures in
    record {
      by = record {
        ready = c.host-host.ensures.host.ready;
        pass_of = (frame_of_badge place.script.now.threads c.args.parts.now.frames frames (c.requires.serves.are_parts.frames frames c.choreographer.ensures), subst (λ (n : ℕ). 3 < n) (sym phases) (up_to_three place.script.now.edition));
      };
    }

pub returns-clause-plays : goal.returns-clause-plays
returns-clause-plays g c =
    let place = c.args.self.now in
    set_hosted c.set_target.result place.script.now place.looper c.args.now c.host-host.result.now c.args.object c.args.target c.args.own.now.poster.now c.host-host.result.poster.now (calls_of c.set_target.new.host.poster.now) c.args.parts.now _
    c.set_target.ensures.shows c.host-host.ensures.host.moment.0 c.host-host.ensures.host.by_poster.1 refl refl

pub returns-clause-leaves : goal.returns-clause-leaves
returns-clause-leaves g c =
    let own = c.args.own.now in
    let keeps = c.set_target.ensures.keeps in
    let after : Parts = record c.args.parts.now { frames = c.set_target.new.pass; root = c.set_target.new.self } in
    keeps_hosted c.args.self.now.looper c.args.now _ own.poster.now own.pass.now _ _ c.host-host.result c.set_target.new.host c.host-host.ensures.host keeps.ready keeps.origin
    c.args.parts.now after own _ refl refl refl refl (record { poster = refl; pass = refl; journal = refl }) (tells_none own.journal.now)
    (record { others = refl; frames = keeps.posts.badge; awaits = posts_may_await c.args.parts.now after keeps.posts refl }) refl
