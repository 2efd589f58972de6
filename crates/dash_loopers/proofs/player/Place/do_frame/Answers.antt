use Rattle.std.proofs.Common.{◌++◌, ℕ, List, map, refl, sym, ap, ◌∙◌, Ok, ◌≡◌, false, true}
use Rattle.dash_loopers.specs.declared.player.Parts.{Parts}
use Rattle.dash_loopers.specs.declared.view_root.Painted.{Painted}
use Rattle.dash_loopers.specs.Played.{calls_of, paint_of}
use Rattle.dash_loopers.proofs.LooperPlaces.{pass_on, its_phases, its_period, may_deliver}
use Rattle.dash_loopers.proofs.PlaySteps.{frame_hosted, frame_delivered}
use Rattle.dash_loopers.proofs.player.Place.do_frame.Goals as goal
use Rattle.dash_loopers.proofs.LooperLeaves.{keeps_hosted, tells_none}

pub do_frame-requires-clause-by : goal.do_frame-requires-clause-by
do_frame-requires-clause-by g c = record { ready = c.host-host.ensures.host.ready; pass_of = pass_on c.args.self.now c.args.parts.now _ c.requires.serves c.choreographer.result.now c.choreographer.ensures }

pub do_frame-requires-clause-begins : goal.do_frame-requires-clause-begins
do_frame-requires-clause-begins g c =
    let place = c.args.self.now in
    let frames = c.choreographer.result.now in
    let are = c.requires.serves.are_parts in (
      may_deliver place.script.now place.hall.now place.looper c.requires.serves.looper frames c.choreographer.ensures c.args.parts.now.frames (are.frames frames c.choreographer.ensures),
      λ key is named. are.awaits c.requires.awaited key is named,
    )

pub do_frame-requires-clause-phases : goal.do_frame-requires-clause-phases
do_frame-requires-clause-phases g c =
    let place = c.args.self.now in c.phase_count.ensures ∙ sym (its_phases place.script.now place.hall.now place.looper c.requires.serves.looper c.choreographer.result.now c.choreographer.ensures)

pub returns-clause-delivers : goal.returns-clause-delivers
returns-clause-delivers g c = λ m starts.
    (let place = c.args.self.now in
    let old = c.args.own.now in
    let made = calls_of c.do_frame.new.host.poster.now in
    let frames = c.choreographer.result.now in
    let phases = its_phases place.script.now place.hall.now place.looper c.requires.serves.looper frames c.choreographer.ensures in
    let period = its_period place.script.now place.hall.now place.looper c.requires.serves.looper frames c.choreographer.ensures in
    let mid : Parts = record c.args.parts.now { frames = c.do_frame.new.pass; root = c.do_frame.new.self } in
    let ran = frame_hosted {E = ℕ} (Ok tt) place.script.now place.looper c.args.now c.host-host.result.now frames.constants.interval frames.constants.phases (g.U.Uptime.is_moment c.args.uptime.now) (g.U.Uptime.is_moment c.host-host.result.uptime.now) old.poster.now c.host-host.result.poster.now made c.args.parts.now mid
    c.in_ok-do_frame.ensures.ran period phases c.host-host.ensures.host.moment.0 (ap g.U.Uptime.is_moment c.host-host.ensures.host.uptime_is) c.host-host.ensures.host.by_poster.1 refl refl in
    frame_delivered place.script.now place.looper c.args.now (g.U.Uptime.is_moment c.args.uptime.now) m (calls_of old.poster.now) made c.args.parts.now mid _ old.journal.now.acts old.journal.now.acts c.tell_painted.new.journal.acts ran.0 starts c.requires.awaited refl ran.1 ran.2 ran.3
    refl (c.in_ok-tell_painted.ensures.told ∙ ap (λ (l : List Painted). old.journal.now.acts ++ map paint_of l) c.as_slice.ensures.value) refl refl refl refl refl refl c.clear.ensures.items)

pub returns-in_err-do_frame-clause-leaves : goal.returns-in_err-do_frame-clause-leaves
returns-in_err-do_frame-clause-leaves g c =
    let own = c.args.own.now in
    let keeps = c.do_frame.ensures.keeps in
    keeps_hosted c.args.self.now.looper c.args.now _ own.poster.now own.pass.now _ _ c.host-host.result c.do_frame.new.host c.host-host.ensures.host keeps.ready keeps.origin
    c.args.parts.now _ own _ refl refl refl refl (record { poster = refl; pass = refl; journal = refl }) (tells_none own.journal.now) (record { others = refl; frames = keeps.badge; awaits = λ may waits. absurd (let wrong : false ≡ true = waits in cc) }) refl

pub returns-in_err-tell_painted-clause-leaves : goal.returns-in_err-tell_painted-clause-leaves
returns-in_err-tell_painted-clause-leaves g c =
    let own = c.args.own.now in
    let keeps = c.do_frame.ensures.keeps in
    keeps_hosted c.args.self.now.looper c.args.now _ own.poster.now own.pass.now _ _ c.host-host.result c.do_frame.new.host c.host-host.ensures.host keeps.ready keeps.origin
    c.args.parts.now _ own _ refl refl refl refl (record { poster = refl; pass = refl; journal = refl }) c.tell_painted.ensures.more (record { others = refl; frames = keeps.badge; awaits = λ may waits. absurd (let wrong : false ≡ true = waits in cc) }) refl

pub returns-clause-leaves : goal.returns-clause-leaves
returns-clause-leaves g c =
    let own = c.args.own.now in
    let keeps = c.do_frame.ensures.keeps in
    keeps_hosted c.args.self.now.looper c.args.now _ own.poster.now own.pass.now _ _ c.host-host.result c.do_frame.new.host c.host-host.ensures.host keeps.ready keeps.origin
    c.args.parts.now _ own _ refl refl refl refl (record { poster = refl; pass = refl; journal = refl }) c.tell_painted.ensures.more (record { others = refl; frames = keeps.badge; awaits = λ may waits. absurd (let wrong : false ≡ true = waits in cc) }) refl
