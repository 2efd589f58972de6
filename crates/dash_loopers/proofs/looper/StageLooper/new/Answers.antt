use Rattle.std.proofs.Common.{◌≡◌, ℕ, get_or, replicate, [], refl, sym, ap, ◌∙◌, subst, arith}
use Rattle.choreographer.specs.Known.{Pass}
use Rattle.choreographer.specs.Turn.{made_entries}
use Rattle.looper_run.specs.Holding.{Sender, Holding}
use Rattle.dash_hall.specs.Kits.{AreUnseen, frame_badge_of, frame_badge_for}
use Rattle.std.proofs.lemmas.Option.{same_Some}
use Rattle.dash_hall.specs.Hearing.{HasHeardAll}
use Rattle.dash_loopers.specs.Loopers.{LooperRest}
use Rattle.dash_loopers.proofs.LooperPasses.{unheard_all}
use Rattle.dash_loopers.proofs.LooperKits.{its_frames, one_frame, only_is, kit_many, kit_one, posters_begin, looper_begins}
use Rattle.dash_loopers.proofs.LooperPlaces.{none_latest}
use Rattle.dash_loopers.proofs.FirstPulses.{tells_none}
use Rattle.dash_loopers.proofs.LooperPlayed.{unseen_without, stands_first}
use Rattle.dash_loopers.proofs.looper.StageLooper.new.Goals as goal

pub remove-poster-requires : goal.remove-poster-requires
remove-poster-requires c =
    let of = c.requires.looper in
    omega (arith, kit_many c.args.script.now c.args.hall.now c.args.number of c.args.kit c.requires.kit, c.args.kit.posters.ok.0)

pub remove-own_frames-requires : goal.remove-own_frames-requires
remove-own_frames-requires c =
    let of = c.requires.looper in
    omega (arith, kit_one c.args.script.now c.args.hall.now c.args.number of c.args.kit c.requires.kit, c.args.kit.frames.ok.0)

pub returns : goal.returns
returns c =
    let s = c.args.script.now in
    let hall = c.args.hall.now in
    let of = c.requires.looper in
    let kit = c.args.kit in
    let many = kit_many s hall c.args.number of kit c.requires.kit in
    let one = kit_one s hall c.args.number of kit c.requires.kit in
    let ps = kit.frames.items in
    let unused = c.requires.unused in
    let held = c.make.ensures.held in
    let unasked = subst (λ (p : Pass). p.view.own ≡ []) (sym c.remove-own_frames.ensures.value) (unused.own 0 c.remove-own_frames.result (omega (arith, one))) in
    let unstamped = subst (λ (p : Pass). p.view.stamp ≡ 0) (sym c.remove-own_frames.ensures.value) (unused.stamp 0 c.remove-own_frames.result (omega (arith, one))) in
    let unknown = subst (λ (p : Pass). p.view.awaits ≡ 0) (sym c.remove-own_frames.ensures.value) (unused.awaits 0 c.remove-own_frames.result (omega (arith, one))) in
    let frames = its_frames s hall c.args.number of in
    let unpulsed = none_latest s hall c.args.number of frames.0 frames.1 c.remove-own_frames.result
    (only_is frame_badge_of ps c.remove-own_frames.result (frame_badge_for s.threads frames.0)
    (c.requires.kit.frames ∙ one_frame s hall c.args.number of frames.0 frames.1) c.remove-own_frames.ensures.value) unstamped unknown in
    let none = subst (λ (p : Sender). p.view.seen ≡ []) (sym c.remove-poster.ensures.value) (unused.posters c.args.number c.remove-poster.result many) in
    let p = c.remove-own_frames.result in
    let unheard = subst (HasHeardAll []) (sym c.remove-own_frames.ensures.value)
    (unheard_all (get_or ps 0 p) (unused.heard 0 p (omega (arith, one))) (unused.frames 0 p (omega (arith, one))) (unused.own 0 p (omega (arith, one)))) in
    record {
      begins = record {
        looper = looper_begins s hall c.args.number kit _ c.make.result c.remove-poster.result _ of c.requires.kit unused
            c.remove-poster.ensures.value c.remove-poster.ensures.items c.remove-own_frames.ensures.value
            held c.make.ensures.flags.1 refl refl;
        number_is = refl;
        posters = posters_begin kit c.args.number c.remove-poster.result c.make.result.held.poster c.remove-poster.new.self.items many
            c.remove-poster.ensures.value c.remove-poster.ensures.items (ap (λ (h : Holding). h.poster) held);
        waits = refl;
        begun = (
          stands_first s c.args.number _ _ _ _ (ap (λ (h : Holding). h.poster.view.seen) held ∙ none) (ap (λ (h : Holding). h.journal.acts) held)
              c.in_ok-new.ensures.still c.in_ok-new.ensures.gauges c.in_ok-new.ensures.rest.0 c.in_ok-new.ensures.rest.1 c.in_ok-new.ensures.rest.2
              (subst AreUnseen (sym c.remove-poster.ensures.items) (unseen_without kit.posters.items c.args.number many unused.posters))
              (c.in_ok-vec.ensures.items_if_clones_equal (λ y same. same) ∙ ap (λ (n : ℕ). replicate n 0) c.len.ensures)
              unasked unpulsed refl (sym unheard.0.seen ∙ ap made_entries unheard.1),
          tells_none 0 _ (ap (λ (h : Holding). h.journal.acts) held),
        );
        nothing = record { acts = ap (λ (h : Holding). h.journal.acts) held; idle_owed = c.make.ensures.flags.0; pass = ap (λ (h : Holding). h.pass) held };
        unheard = λ r is. subst (λ (z : LooperRest). HasHeardAll [] z.frames) (same_Some _ _ is) unheard;
      };
    }
