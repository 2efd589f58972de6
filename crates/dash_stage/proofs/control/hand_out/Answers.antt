use Rattle.std.proofs.Common.{◌≡◌, List, [], ◌∷◌, ◌++◌, sym, ap, ◌∙◌, subst}
use Rattle.loop_model.specs.declared.segment.Segment.{Segment}
use Rattle.dash_stage.specs.Timeliness.{HandsPartsOut}
use Rattle.dash_stage.proofs.Controller.ControlTurns.{hands, hands_then}
use Rattle.dash_stage.proofs.control.hand_out.Goals as goal

pub returns-then-since-lt-MANY : goal.returns-then-since-lt-MANY
returns-then-since-lt-MANY g c = hands c.args.poster.now c.since.new.self _ c.args.parts.now.items c.since.ensures.1

pub returns-in_err-reserve : goal.returns-in_err-reserve
returns-in_err-reserve g c =
    subst (HandsPartsOut c.args.poster.now c.since.new.self c.args.parts.now.items) (sym c.reserve.ensures.items) (hands c.args.poster.now c.since.new.self _ c.args.parts.now.items c.since.ensures.1)

pub returns-in_err-part : goal.returns-in_err-part
returns-in_err-part g c =
    let had = c.args.parts.now.items in
    subst (HandsPartsOut c.args.poster.now c.seal.new.self had) (sym c.reserve.ensures.items)
    (hands_then c.args.poster.now c.since.new.self c.seal.new.self had had had (hands c.args.poster.now c.since.new.self _ had c.since.ensures.1) (hands c.since.new.self c.seal.new.self _ had c.in_err-part.ensures.1))

pub returns : goal.returns
returns g c =
    let had = c.args.parts.now.items in
    let part : Segment = c.in_ok-part.part in
    let has : c.push_reserved.new.self.items ≡ had ++ part ∷ [] = c.push_reserved.ensures.items ∙ ap (λ (l : List Segment). l ++ part ∷ []) c.reserve.ensures.items in
    subst (HandsPartsOut c.args.poster.now c.seal.new.self had) (sym has)
    (hands_then c.args.poster.now c.since.new.self c.seal.new.self had had (had ++ part ∷ []) (hands c.args.poster.now c.since.new.self _ had c.since.ensures.1) (hands c.since.new.self c.seal.new.self _ had c.in_ok-part.ensures.1.0))
