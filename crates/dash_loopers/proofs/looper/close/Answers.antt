use Rattle.std.proofs.Common.{◌≡◌, ◌<◌, ◌+◌, false, true≢false, length, get_or, refl, sym, ap, ◌∙◌, inl, arith}
use Rattle.std.proofs.lemmas.List.{get_or_default, get_or-set_same}
use Rattle.looper_run.specs.Holding.{Sender}
use Rattle.dash_loopers.proofs.LooperPlaces.{queue_count, main_near, other_within, other_read, other_of_read, parts_self, parts_with}
use Rattle.dash_loopers.proofs.looper.close.Goals as goal

pub returns-then-not-gave_up-clause-parts : goal.returns-then-not-gave_up-clause-parts
returns-then-not-gave_up-clause-parts g c = parts_self c.args.parts.now

pub returns-then-number-eq0-clause-parts : goal.returns-then-number-eq0-clause-parts
returns-then-number-eq0-clause-parts g c = parts_self c.args.parts.now

pub index-requires : goal.index-requires
index-requires g c =
    let hall = c.args.hall.now in
    let one = c.requires.looper.one in
    let count = queue_count c.args.script.now hall c.args.number c.requires.looper in
    omega (arith, one, count, hall.queues.ok.0)

pub index_mut-requires : goal.index_mut-requires
index_mut-requires g c =
    let parts = c.args.parts.now in
    let some : 0 < c.args.number = omega (arith, c.if-number-eq0.false) in
    let near = main_near c.args.script.now c.args.hall.now c.args.number c.requires.looper in
    omega (arith, other_within c.args.script.now c.args.hall.now c.args.number 0 0 parts c.requires.looper c.requires.parts near (inl (some, refl)), parts.others.ok.0)

pub nudge-requires-after_bounds : goal.nudge-requires-after_bounds
nudge-requires-after_bounds g c κs within =
    let s = c.args.script.now in
    let hall = c.args.hall.now in
    let parts = c.args.parts.now in
    let some : 0 < c.args.number = omega (arith, c.if-number-eq0.false) in
    let near = main_near s hall c.args.number c.requires.looper in
    other_of_read s hall c.args.number 0 0 parts c.requires.looper c.requires.parts near (inl (some, refl)) c.index_mut.result.now c.index.result.now hall.queues.len
    (other_read s hall c.args.number 0 0 parts c.requires.looper c.requires.parts near (inl (some, refl)) parts.others.len c.index_mut.result.now (omega (arith, parts.others.ok.0)) c.index_mut.ensures.value)
    (omega (arith, hall.queues.ok.0)) c.index.ensures

pub returns-clause-parts : goal.returns-clause-parts
returns-clause-parts g c =
    let parts = c.args.parts.now in
    let some : 0 < c.args.number = omega (arith, c.if-number-eq0.false) in
    let near = main_near c.args.script.now c.args.hall.now c.args.number c.requires.looper in
    let same = c.nudge.ensures.same.0 in
    parts_with parts 0 c.index_mut.result.now c.nudge.new.self _
    (other_read c.args.script.now c.args.hall.now c.args.number 0 0 parts c.requires.looper c.requires.parts near (inl (some, refl)) parts.others.len c.index_mut.result.now (omega (arith, parts.others.ok.0)) c.index_mut.ensures.value)
    (λ i. record { table = same.table i; constants = same.constants i; sender = same.sender i }) refl refl refl

pub returns-then-not-gave_up-clause-nudged : goal.returns-then-not-gave_up-clause-nudged
returns-then-not-gave_up-clause-nudged g c = λ up apart. (let on : c.args.gave_up ≡ false = c.if-not-gave_up.true in absurd (true≢false (sym up ∙ on)))

pub returns-then-number-eq0-clause-nudged : goal.returns-then-number-eq0-clause-nudged
returns-then-number-eq0-clause-nudged g c = λ up apart. absurd (apart (omega (arith, c.if-number-eq0.true)))

pub returns-clause-nudged : goal.returns-clause-nudged
returns-clause-nudged g c = λ up apart d. (
    let s = c.args.script.now in
    let hall = c.args.hall.now in
    let parts = c.args.parts.now in
    let ps = parts.others.items in
    let p = c.index_mut.result.now in
    let some : 0 < c.args.number = omega (arith, c.if-number-eq0.false) in
    let near = main_near s hall c.args.number c.requires.looper in
    let within : 0 < length ps = other_within s hall c.args.number 0 0 parts c.requires.looper c.requires.parts near (inl (some, refl)) in
    let was : p ≡ get_or ps 0 p = c.index_mut.ensures.value in
    ap (λ (z : Sender). z.view.rung) (get_or-set_same ps 0 c.nudge.new.self d within) ∙ (c.nudge.ensures.rung ∙ ap (λ (z : Sender). z.view.rung + 1) (was ∙ get_or_default ps 0 p d within)))
