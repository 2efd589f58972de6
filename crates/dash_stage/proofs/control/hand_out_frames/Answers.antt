use Rattle.std.proofs.Common.{◌≡◌, List, [], ◌∷◌, ◌++◌, sym, ap, ◌∙◌, subst, refl}
use Rattle.std.specs.Prelude.{Result, IfOk, OnErr}
use Rattle.loop_model.specs.declared.memory.NoMemory.{NoMemory}
use Rattle.frame_phases.specs.declared.entry.FrameEntry.{FrameEntry}
use Rattle.dash_stage.specs.Controllers.{HandsOutFrames}
use Rattle.dash_stage.proofs.Controller.Controlling.{frames_handed}
use Rattle.dash_stage.proofs.control.hand_out_frames.Goals as goal

-- no memory for one part more: nothing was done
pub returns-in_err-reserve : goal.returns-in_err-reserve
returns-in_err-reserve g c =
    subst (HandsOutFrames c.args.pass.now c.args.pass.now c.args.parts.now.items) (sym c.reserve.ensures.items) (record { badge = refl; own = refl; parts = λ out. out })

pub returns-in_err-part : goal.returns-in_err-part
returns-in_err-part g c =
    let had = c.args.parts.now.items in
    let out = (frames_handed c.args.pass.now c.seal.new.pass c.seal.result had c.seal.ensures).1 in
    subst (HandsOutFrames c.args.pass.now c.seal.new.pass had) (sym c.reserve.ensures.items)
    (subst (λ (r : Result (List FrameEntry) NoMemory). OnErr r (HandsOutFrames c.args.pass.now c.seal.new.pass had had)) c.in_err-part.was out)

pub returns : goal.returns
returns g c =
    let had = c.args.parts.now.items in
    let part : List FrameEntry = c.in_ok-part.part in
    let has : c.push_reserved.new.self.items ≡ had ++ part ∷ [] = c.push_reserved.ensures.items ∙ ap (λ (l : List (List FrameEntry)). l ++ part ∷ []) c.reserve.ensures.items in
    let out = (frames_handed c.args.pass.now c.seal.new.pass c.seal.result had c.seal.ensures).0 in
    subst (HandsOutFrames c.args.pass.now c.seal.new.pass had) (sym has)
    (subst (λ (r : Result (List FrameEntry) NoMemory). IfOk r (λ part. HandsOutFrames c.args.pass.now c.seal.new.pass had (had ++ part ∷ []))) c.in_ok-part.was out)
