-- What a pass handed out goes on with each part.
use Rattle.std.proofs.Common.{◌≡◌, ◌≤◌, List, ◌++◌, length, sym, ap, ◌∙◌, subst, arith, length-append}
use Rattle.std.specs.Prelude.{Result, Ok, Err, IfOk, OnErr}
use mathlib.Core.List.{IsPrefix}
use Rattle.loop_model.specs.declared.memory.NoMemory.{NoMemory}
use Rattle.loop_model.proofs.Prefixes.{prefix_self, prefix_trans, prefix_all, prefix_shorter}
use Rattle.frame_phases.specs.declared.entry.FrameEntry.{FrameEntry}
use Rattle.frame_phases.specs.State.{Frames}
use Rattle.choreographer.specs.declared.state.StampedFrames.{StampedFrames}
use Rattle.choreographer.specs.Known.{Pass, IsFrameTurn}
use Rattle.choreographer.specs.Calls.{SealedBy}
use Rattle.choreographer.specs.Ends.{HasHandedOut}

-- entries that begin what a list begins with, as many as these, are these
pub same_beginning : (xs ys zs rest : List FrameEntry) → IsPrefix xs zs → ys ++ rest ≡ zs → length xs ≡ length ys → xs ≡ ys
same_beginning xs ys zs rest begins is long =
    prefix_all xs ys (prefix_shorter xs ys zs begins (rest, is) (omega (arith, long))) (omega (arith, long))

-- a turn that hands nothing out
pub hands_same : (before after : Pass) (x y : StampedFrames) → IsFrameTurn before after x y → length y.frames.sealed ≤ length x.frames.sealed → (entries : List FrameEntry)
    → HasHandedOut before entries → HasHandedOut after entries
hands_same before after x y t same entries out =
    let handed = t.handed in
    let grew : IsPrefix before.view.seen y.frames.entries = prefix_trans before.view.seen x.frames.entries y.frames.entries t.begins.0 t.grows in
    let long = out.0 in
    (omega (arith, handed, same, long), prefix_trans entries before.view.seen after.view.seen out.1 (subst (IsPrefix before.view.seen) (sym t.seen) grew))

-- a sealing: the part stands behind the others
pub hands_part : (before after : Pass) (result : Result (List FrameEntry) NoMemory) → SealedBy before after result → (entries : List FrameEntry) → HasHandedOut before entries
    → IfOk result (λ part. HasHandedOut after (entries ++ part)) × OnErr result (HasHandedOut after entries)
hands_part before after (Ok part) h entries out =
    let x = h.0 in
    let t = h.2 in
    let begins : IsPrefix entries x.frames.entries = prefix_trans entries before.view.seen x.frames.entries out.1 t.begins.0 in
    let same : entries ≡ x.frames.sealed = same_beginning entries x.frames.sealed x.frames.entries part begins (sym h.3.0) (out.0 ∙ sym h.5) in
    let seen : after.view.seen ≡ entries ++ part = t.seen ∙ (ap (λ (f : Frames). f.entries) h.3.1 ∙ (h.3.0 ∙ ap (λ (l : List FrameEntry). l ++ part) (sym same))) in
    let long = out.0 in
    let handed = h.6 in
    ((omega (arith, long, handed, length-append entries part), subst (IsPrefix (entries ++ part)) (sym seen) (prefix_self (entries ++ part))), tt)
hands_part before after (Err e) h entries out =
    let short = ap (λ (f : Frames). length f.sealed) h.3 in
    (tt, hands_same before after h.0 h.1 h.2 (omega (arith, short)) entries out)
