use Rattle.std.proofs.Common.{◌≡◌, [], ◌∷◌, ◌++◌, Some, ap, sym, ◌∙◌, subst}
use Rattle.atomic_table.specs.Table.{opening}
use Rattle.frame_phases.specs.State.{Frames}
use Rattle.choreographer.specs.declared.state.StampedFrames.{StampedFrames}
use Rattle.choreographer.specs.Turn.{first_state, FrameTurn, opening_view}
use Rattle.choreographer.proofs.Turns.{opens}
use Rattle.choreographer.proofs.table.Choreographer.open.Goals as goal

pub new-requires-2 : goal.new-requires-2
new-requires-2 c =
    let key = c.args.constants in
    let x : StampedFrames = record { frames = c.in_ok-frames.frames; stamp = 0 } in
    let is : x ≡ first_state key = ap (λ (f : Frames). record { frames = f; stamp = 0 }) c.in_ok-frames.ensures in
    let items : c.push_reserved.new.self.items ≡ Some x ∷ [] = c.push_reserved.ensures.items ∙ ap (λ l. l ++ Some x ∷ []) c.in-Ok.ensures.items in
    subst (λ slots. FrameTurn key (opening (0 ∷ []) slots (opening_view key))) (sym items) (opens key x c.requires.0 is)
