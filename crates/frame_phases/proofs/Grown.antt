-- What the entries since grow by, the whole history grows by.
use Rattle.std.proofs.Common.{◌≡◌, List, ◌++◌, ap, sym, ◌∙◌, append_assoc}
use Rattle.frame_phases.specs.declared.entry.FrameEntry.{FrameEntry}
use Rattle.frame_phases.specs.declared.state.FrameState.TheInside.{Inside}
use Rattle.frame_phases.specs.Kept.{whole}

pub grown : (s : Inside) (after more : List FrameEntry) → after ≡ s.entries.items ++ more → s.gone.items ++ after ≡ whole s ++ more
grown s after more e = ap (λ xs. s.gone.items ++ xs) e ∙ sym (append_assoc s.gone.items s.entries.items more)
