-- What stands behind a handle.
use Rattle.std.specs.Prelude.{ℕ, List, []}
use Rattle.frame_phases.specs.State.{Frames, fresh}
use Rattle.frame_phases.specs.declared.entry.Callback.{Callback}

-- the choreographer's state, and the callbacks that the latest phase took and that were not handed out yet, with their frame time
pub record Contents : Type 0 where
  pub frames : Frames
  pub batch : List Callback
  pub time : ℕ

-- before anything happened
abbrev pub just_opened : ℕ → ℕ → Contents
just_opened interval phases = record { frames = fresh 0 interval phases; batch = []; time = 0 }

-- what nobody sees behind a handle that is not live
abbrev pub nothing_in : Contents
nothing_in = just_opened 1 1
