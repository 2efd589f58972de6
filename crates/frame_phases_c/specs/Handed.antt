-- What C has in its hand.
use Rattle.std.specs.Prelude.{◌≡◌, Option, Some, None, if◌then◌else◌, MatchOption}
use Rattle.frame_phases_c.specs.declared.handle.FrameLoop.{FrameLoop}
use Rattle.frame_phases_c.specs.Contents.{Contents}

-- what stands behind the handle, where it is open
abbrev pub inside : FrameLoop → Option Contents
inside h = if h.live then Some h.state else None

-- a call on a handle that is not open is refused and opens none, and else it does this
abbrev pub Does : Option Contents → Option Contents → Type 0 → (Contents → Contents → Type 0) → Type 0
Does a b refused made = MatchOption a (refused × (b ≡ None)) (λ x. (y : Contents) × (b ≡ Some y) × made x y)
