-- Shares of a pool. A share is so many parts of a whole that has so many.
use Rattle.std.specs.Prelude.{◌≡◌, ℕ, ◌+◌, ◌*◌, ◌<◌}
use Rattle.message_pool.specs.declared.views.Share.{Share}

abbrev pub share : ℕ → ℕ → Share
share parts whole = record { parts = parts; whole = whole }

-- all of the pool
abbrev pub entire : Share
entire = share 1 1

-- nothing of it
abbrev pub no_share : Share
no_share = share 0 1

-- half of a share
abbrev pub half : Share → Share
half s = share s.parts (2 * s.whole)

-- two shares together
abbrev pub plus : Share → Share → Share
plus s t = share (s.parts * t.whole + t.parts * s.whole) (s.whole * t.whole)

-- it has all parts
abbrev pub IsEntire : Share → Type 0
IsEntire s = s.parts ≡ s.whole

-- it has some part
abbrev pub HasPart : Share → Type 0
HasPart s = (0 < s.parts) × (0 < s.whole)
