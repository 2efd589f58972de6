-- What a draft holds.
use Rattle.value_animator.specs.declared.draft.Draft.{Draft}
use Rattle.value_animator.specs.Reading.{SoFar}

-- the lines so far, as the draft holds them
abbrev pub so_far : Draft → SoFar
so_far d = record { period = d.period; things = d.things.items; open_plan = d.open; stage = d.stage }
