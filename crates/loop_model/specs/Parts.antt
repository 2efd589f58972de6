-- Histories that are kept in parts, each of which is legal and numbered.
use Rattle.std.specs.Prelude.{List, [], ◌∷◌}
use Rattle.loop_model.specs.declared.segment.Segment.{Segment}
use Rattle.loop_model.specs.Answers.{Setting}
use Rattle.loop_model.specs.Legal.{IsLegal, AreNumbered}

-- each part is legal from its start
abbrev pub AreLegal : Setting → List Segment → Type 0
AreLegal s [] = Unit {0}
AreLegal s (p ∷ ps) = IsLegal s p.base p.entries × AreLegal s ps

-- the senders of each part number their entries on from its start
abbrev pub ArePartsNumbered : Setting → List Segment → Type 0
ArePartsNumbered s [] = Unit {0}
ArePartsNumbered s (p ∷ ps) = AreNumbered s p.base p.entries × ArePartsNumbered s ps
