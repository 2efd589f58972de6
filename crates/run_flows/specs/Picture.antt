-- What becomes of a text.
use Rattle.std.specs.Prelude.{ℕ, List}
use Rattle.run_picture.specs.declared.picture.Picture.{Picture}
use Rattle.run_picture.specs.declared.picture.Picture.TheVariants.{Text, Bad, NoMemory}
use Rattle.trace_check.specs.declared.trace.Trace.{Trace}
use Rattle.trace_check.specs.Text.{IsTraceText, IsLeastBadOfTrace}
use Rattle.run_flows.specs.Events.{DrawsFlows}

-- the arrows are those of the trace whose text the bytes are; a line is the least bad one
abbrev pub ShowsFlows : Picture → List ℕ → Type 0
ShowsFlows (Text t) b = (trace : Trace) × IsTraceText b trace × DrawsFlows trace t.items
ShowsFlows (Bad k) b = IsLeastBadOfTrace b k
ShowsFlows NoMemory b = Unit {0}
