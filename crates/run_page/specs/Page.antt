-- The page of a report.
use Rattle.std.specs.Prelude.{◌≡◌, ℕ, List, ◌++◌}
use Rattle.run_picture.specs.declared.report.Report.{Report}
use Rattle.run_picture.specs.declared.picture.Picture.{Picture}
use Rattle.run_picture.specs.declared.picture.Picture.TheVariants.{Text, Bad, NoMemory}
use Rattle.run_picture.specs.Text.{IsReportText, IsLeastBadOfReport}
use Rattle.run_picture.specs.Events.{Traces}

-- the page has the trace of the report whole, between what opens it and what draws it
abbrev pub IsPage : Report → List ℕ → Type 0
IsPage r text = (opening : List ℕ) × (trace : List ℕ) × (script : List ℕ) × Traces r trace × (text ≡ opening ++ trace ++ script)

-- a page is that of the report whose text the bytes are; a line is the least bad one
abbrev pub ShowsPage : Picture → List ℕ → Type 0
ShowsPage (Text t) b = (r : Report) × IsReportText b r × IsPage r t.items
ShowsPage (Bad k) b = IsLeastBadOfReport b k
ShowsPage NoMemory b = Unit {0}
