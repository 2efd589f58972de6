-- What becomes of a text.
use Rattle.std.specs.Prelude.{ℕ, List}
use Rattle.run_picture.specs.declared.report.Report.{Report}
use Rattle.run_picture.specs.declared.picture.Form.{Form}
use Rattle.run_picture.specs.declared.picture.Form.TheVariants.{Svg, Perfetto}
use Rattle.run_picture.specs.declared.picture.Picture.{Picture}
use Rattle.run_picture.specs.declared.picture.Picture.TheVariants.{Text, Bad, NoMemory}
use Rattle.run_picture.specs.Text.{IsReportText, IsLeastBadOfReport}
use Rattle.run_picture.specs.Drawn.{Draws}
use Rattle.run_picture.specs.Events.{Traces}

-- the text is a picture of the report, in this form
abbrev pub IsPictureOf : Form → Report → List ℕ → Type 0
IsPictureOf (Svg v) r text = Draws v r text
IsPictureOf Perfetto r text = Traces r text

-- a picture is that of the report whose text the bytes are; a line is the least bad one
abbrev pub DrawsReport : Picture → Form → List ℕ → Type 0
DrawsReport (Text t) form b = (r : Report) × IsReportText b r × IsPictureOf form r t.items
DrawsReport (Bad k) form b = IsLeastBadOfReport b k
DrawsReport NoMemory form b = Unit {0}
