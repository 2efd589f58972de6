use Rattle.run_picture.proofs.picture.picture_of.Goals as goal

pub returns-in-Ok-drawn : goal.returns-in-Ok-drawn
returns-in-Ok-drawn c = (c.in-Ok.report, c.parse_report.ensures.found c.in-Ok.report c.in-Ok.is, c.in-Ok-drawn.ensures)
