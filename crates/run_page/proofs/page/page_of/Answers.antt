use Rattle.run_page.proofs.page.page_of.Goals as goal

pub returns-in-Ok-page_text : goal.returns-in-Ok-page_text
returns-in-Ok-page_text c = (c.in-Ok.report, c.parse_report.ensures.found c.in-Ok.report c.in-Ok.is, c.in-Ok-page_text.ensures)
