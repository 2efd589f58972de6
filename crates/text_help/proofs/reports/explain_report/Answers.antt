use Rattle.run_picture.specs.Text.{IsReportText}
use Rattle.text_help.specs.Heads.{report_head}
use Rattle.text_help.specs.Saying.{IsReportRefusal}
use Rattle.text_help.proofs.Agreed.{begins, good_only, good_all, bad_only, reports}
use Rattle.text_help.proofs.reports.explain_report.Goals as goal

pub returns-clause-good : goal.returns-clause-good
returns-clause-good c = good_only report_head c.args.bytes.now reports IsReportText c.said_of.result c.parse_report-parsed.result c.said_of.ensures c.parse_report-parsed.ensures.found

pub returns-clause-all_good : goal.returns-clause-all_good
returns-clause-all_good c =
    good_all report_head c.args.bytes.now reports IsReportText c.said_of.result c.parse_report-parsed.result c.said_of.ensures c.parse_report-parsed.ensures.only

pub returns-clause-bad : goal.returns-clause-bad
returns-clause-bad c =
    bad_only report_head c.args.bytes.now reports IsReportRefusal c.said_of.result c.parse_report-parsed.result c.said_of.ensures (λ line none is. c.parse_report-parsed.ensures.refused line is)

pub returns-clause-begins : goal.returns-clause-begins
returns-clause-begins c = begins report_head c.args.bytes.now reports c.said_of.result c.parse_report-parsed.result c.said_of.ensures
