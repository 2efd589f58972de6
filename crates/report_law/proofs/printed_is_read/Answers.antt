use Rattle.report_law.proofs.Limits.{printed_read}
use Rattle.report_law.proofs.printed_is_read.Goals as goal

pub returns : goal.returns
returns c = printed_read
