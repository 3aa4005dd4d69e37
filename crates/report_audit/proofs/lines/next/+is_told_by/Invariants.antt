use Rattle.std.proofs.Common.{length}
use Rattle.report_audit.proofs.lines.next.+is_told_by.Given as goal

abbrev pub decreases-is_told_by : goal.decreases-is_told_by
decreases-is_told_by l = length l.fields.now
