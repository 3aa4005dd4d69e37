use Rattle.std.proofs.Common.{length}
use Rattle.report_audit.proofs.lines.next.+is_told_by_any.Given as goal

abbrev pub decreases-is_told_by_any : goal.decreases-is_told_by_any
decreases-is_told_by_any l = length l.kinds.now
