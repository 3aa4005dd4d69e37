use Rattle.std.proofs.Common.{length}
use Rattle.report_audit.proofs.lines.next.+is_reply_of_any.Given as goal

abbrev pub decreases-is_reply_of_any : goal.decreases-is_reply_of_any
decreases-is_reply_of_any l = length l.kinds.now
