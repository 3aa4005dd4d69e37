use Rattle.report_audit.proofs.block.LawLemmas.{long_late_fails}
use Rattle.report_audit.proofs.block.laws.long_orders_fail_by_the_late.Goals as goal

pub returns : goal.returns
returns c = long_late_fails
