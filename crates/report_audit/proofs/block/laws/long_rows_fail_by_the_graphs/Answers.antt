use Rattle.report_audit.proofs.block.LawLemmas.{long_row_fails}
use Rattle.report_audit.proofs.block.laws.long_rows_fail_by_the_graphs.Goals as goal

pub returns : goal.returns
returns c = long_row_fails
