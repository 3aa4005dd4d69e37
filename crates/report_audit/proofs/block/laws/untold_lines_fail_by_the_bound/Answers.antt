use Rattle.report_audit.proofs.block.LawLemmas.{untold_fails}
use Rattle.report_audit.proofs.block.laws.untold_lines_fail_by_the_bound.Goals as goal

pub returns : goal.returns
returns c = untold_fails
