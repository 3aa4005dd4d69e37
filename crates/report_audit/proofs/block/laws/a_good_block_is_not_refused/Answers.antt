use Rattle.report_audit.proofs.lemmas.block.AuditLemmas.{good_not_refused}
use Rattle.report_audit.proofs.block.laws.a_good_block_is_not_refused.Goals as goal

pub returns : goal.returns
returns c = good_not_refused
