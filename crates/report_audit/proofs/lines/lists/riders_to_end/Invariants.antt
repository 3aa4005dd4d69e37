use Rattle.std.proofs.Common.{length}
use Rattle.report_audit.proofs.Common.{spaced, IsId}
use Rattle.report_audit.proofs.lines.ListLemmas.{ReadSoFar}
use Rattle.report_audit.proofs.lines.lists.riders_to_end.Given as goal

abbrev pub invariant-loop-rest : goal.invariant-loop-rest
invariant-loop-rest l = ReadSoFar spaced IsId l.fn.text l.riders.items l.rest

abbrev pub decreases-loop-rest : goal.decreases-loop-rest
decreases-loop-rest l = length l.rest
