use Rattle.std.proofs.Common.{codes, length}
use Rattle.report_audit.proofs.Common.{signed, IsLong}
use Rattle.report_audit.proofs.lines.ListLemmas.{ReadSoFar}
use Rattle.report_audit.proofs.lines.lists.multipliers_to_end.Given as goal

abbrev pub invariant-loop-rest : goal.invariant-loop-rest
invariant-loop-rest l = ReadSoFar (signed (codes " ")) IsLong l.fn.text l.multipliers.items l.rest

abbrev pub decreases-loop-rest : goal.decreases-loop-rest
decreases-loop-rest l = length l.rest
