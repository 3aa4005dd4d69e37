use Rattle.std.proofs.Common.{length}
use Rattle.report_audit.proofs.Common.{stop_text, FitsStop}
use Rattle.report_audit.proofs.lines.ListLemmas.{ReadSoFar}
use Rattle.report_audit.proofs.lines.lists.stops_to_end.Given as goal

abbrev pub invariant-loop-rest : goal.invariant-loop-rest
invariant-loop-rest l = ReadSoFar stop_text FitsStop l.fn.text l.stops.items l.rest

abbrev pub decreases-loop-rest : goal.decreases-loop-rest
decreases-loop-rest l = length l.rest
