use Rattle.std.proofs.Common.{length}
use Rattle.report_audit.proofs.Common.{IsInRound}
use Rattle.report_audit.proofs.report.round.audit_entries.Given as goal

abbrev pub invariant-entries : goal.invariant-entries
invariant-entries g l = IsInRound l.context.settings.now l.context.network.now l.round l.fn.book l.book l.lanes l.sealed l.fn.text l.rest

abbrev pub decreases-entries : goal.decreases-entries
decreases-entries g l = length l.rest
