use Rattle.std.proofs.Common.{◌≡◌, ◌≤◌, take, count_by}
use Rattle.report_audit.proofs.Common.{closes}
use Rattle.report_audit.proofs.report.round.closed.Given as goal

abbrev pub invariant-loop-entry : goal.invariant-loop-entry
invariant-loop-entry l = (l.count ≡ count_by (λ e. closes e.command e.reply) (take l.entry-index l.entries)) × (l.count ≤ l.entry-index)
