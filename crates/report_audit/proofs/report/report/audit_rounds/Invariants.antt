use Rattle.std.proofs.Common.{drop, take}
use Rattle.report_audit.proofs.Common.{IsBetween}
use Rattle.report_audit.proofs.report.report.audit_rounds.Given as goal

abbrev pub invariant-loop-round : goal.invariant-loop-round
invariant-loop-round g l = IsBetween l.context.settings.now l.context.network.now l.context.report.now l.fleet l.script l.context.settings.now.workers
    (take l.round-index l.script) (drop l.round-index l.script) l.first l.book l.rest l.batches
