use Rattle.std.proofs.Common.{refl}
use Rattle.ridepool.proofs.Common.{IsAuditFault}
use Rattle.ridepool.proofs.AuditLemmas.{judged, unjudged}
use Rattle.ridepool.proofs.auditing.write_audit.Goals as goal

pub returns-in-Err-clause-audited : goal.returns-in-Err-clause-audited
returns-in-Err-clause-audited g c = IsAuditFault.unread c.in-Err.status c.in-Err.ensures (record { bytes = refl; faults = refl })

pub returns-in-Ok-judge_report-clause-audited : goal.returns-in-Ok-judge_report-clause-audited
returns-in-Ok-judge_report-clause-audited g c =
    judged _ _ c.in-Ok.bytes.items c.deref.result.now _ _ _ _ c.in-Ok.ensures c.deref.ensures.value
    c.in-Ok-judge_report.audited c.write_yes.result c.in-Ok-judge_report.ensures.yes c.write_yes.ensures.text

pub returns-clause-audited : goal.returns-clause-audited
returns-clause-audited g c =
    unjudged _ _ c.in-Ok.bytes.items c.deref.result.now _ _ c.in-Err-judge_report.status c.in-Ok.ensures c.deref.ensures.value c.in-Err-judge_report.ensures.no
