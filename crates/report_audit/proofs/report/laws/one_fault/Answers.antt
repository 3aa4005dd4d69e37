use Rattle.std.proofs.Common.{sym}
use Rattle.report_audit.proofs.report.OneFault.{one_fault}
use Rattle.report_audit.proofs.report.laws.one_fault.Goals as goal

pub returns : goal.returns
returns c = λ roads vehicles rounds sizes fleet kept workers text fault other some more has also.
    sym (one_fault roads vehicles rounds workers text (record { sizes = sizes; fleet = fleet; kept = kept }) fault other some more has also)
