use Rattle.report_audit.proofs.report.OneFault.{no_fault}
use Rattle.report_audit.proofs.report.laws.no_fault.Goals as goal

pub returns : goal.returns
returns c = λ roads vehicles rounds sizes fleet kept workers text fault some report has.
    no_fault roads vehicles rounds workers text (record { sizes = sizes; fleet = fleet; kept = kept }) report fault some has
