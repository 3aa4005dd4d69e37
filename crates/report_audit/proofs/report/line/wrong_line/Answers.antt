use Rattle.report_audit.proofs.Common.{IsWrongLine}
use Rattle.report_audit.proofs.report.FaultLemmas.{fails_at}
use Rattle.report_audit.proofs.report.line.wrong_line.Goals as goal

pub returns : goal.returns
returns c = λ settings roads place. fails_at settings roads c.args.report.now c.args.rest.now place c.line_at.result c.line_at.ensures IsWrongLine
