use Rattle.dispatch_report.proofs.SummaryLemmas.{closed_lines-other}
use Rattle.dispatch_report.proofs.LineLemmas.{no_lines}
use Rattle.dispatch_report.proofs.summary.write_closed.Goals as goal

pub returns-in_default : goal.returns-in_default
returns-in_default g c = rw (closed_lines-other c.args.batch c.args.outcome.now c.args.reply c.in_default.not-Closed) (no_lines _ _)
