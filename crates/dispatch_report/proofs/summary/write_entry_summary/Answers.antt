use Rattle.dispatch_report.proofs.SummaryLemmas.{batch_lines-other}
use Rattle.dispatch_report.proofs.LineLemmas.{no_lines}
use Rattle.dispatch_report.proofs.summary.write_entry_summary.Goals as goal

pub returns-in_default : goal.returns-in_default
returns-in_default g c = rw (batch_lines-other c.args.entry.now.command c.args.entry.now.reply c.in_default.not-Close) (no_lines _ _)
