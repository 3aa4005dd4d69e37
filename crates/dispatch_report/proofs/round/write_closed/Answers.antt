use Rattle.dispatch_report.proofs.EntryLemmas.{closed_block-other}
use Rattle.dispatch_report.proofs.LineLemmas.{no_lines}
use Rattle.dispatch_report.proofs.round.write_closed.Goals as goal

pub returns-in_default : goal.returns-in_default
returns-in_default g c = rw (closed_block-other c.args.proof c.args.batch c.args.outcome.now c.args.reply c.in_default.not-Closed) (no_lines _ _)
