use Rattle.dispatch_report.proofs.EntryLemmas.{entry_block-other}
use Rattle.dispatch_report.proofs.LineLemmas.{no_lines}
use Rattle.dispatch_report.proofs.round.write_entry_block.Goals as goal

pub returns-in_default : goal.returns-in_default
returns-in_default g c = rw (entry_block-other c.args.proof c.args.entry.now.command c.args.entry.now.reply c.in_default.not-Close) (no_lines _ _)
