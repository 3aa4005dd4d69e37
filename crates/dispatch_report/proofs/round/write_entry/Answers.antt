use Rattle.dispatch_report.proofs.LineLemmas.{then}
use Rattle.dispatch_report.proofs.round.write_entry.Goals as goal

pub returns : goal.returns
returns g c = then c.write_item.ensures c.write_entry_block.ensures
