use Rattle.dispatch_report.proofs.Common.{load_text}
use Rattle.dispatch_report.proofs.LineLemmas.{as_text}
use Rattle.dispatch_report.proofs.summary.write_load.Goals as goal

pub returns : goal.returns
unfolding load_text
returns g c = as_text c.new-piece.ensures.items c.write_item.ensures c.write_rest.ensures
