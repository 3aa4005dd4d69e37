use Rattle.dispatch_report.proofs.Common.{end_text}
use Rattle.dispatch_report.proofs.LineLemmas.{as_text}
use Rattle.dispatch_report.proofs.round.write_end.Goals as goal

pub returns : goal.returns
unfolding end_text
returns g c = as_text c.new-piece.ensures.items c.write_number.ensures c.write_rest.ensures
