use Rattle.dispatch_report.proofs.Common.{day_end_text}
use Rattle.dispatch_report.proofs.LineLemmas.{as_text, then}
use Rattle.dispatch_report.proofs.day.write_day_end.Goals as goal

pub returns : goal.returns
unfolding day_end_text
returns g c = as_text c.new-piece.ensures.items (then c.write_item.ensures c.write_number.ensures) c.write_rest.ensures
