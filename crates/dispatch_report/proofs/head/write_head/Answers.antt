use Rattle.dispatch_report.proofs.Common.{head_text}
use Rattle.dispatch_report.proofs.LineLemmas.{as_text, then}
use Rattle.dispatch_report.proofs.head.write_head.Goals as goal

pub returns : goal.returns
unfolding head_text
returns g c = as_text c.new-piece.ensures.items (then (then (then c.write_words.ensures c.write_item.ensures) c.write_item-2.ensures) c.write_fleet.ensures)
    c.write_rest.ensures
