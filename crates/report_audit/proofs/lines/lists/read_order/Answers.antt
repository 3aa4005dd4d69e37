use Rattle.report_audit.proofs.lines.StopLemmas.{order_no_stops}
use Rattle.report_audit.proofs.lines.lists.read_order.Goals as goal

pub returns-in_default-2 : goal.returns-in_default-2
returns-in_default-2 c = order_no_stops (λ e. let whole = c.is_words.ensures.whole e in cc) c.in-Some.ensures (rw c.in_default-2.is at c.in_ok-stops.ensures)
