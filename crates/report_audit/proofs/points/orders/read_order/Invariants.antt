use Rattle.report_audit.proofs.lemmas.points.OrderLemmas.{ReadsBack}
use Rattle.report_audit.proofs.points.orders.read_order.Given as goal

abbrev pub invariant-loop-stop : goal.invariant-loop-stop
invariant-loop-stop l = ReadsBack l.settled l.vehicle l.trip l.told l.stop-index l.order.items
