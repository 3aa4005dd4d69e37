use Rattle.report_audit.proofs.Common.{travel_time, TellsMoves}
use Rattle.report_audit.proofs.points.moves.tell_pairs.Given as goal

abbrev pub invariant-loop-step : goal.invariant-loop-step
invariant-loop-step l = TellsMoves (travel_time l.times) l.settled l.idle l.left l.moves l.step-index l.pairs.items
