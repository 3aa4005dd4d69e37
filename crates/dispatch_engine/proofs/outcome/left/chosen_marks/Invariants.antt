use Rattle.dispatch_engine.proofs.Common.{MarksServed}
use Rattle.dispatch_engine.proofs.outcome.left.chosen_marks.Given as goal

abbrev pub invariant-loop-vehicle : goal.invariant-loop-vehicle
invariant-loop-vehicle l = MarksServed l.graph l.chosen l.vehicle l.marks.items
