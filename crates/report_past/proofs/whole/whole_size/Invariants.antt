use Rattle.std.proofs.Common.{length}
use Rattle.report_past.specs.work.Walk.{Walked}
use Rattle.report_past.proofs.whole.whole_size.Given as goal

abbrev pub invariant-loop-line : goal.invariant-loop-line
invariant-loop-line l = Walked l.text l.rest l.inside l.kept

abbrev pub decreases-loop-line : goal.decreases-loop-line
decreases-loop-line l = length l.rest
