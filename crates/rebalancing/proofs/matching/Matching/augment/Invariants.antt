use Rattle.rebalancing.proofs.Common.{IsSameProblem, IsOpenMatching}
use Rattle.rebalancing.proofs.matching.Matching.augment.Given as goal

abbrev pub invariant-loop-position : goal.invariant-loop-position
invariant-loop-position l = IsOpenMatching l.self l.tree l.rider l.position × IsSameProblem l.initial.self l.self

abbrev pub decreases-loop-position : goal.decreases-loop-position
decreases-loop-position l = l.position
