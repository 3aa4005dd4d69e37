use Rattle.std.proofs.Common.{arith}
use Rattle.assignment_search.proofs.Common.{ints}
use Rattle.assignment_search.proofs.child.best_of.Goals as goal

pub returns-clause-inherited : goal.returns-clause-inherited
returns-clause-inherited c = omega (arith, ints, c.in_ok-best.ensures.inherited, c.better_of.ensures.best)
