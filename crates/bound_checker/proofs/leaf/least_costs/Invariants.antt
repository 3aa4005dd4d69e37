use Rattle.bound_checker.proofs.Common.{usable_of, AreLeast}
use Rattle.bound_checker.proofs.leaf.least_costs.Given as goal

abbrev pub invariant-loop-place : goal.invariant-loop-place
invariant-loop-place l = AreLeast l.graph (usable_of l.allowed) l.multipliers l.place l.least.items
