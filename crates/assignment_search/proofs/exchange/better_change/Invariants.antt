use Rattle.std.proofs.Common.{ℕ, ◌<◌}
use Rattle.assignment_search.proofs.Common.{IsRowOf, BettersNothing}
use Rattle.assignment_search.proofs.exchange.better_change.Given as goal

abbrev pub invariant-loop-vehicle : goal.invariant-loop-vehicle
invariant-loop-vehicle l = (v k : ℕ) → v < l.vehicle → IsRowOf l.graph v k → BettersNothing l.graph l.plan v k
