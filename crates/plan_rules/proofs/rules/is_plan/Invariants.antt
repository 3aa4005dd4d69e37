use Rattle.std.proofs.Common.{ℕ, ◌<◌, MatchOption}
use Rattle.plan_rules.proofs.Common.{IsRowOf, HasNoRow, choice_at}
use Rattle.plan_rules.proofs.rules.is_plan.Given as goal

abbrev pub invariant-loop-vehicle : goal.invariant-loop-vehicle
invariant-loop-vehicle l = (v : ℕ) → v < l.vehicle → MatchOption (choice_at l.chosen v) (HasNoRow l.graph v) (IsRowOf l.graph v)
