-- What a verdict says of an outcome.
use Rattle.std.specs.Prelude.{ℕ, ◌<◌}
use Rattle.request_book.specs.values.Batch.{Batch}
use Rattle.dispatch_engine.specs.outcome.Outcome.{IsOutcomeWith}
use Rattle.dispatch_engine.specs.outcome.Points.{Holds}
use Rattle.dispatch_engine.specs.declared.outcome.point.Point.{Point}
use Rattle.dispatch_engine.specs.declared.outcome.point.Point.TheVariants as point
use Rattle.request_book.specs.declared.values.outcome.Outcome.{Outcome}
use Rattle.rider_limits.specs.declared.settings.Settings.{Settings}
use Rattle.road_network.specs.Roads.{Roads}
use Rattle.report_audit.specs.declared.points.verdict.Verdict.{Verdict}
use Rattle.report_audit.specs.declared.points.verdict.Verdict.TheVariants.{Good, Fails}

-- the place of a point among the others
abbrev pub point_place : Point → ℕ
point_place point.Answer = 0
point_place point.Graphs = 1
point_place point.Late = 2
point_place point.Trips = 3
point_place point.Plan = 4
point_place point.Bound = 5
point_place point.Tree = 6
point_place point.Best = 7
point_place point.Moves = 8

-- the point holds of the outcome
abbrev pub Meets : Settings → Roads → Batch → Outcome → Point → Type 0
Meets settings roads batch outcome q = IsOutcomeWith settings roads batch (Holds settings q) outcome

-- of points of which these hold: all hold; or this one doesn't, and all before it do
abbrev pub IsVerdictOf : (Point → Type 0) → Verdict → Type 0
IsVerdictOf Holds' Good = (q : Point) → Holds' q
IsVerdictOf Holds' (Fails p) = ((q : Point) → point_place q < point_place p → Holds' q) × (Holds' p → ⊥)
