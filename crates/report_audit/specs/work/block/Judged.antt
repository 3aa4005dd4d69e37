-- The first point that fails, of two lists of points.
use Rattle.std.specs.Prelude.{◌≡◌, ℕ, ◌<◌, List}
use Rattle.arrayvec.specs.ArrayVec.{ArrayVec}
use Rattle.report_audit.specs.points.Verdict.{point_place}
use Rattle.dispatch_engine.specs.declared.outcome.point.Point.{Point}
use Rattle.request_book.specs.declared.values.outcome.PlannedStop.{PlannedStop}
use Rattle.report_audit.specs.block.Judged.{at_most}

-- the points before this place hold, and where it is a point's, that point doesn't
pub record HoldUpTo (Holds' : Point → Type 0) (place : ℕ) : Type 0 where
  pub before : (q : Point) → point_place q < place → Holds' q
  pub there : place < 9 → (q : Point) × (point_place q ≡ place) × (Holds' q → ⊥)

-- at most so many stops, and none in place of more
abbrev pub stops_of : ℕ → List PlannedStop → ArrayVec PlannedStop
stops_of most stops = record { items = at_most most stops }
