-- What can be told, point by point.
use Rattle.std.proofs.Common.{ℕ, ◌<◌}
use Rattle.report_audit.proofs.Common.{CanBeTold, BlockLists}
use Rattle.report_audit.proofs.lemmas.points.VerdictLemmas.{HoldBelow}
use Rattle.dispatch_engine.specs.declared.outcome.point.Point.TheVariants as point

module _ (t : BlockLists) where
  -- where the points that ask something of the lines can be told before a place, all can
  pub told_below : (place : ℕ) → (1 < place → CanBeTold point.Graphs t) → (2 < place → CanBeTold point.Late t) → (3 < place → CanBeTold point.Trips t) →
      (5 < place → CanBeTold point.Bound t)
      → HoldBelow (λ q. CanBeTold q t) place
  told_below place rows late trips tree point.Graphs less = rows less
  told_below place rows late trips tree point.Late less = late less
  told_below place rows late trips tree point.Trips less = trips less
  told_below place rows late trips tree point.Bound less = tree less
  told_below place rows late trips tree q less = tt
