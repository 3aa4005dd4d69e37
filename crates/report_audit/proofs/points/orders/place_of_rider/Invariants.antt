use Rattle.std.proofs.Common.{◌≡◌, ℕ, ◌<◌}
use Rattle.std.specs.Prelude.{slice_index}
use Rattle.dispatch_engine.specs.outcome.Told.{rider_id}
use Rattle.report_audit.proofs.points.orders.place_of_rider.Given as goal

abbrev pub invariant-loop-place : goal.invariant-loop-place
invariant-loop-place l = (i : ℕ) → i < l.place → rider_id l.settled (slice_index l.riders i) ≡ l.id → ⊥
