use Rattle.std.proofs.Common.{◌≡◌, ℕ, ◌<◌}
use Rattle.std.specs.Prelude.{slice_index}
use Rattle.dispatch_engine.specs.lemmas.outcome.Named.{vehicle_id}
use Rattle.report_audit.proofs.points.moves.place_of_vehicle.Given as goal

abbrev pub invariant-loop-place : goal.invariant-loop-place
invariant-loop-place l = (i : ℕ) → i < l.place → vehicle_id l.settled (slice_index l.idle i) ≡ l.id → ⊥
