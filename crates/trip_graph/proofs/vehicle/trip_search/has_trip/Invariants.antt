use Rattle.std.proofs.Common.{ℕ, ◌-◌, ◌<◌, ◌≤◌, [], length, slice_index_or}
use Rattle.trip_graph.proofs.Common.{IsLower, trips_of}
use Rattle.trip_graph.proofs.vehicle.trip_search.has_trip.Given as goal

abbrev pub invariant-loop-low : goal.invariant-loop-low
invariant-loop-low l = record {
  order : l.low ≤ l.high;
  within : l.high ≤ length l.rows;
  before : (i : ℕ) → i < l.low → IsLower (slice_index_or (trips_of l.rows) i []) l.trip;
  after : (i : ℕ) → l.high ≤ i → i < length l.rows → IsLower l.trip (slice_index_or (trips_of l.rows) i []);
}

abbrev pub decreases-loop-low : goal.decreases-loop-low
decreases-loop-low l = l.high - l.low
