use Rattle.std.proofs.Common.{◌≡◌, ℕ, ◌<◌, length, Some, slice_index_or}
use Rattle.dispatch_engine.proofs.Common.{travel_time, Rider, no_rider, IsPlainRider}
use Rattle.std.specs.List.{slice_get}
use Rattle.dispatch_engine.proofs.limits.requests.plain_riders.Given as goal

abbrev pub invariant-loop-request : goal.invariant-loop-request
invariant-loop-request l = record {
  count : length l.riders.items ≡ l.request-index;
  each : (k : ℕ) (x : Rider) → k < l.request-index → slice_get l.requests k ≡ Some x → IsPlainRider l.settings l.points (travel_time l.times) x
      (slice_index_or l.riders.items k no_rider);
}
