use Rattle.std.proofs.Common.{◌≡◌, take, map, slice_index_or}
use Rattle.stop_orders.proofs.Common.{no_rider}
use Rattle.stop_orders.proofs.task.trip.legs_of.Given as goal

abbrev pub invariant-loop-rider : goal.invariant-loop-rider
invariant-loop-rider l = l.legs.items ≡ map (λ r. (slice_index_or l.riders r no_rider).leg) (take l.rider-index l.trip)
