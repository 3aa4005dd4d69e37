use Rattle.std.proofs.Common.{◌≡◌, take}
use Rattle.request_book.proofs.values.vehicle.copied_passengers.Given as goal

abbrev pub invariant-loop-passenger : goal.invariant-loop-passenger
invariant-loop-passenger l = l.copy.items ≡ take l.passenger-index l.passenger-items
