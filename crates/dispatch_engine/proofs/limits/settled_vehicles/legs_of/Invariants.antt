use Rattle.std.proofs.Common.{◌≡◌, ℕ, ◌<◌, length, take, Some}
use Rattle.dispatch_engine.proofs.Common.{travel_time, Passenger, IsLeg, leg_at, persons, IsShort, IsLegOf}
use Rattle.std.specs.List.{All, slice_get, sum_by}
use Rattle.dispatch_engine.proofs.limits.settled_vehicles.legs_of.Given as goal

abbrev pub invariant-loop-passenger : goal.invariant-loop-passenger
invariant-loop-passenger l = record {
  count : length l.legs.items ≡ l.passenger-index;
  each : (k : ℕ) (p : Passenger) → k < l.passenger-index → slice_get l.passengers k ≡ Some p
      → IsLegOf l.settings l.points (travel_time l.times) p.origin p.destination p.time p.party (leg_at l.legs.items k);
  valid : All (IsLeg (length l.points)) l.legs.items;
  short : All IsShort l.legs.items;
  party : persons l.legs.items ≡ sum_by (λ p. p.party) (take l.passenger-index l.passengers);
}
