-- Where idle vehicles are sent.
use Rattle.std.specs.Prelude.{◌≡◌, ◌==◌, ℕ, ◌<◌, false, ◌&&◌, not, List, Option, map, filter, length, slice_index, AllPairs, Bool}
use Rattle.std.specs.Option.{option_map_or}
use Rattle.std.specs.List.{range_with_len}
use Rattle.plan_rules.specs.Graph.{Graph, choice_at, riders_at}
use Rattle.rebalancing.specs.Matching.{IsBestMatching, pair_seconds}
use Rattle.request_book.specs.declared.values.outcome.MoveLine.{MoveLine}
use Rattle.stop_orders.specs.task.Settled.{vehicle_at, rider_at}
use Rattle.stop_orders.specs.declared.task.settled.Settled.{Settled}
use Rattle.dispatch_engine.specs.outcome.Told.{rider_id}

-- the vehicles, rising, in which nobody is aboard, that aren't late, and whose chosen trip has no rider
abbrev pub idle_vehicles : Settled → Graph → List (Option ℕ) → List ℕ
idle_vehicles settled graph chosen = filter
    (λ v. (length (vehicle_at settled v).aboard.items == 0) && not (vehicle_at settled v).late
    && option_map_or (λ row. length (riders_at graph row) == 0) (choice_at chosen v) false)
    (range_with_len 0 (length settled.vehicles))

-- a best matching of idle vehicles to riders who were left out, by vehicle, with the seconds of each way
pub record AreMoves (tau : ℕ → ℕ → ℕ) (settled : Settled) (idle left : List ℕ) (moves : List MoveLine) : Type 0 where
  pub pairs : List (ℕ × ℕ)
  pub best : IsBestMatching tau (map (λ v. (vehicle_at settled v).start) idle) (map (λ r. (rider_at settled r).leg.origin) left) pairs
  pub rising : AllPairs (λ (p q : ℕ × ℕ). p.0 < q.0) pairs
  pub told : moves ≡ map (λ pair. record {
    vehicle = (vehicle_at settled (slice_index idle pair.0)).id;
    rider = rider_id settled (slice_index left pair.1);
    seconds = pair_seconds tau (map (λ v. (vehicle_at settled v).start) idle) (map (λ r. (rider_at settled r).leg.origin) left) pair;
  }) pairs

-- where vehicles are
abbrev pub starts_of : Settled → List ℕ → List ℕ
starts_of settled vehicles = map (λ v. (vehicle_at settled v).start) vehicles

-- where riders wait
abbrev pub origins_of : Settled → List ℕ → List ℕ
origins_of settled riders = map (λ r. (rider_at settled r).leg.origin) riders

-- a vehicle is idle where nobody is aboard, it isn't late, and its chosen trip has no rider
abbrev pub is_idle : Settled → Graph → List (Option ℕ) → ℕ → Bool
is_idle settled graph chosen v =
    (length (vehicle_at settled v).aboard.items == 0) && not (vehicle_at settled v).late
    && option_map_or (λ row. length (riders_at graph row) == 0) (choice_at chosen v) false

-- a pair of an idle vehicle and a rider who was left out
abbrev pub move_line : (ℕ → ℕ → ℕ) → Settled → List ℕ → List ℕ → ℕ × ℕ → MoveLine
move_line tau settled idle left pair = record {
  vehicle = (vehicle_at settled (slice_index idle pair.0)).id;
  rider = rider_id settled (slice_index left pair.1);
  seconds = pair_seconds tau (starts_of settled idle) (origins_of settled left) pair;
}

-- the move of a vehicle to a rider
abbrev pub move_from_to : (ℕ → ℕ → ℕ) → Settled → ℕ → ℕ → MoveLine
move_from_to tau settled v r = record {
  vehicle = (vehicle_at settled v).id;
  rider = rider_id settled r;
  seconds = tau (vehicle_at settled v).start (rider_at settled r).leg.origin;
}

-- vehicles stand and riders wait at places of a table of so many
pub record HasPlaces (points : ℕ) (settled : Settled) : Type 0 where
  pub vehicles : (v : ℕ) → v < length settled.vehicles → (vehicle_at settled v).start < points
  pub riders : (r : ℕ) → r < length settled.riders → (rider_at settled r).leg.origin < points
