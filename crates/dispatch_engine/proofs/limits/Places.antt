use Rattle.std.proofs.Common.{ℕ, zero, suc, ◌<◌, List, [], ◌∷◌, length, get_or, refl, arith}
use Rattle.dispatch_engine.proofs.Common.{Contains-append_left, Contains-append_right, Passenger, Rider, Batch, ArePoints, IsBetweenPlaces, HasVehiclePlaces}
use Rattle.std.specs.List.{All, Contains, flat_map}
use Rattle.request_book.specs.lemmas.Points.{vehicle_nodes, rider_nodes}

in_flat_map : {X : Type 0} (f : X → List ℕ) (xs : List X) (k : ℕ) (d : X) (y : ℕ) → k < length xs → Contains (f (get_or xs k d)) y → Contains (flat_map f xs) y
in_flat_map f [] k d y h c = absurd (omega arith)
in_flat_map f (x ∷ xs) zero d y h c = Contains-append_left (f x) (flat_map f xs) y c
in_flat_map f (x ∷ xs) (suc k) d y h c = Contains-append_right (f x) (flat_map f xs) y (in_flat_map f xs k d y (omega arith) c)

module _ (b : Batch) (points : List ℕ) (p : ArePoints b points) where
  -- the riders' places
  pub rider_places : All (λ (r : Rider). IsBetweenPlaces points r.origin r.destination) b.riders
  rider_places k d h =
      let r = get_or b.riders k d in
      let named = λ (y : ℕ) (c : Contains (rider_nodes r) y). (p.named y).1 (Contains-append_right (flat_map vehicle_nodes b.vehicles)
      (flat_map rider_nodes b.riders) y (in_flat_map rider_nodes b.riders k d y h c)) in
      record { origin_named = named r.origin (0, omega arith, refl); destination_named = named r.destination (1, omega arith, refl) }

  -- the vehicles' places
  pub vehicle_places : All (HasVehiclePlaces points) b.vehicles
  vehicle_places k d h =
      let v = get_or b.vehicles k d in
      let named = λ (y : ℕ) (c : Contains (vehicle_nodes v) y). (p.named y).1 (Contains-append_left (flat_map vehicle_nodes b.vehicles)
      (flat_map rider_nodes b.riders) y (in_flat_map vehicle_nodes b.vehicles k d y h c)) in
      record {
        node = named v.node (0, omega arith, refl);
        aboard = λ i e lt.
            let passenger_nodes = λ (q : Passenger). q.origin ∷ q.destination ∷ [] in
            let q = get_or v.aboard.items i e in
            let there = λ (y : ℕ) (c : Contains (passenger_nodes q) y).
            named y (Contains-append_right (v.node ∷ []) (flat_map passenger_nodes v.aboard.items) y (in_flat_map passenger_nodes v.aboard.items i e y lt c)) in
            record { origin_named = there q.origin (0, omega arith, refl); destination_named = there q.destination (1, omega arith, refl) };
      }
