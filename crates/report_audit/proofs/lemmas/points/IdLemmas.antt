-- In a snapshot nobody is in two places, so ids tell riders and passengers apart.
use Rattle.std.proofs.Common.{◌≡◌, ℕ, zero, suc, ◌+◌, ◌-◌, ◌<◌, List, [], ◌∷◌, ◌++◌, length, get_or, map, None, refl, sym, ap, ◌∙◌, subst, arith, rules}
use Rattle.report_audit.proofs.Common.{
  get_or_append_left,
  get_or-append_right,
  get_or-map,
  length-map,
  Batch,
  IsKept,
  IsOnce,
  riders_aboard,
  once_apart,
  IsPlaced,
  IsSettled,
  Settings,
  Settled,
  vehicle_at,
  rider_id,
  HasOwnIds,
}
use Rattle.std.specs.List.{flat_map}
use Rattle.std.proofs.lemmas.List.{ext_get_or}
use Rattle.stop_orders.specs.declared.task.settled_rider.SettledRider.{SettledRider}
use Rattle.stop_orders.specs.task.Settled.{no_rider as unsettled}
use Rattle.std.proofs.lemmas.List.{length-append}
use Rattle.std.proofs.lemmas.Option.{slice_get-get_or}
use Rattle.request_book.specs.declared.values.passenger.Passenger.{Passenger}
use Rattle.request_book.specs.declared.values.batch_rider.Rider.{Rider}
use Rattle.request_book.specs.declared.values.vehicle.Vehicle.{Vehicle}
use Rattle.report_audit.proofs.lemmas.points.IdleLemmas.{one_rider}

-- a list stands in another one from a place on
record StandsIn (part whole : List ℕ) : Type 0 where
  pub from : ℕ
  pub within : (j : ℕ) → j < length part → from + j < length whole
  pub at : (j : ℕ) → j < length part → get_or whole (from + j) 0 ≡ get_or part j 0

stands_behind : (front part whole : List ℕ) → StandsIn part whole → StandsIn part (front ++ whole)
stands_behind front part whole is = record {
  from = length front + is.from;
  within = λ j h. let w = is.within j h in let n = length-append front whole in omega (arith, w, n);
  at = λ j h.
      let place : length front + is.from + j - length front ≡ is.from + j = omega arith in
      get_or-append_right front whole (length front) (length front + is.from + j) 0 refl (omega arith) ∙ ap (λ (k : ℕ). get_or whole k 0) place ∙ is.at j h;
}

part_of : {X : Type 0} (f : X → List ℕ) (xs : List X) (v : ℕ) (d : X) → v < length xs → StandsIn (f (get_or xs v d)) (flat_map f xs)
part_of f [] v d h = absurd (omega arith)
part_of f (x ∷ xs) zero d h = search (rules, length-append, get_or_append_left)
part_of f (x ∷ xs) (suc v) d h = stands_behind (f x) (f (get_or xs v d)) (flat_map f xs) (part_of f xs v d (omega arith))

-- no id stands twice in a part either
once_in : (part whole : List ℕ) → IsOnce whole → StandsIn part whole → (i j : ℕ) → i < length part → j < length part → get_or part i 0 ≡ get_or part j 0 → i ≡ j
once_in part whole once is i j a b e = search rules

no_vehicle : Vehicle
no_vehicle = record { id = 0; seats = 0; node = 0; time = 0; aboard = record { items = [] } }

no_rider : Rider
no_rider = record { id = 0; origin = 0; destination = 0; time = 0; party = 1; promise = None }

abbrev aboard_of : Vehicle → List ℕ
aboard_of x = map (λ (p : Passenger). p.rider) x.aboard.items

module _ (settings : Settings) (points : List ℕ) (tau : ℕ → ℕ → ℕ) (batch : Batch) (settled : Settled) (kept : IsKept batch)
    (is : IsSettled settings points tau batch settled) where
  placed_at : (v : ℕ) → v < length settled.vehicles → IsPlaced settings points tau batch.sealed_at (get_or batch.vehicles v no_vehicle) (vehicle_at settled v)
  placed_at v h = is.placed v (get_or batch.vehicles v no_vehicle) (slice_get-get_or batch.vehicles v no_vehicle
      (let n = is.vehicle_count in omega (arith, n, h)))

  ids_at : (v : ℕ) → v < length settled.vehicles → (vehicle_at settled v).aboard_ids.items ≡ aboard_of (get_or batch.vehicles v no_vehicle)
  ids_at v h = (placed_at v h).aboard_ids

  stands_at : (v : ℕ) → v < length settled.vehicles → StandsIn (aboard_of (get_or batch.vehicles v no_vehicle)) (riders_aboard batch.vehicles)
  stands_at v h = part_of aboard_of batch.vehicles v no_vehicle (let n = is.vehicle_count in omega (arith, n, h))

  told_id : (r : ℕ) → r < length settled.riders → rider_id settled r ≡ get_or (map (λ (x : Rider). x.id) batch.riders) r 0
  told_id r h = search (rules, no_rider, slice_get-get_or, get_or-map)

  settled_id : (r : ℕ) → r < length settled.riders → get_or (map (λ (x : SettledRider). x.id) settled.riders) r 0 ≡ rider_id settled r
  settled_id r h = get_or-map (λ (x : SettledRider). x.id) settled.riders r unsettled 0 h

  same_ids : map (λ (x : SettledRider). x.id) settled.riders ≡ map (λ (x : Rider). x.id) batch.riders
  same_ids =
      let one = length-map settled.riders (λ (x : SettledRider). x.id) in
      let other = length-map batch.riders (λ (x : Rider). x.id) in
      ext_get_or 0 (map (λ (x : SettledRider). x.id) settled.riders) (map (λ (x : Rider). x.id) batch.riders) (one ∙ is.rider_count ∙ sym other)
      (λ r h. settled_id r (omega (arith, one, h)) ∙ told_id r (omega (arith, one, h)))

  apart_at : (v r j : ℕ) → v < length settled.vehicles → r < length settled.riders → j < length (vehicle_at settled v).aboard_ids.items →
      rider_id settled r ≡ get_or (vehicle_at settled v).aboard_ids.items j 0 → ⊥
  apart_at v r j h a b e =
      let ids = ids_at v h in
      let stands = stands_at v h in
      let riders : List ℕ = map (λ (x : Rider). x.id) batch.riders in
      let inside : j < length (aboard_of (get_or batch.vehicles v no_vehicle)) = subst (λ (xs : List ℕ). j < length xs) ids b in
      let all : List ℕ = riders_aboard batch.vehicles in
      let place : ℕ = length riders + (stands.from + j) in
      let long = length-map batch.riders (λ (x : Rider). x.id) in
      let whole = length-append riders all in
      let low : r < length riders = (let n = is.rider_count in omega (arith, n, a, long)) in
      let inner = stands.within j inside in
      let back : place - length riders ≡ stands.from + j = omega arith in
      let there : get_or (riders ++ all) place 0 ≡ get_or (aboard_of (get_or batch.vehicles v no_vehicle)) j 0 =
      get_or-append_right riders all (length riders) place 0 refl (omega arith) ∙ ap (λ (n : ℕ). get_or all n 0) back ∙ stands.at j inside in
      once_apart batch kept r place (omega (arith, low)) (omega (arith, whole, inner))
      (get_or_append_left riders all 0 r low ∙ sym (told_id r a) ∙ e ∙ ap (λ (xs : List ℕ). get_or xs j 0) ids ∙ sym there)

  pub own_ids : HasOwnIds settled
  own_ids = record {
    riders = λ r s a b e. one_rider settled (rw same_ids kept.riders_rise) r s a b e;
    counts = λ v h.
        let x = get_or batch.vehicles v no_vehicle in
        ap (λ (xs : List ℕ). length xs) (ids_at v h) ∙ length-map x.aboard.items (λ (p : Passenger). p.rider) ∙ sym (placed_at v h).aboard_count;
    passengers = λ v i j h a b e.
        let ids = ids_at v h in
        let riders : List ℕ = map (λ (x : Rider). x.id) batch.riders in
        once_in (aboard_of (get_or batch.vehicles v no_vehicle)) (riders ++ riders_aboard batch.vehicles) (once_apart batch kept)
        (stands_behind riders (aboard_of (get_or batch.vehicles v no_vehicle)) (riders_aboard batch.vehicles) (stands_at v h)) i j
        (subst (λ (xs : List ℕ). i < length xs) ids a) (subst (λ (xs : List ℕ). j < length xs) ids b)
        (sym (ap (λ (xs : List ℕ). get_or xs i 0) ids) ∙ e ∙ ap (λ (xs : List ℕ). get_or xs j 0) ids);
    apart = apart_at;
  }
