-- Orders are read back from what is told of them.
use Rattle.std.proofs.Common.{◌≡◌, ℕ, ◌+◌, ◌<◌, ◌≤◌, List, [], ◌∷◌, ◌++◌, length, get_or, map, zip, take, refl, sym, ap, ◌∙◌, subst, arith, rules}
use Rattle.report_audit.proofs.Common.{
  get_or-map,
  length-map,
  AllByRecursion,
  take_more,
  length_push,
  PlannedStop,
  Settled,
  Stop,
  Pick,
  IsKnown,
  trip_task,
  vehicle_at,
  rider_at,
  IsOrderOf,
  seconds_of,
  told_stop,
  told_stops,
}
use Rattle.std.proofs.lemmas.List.{take_all}
use Rattle.std.proofs.lemmas.List.Elements.{All-from_recursion}
use Rattle.std.proofs.lemmas.Slice.Zip.{get_or-zip, length-zip}
use Rattle.stop_orders.specs.declared.task.visit.Visit.{Visit}
use Rattle.stop_orders.specs.task.Visit.{place_of, seconds_from}
use Rattle.stop_orders.proofs.lemmas.task.DoneLemmas.{length-IsOrder}

zip_at : {A B C : Type 0} (f : A × B → C) (xs : List A) (ys : List B) (k : ℕ) (a : A) (b : B) (d : C) → k < length xs → length ys ≡ length xs →
    get_or (map f (zip xs ys)) k d ≡ f (get_or xs k a, get_or ys k b)
zip_at f xs ys k a b d h e = get_or-map f (zip xs ys) k (a, b) d (omega (arith, length-zip xs ys)) ∙ ap f (get_or-zip xs ys k (a, b) h (omega arith))

zip_long : {A B C : Type 0} (f : A × B → C) (xs : List A) (ys : List B) → length ys ≡ length xs → length (map f (zip xs ys)) ≡ length xs
zip_long f xs ys e = omega (arith, length-map (zip xs ys) f, length-zip xs ys)

seconds_long : (tau : ℕ → ℕ → ℕ) (dwell place free : ℕ) (vs : List Visit) → length (seconds_from tau dwell place free vs) ≡ length vs
seconds_long tau dwell place free [] = refl
seconds_long tau dwell place free (v ∷ vs) = let rest = seconds_long tau dwell (place_of v) (free + tau place (place_of v) + dwell) vs in omega (arith, rest)

pub known_at : (riders passengers : ℕ) (stops : List Stop) (k : ℕ) (d : Stop) → AllByRecursion (IsKnown riders passengers) stops → k < length stops →
    IsKnown riders passengers (get_or stops k d)
known_at riders passengers stops k d all h = All-from_recursion (IsKnown riders passengers) stops all k d h

module _ (points : List ℕ) (tau : ℕ → ℕ → ℕ) (settled : Settled) (v : ℕ) (trip : List ℕ) (stops : List Stop) where
  seconds_as_long : length (seconds_of tau (trip_task settled v trip) stops) ≡ length stops
  seconds_as_long = search (rules, seconds_long, length-map)

  pub told_long : length (told_stops points tau settled v trip stops) ≡ length stops
  told_long = zip_long (told_stop points settled v trip) stops (seconds_of tau (trip_task settled v trip) stops) seconds_as_long

  pub told_at : (k : ℕ) (d : PlannedStop) (s : Stop) → k < length stops → get_or (told_stops points tau settled v trip stops) k d ≡ told_stop points settled v
      trip (get_or stops k s, get_or (seconds_of tau (trip_task settled v trip) stops) k 0)
  told_at k d s h = zip_at (told_stop points settled v trip) stops (seconds_of tau (trip_task settled v trip) stops) k s 0 d h seconds_as_long

-- what was read so far of the told stops
pub record ReadsBack (settled : Settled) (v : ℕ) (trip : List ℕ) (told : List PlannedStop) (k : ℕ) (order : List Stop) : Type 0 where
  pub long : length order ≡ k
  pub back : (points : List ℕ) (tau : ℕ → ℕ → ℕ) (stops : List Stop) → IsOrderOf (trip_task settled v trip) stops →
      told ≡ told_stops points tau settled v trip stops → order ≡ take k stops

module _ (settled : Settled) (v : ℕ) (trip : List ℕ) (told : List PlannedStop) where
  -- the told stop at a place, of an order that is told so
  pub told_here : (k : ℕ) (d : PlannedStop) → k < length told → (points : List ℕ) (tau : ℕ → ℕ → ℕ) (stops : List Stop) →
      told ≡ told_stops points tau settled v trip stops
      → (k < length stops) × (get_or told k d ≡ told_stop points settled v trip (
        get_or stops k (Pick 0),
        get_or
            (seconds_of tau (trip_task settled v trip) stops) k 0,
      ))
  told_here k d h points tau stops is =
      let long : length told ≡ length stops = ap (λ (xs : List PlannedStop). length xs) is ∙ told_long points tau settled v trip stops in
      let within : k < length stops = omega (arith, long) in
      (within, ap (λ (xs : List PlannedStop). get_or xs k d) is ∙ told_at points tau settled v trip stops k d (Pick 0) within)

  pub read_next : (k : ℕ) (d : PlannedStop) (order : List Stop) (next : Stop) → k < length told → ReadsBack settled v trip told k order
      → ((points : List ℕ) (stop : Stop) (second : ℕ) → IsKnown (length trip) (length (vehicle_at settled v).aboard.items) stop →
      get_or told k d ≡ told_stop points settled v trip (stop, second) → next ≡ stop)
      → ReadsBack settled v trip told (k + 1) (order ++ next ∷ [])
  read_next k d order next h so_far reads = record {
    long = (let n = so_far.long in let m = length_push order next in omega (arith, n, m));
    back = λ points tau stops o is.
        let here = told_here k d h points tau stops is in
        let known : IsKnown (length trip) (length (vehicle_at settled v).aboard.items) (get_or stops k (Pick 0)) =
        subst (λ (n : ℕ). IsKnown n (length (vehicle_at settled v).aboard.items) (get_or stops k (Pick 0)))
        (length-map trip (λ (r : ℕ). (rider_at settled r).leg))
        (known_at (length (trip_task settled v trip).riders.items) (length (vehicle_at settled v).aboard.items) stops k (Pick 0) o.known here.0) in
        let same = reads points (get_or stops k (Pick 0)) (get_or (seconds_of tau (trip_task settled v trip) stops) k 0) known here.1 in
        let within = here.0 in
        ap (λ (xs : List Stop). xs ++ next ∷ []) (so_far.back points tau stops o is) ∙ ap (λ (s : Stop). take k stops ++ s ∷ []) same ∙
        sym (take_more stops k (Pick 0) within);
  }

  -- where nothing is read, no order is told so
  pub read_stuck : (k : ℕ) (d : PlannedStop) → k < length told
      → ((points : List ℕ) (stop : Stop) (second : ℕ) → IsKnown (length trip) (length (vehicle_at settled v).aboard.items) stop →
      get_or told k d ≡ told_stop points settled v trip (stop, second) → ⊥)
      → (points : List ℕ) (tau : ℕ → ℕ → ℕ) (stops : List Stop) → IsOrderOf (trip_task settled v trip) stops →
      told ≡ told_stops points tau settled v trip stops → ⊥
  read_stuck k d h reads points tau stops o is =
      let here = told_here k d h points tau stops is in
      let known : IsKnown (length trip) (length (vehicle_at settled v).aboard.items) (get_or stops k (Pick 0)) =
      subst (λ (n : ℕ). IsKnown n (length (vehicle_at settled v).aboard.items) (get_or stops k (Pick 0)))
      (length-map trip (λ (r : ℕ). (rider_at settled r).leg))
      (known_at (length (trip_task settled v trip).riders.items) (length (vehicle_at settled v).aboard.items) stops k (Pick 0) o.known here.0) in
      reads points (get_or stops k (Pick 0)) (get_or (seconds_of tau (trip_task settled v trip) stops) k 0) known here.1

  -- more stops are told than an order has
  pub read_too_many : length trip ≤ 6 → length (vehicle_at settled v).aboard.items ≤ 10 → 22 < length told
      → (points : List ℕ) (tau : ℕ → ℕ → ℕ) (stops : List Stop) → IsOrderOf (trip_task settled v trip) stops →
      told ≡ told_stops points tau settled v trip stops → ⊥
  read_too_many few passengers more points tau stops o is =
      let long : length told ≡ length stops = ap (λ (xs : List PlannedStop). length xs) is ∙ told_long points tau settled v trip stops in
      let riders = length-map trip (λ (r : ℕ). (rider_at settled r).leg) in
      let short = length-IsOrder (length (trip_task settled v trip).riders.items) (length (vehicle_at settled v).aboard.items) stops
      (omega (arith, riders, few)) o in
      omega (arith, long, short, riders, few, passengers, more)

  pub read_all : (order : List Stop) → ReadsBack settled v trip told (length told) order
      → (points : List ℕ) (tau : ℕ → ℕ → ℕ) (stops : List Stop) → IsOrderOf (trip_task settled v trip) stops →
      told ≡ told_stops points tau settled v trip stops → order ≡ stops
  read_all order done points tau stops o is =
      let long : length told ≡ length stops = ap (λ (xs : List PlannedStop). length xs) is ∙ told_long points tau settled v trip stops in
      done.back points tau stops o is ∙ take_all (length told) stops (omega (arith, long))
