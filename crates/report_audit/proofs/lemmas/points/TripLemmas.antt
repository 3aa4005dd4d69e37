-- Trips give one plan, if any.
use Rattle.std.proofs.lemmas.Bool.Decides.{nat_tests}
use Rattle.std.proofs.Common.{
  ◌≡◌,
  ◌↔◌,
  ℕ,
  ◌+◌,
  ◌<◌,
  ◌≤◌,
  not,
  Bool,
  true,
  false,
  List,
  [],
  ◌∷◌,
  ◌++◌,
  length,
  get_or,
  take,
  drop,
  filter,
  Contains,
  Option,
  Some,
  None,
  MatchOption,
  append_assoc,
  refl,
  sym,
  ap,
  ◌∙◌,
  subst,
  arith,
  rules,
}
use Rattle.report_audit.proofs.Common.{
  length-map,
  length_push,
  get_or_append_left,
  get_or_push,
  take_more,
  AllZip,
  get_or_default,
  Graph,
  IsPlan,
  IsRowOf,
  HasNoRow,
  choice_at,
  riders_at,
  no_row,
  AreTrips,
  ChosenTrip,
  PlannedStop,
  Settings,
  Settled,
  Stop,
  Pick,
  Drop,
  Alight,
  IsKnown,
  is_of_rider,
  IsTrip,
  trip_task,
  vehicle_at,
  rider_at,
  IsOrderOf,
  seconds_of,
  IsTripGraphOf,
  rider_id,
  told_stop,
  told_stops,
  IsTripOf,
  HasOwnIds,
  GivesTrips,
  TellsRow,
}
use Rattle.report_audit.proofs.lemmas.points.SortedLemmas.{has_head, has_later, same_rising}
use Rattle.report_audit.proofs.lemmas.points.GraphLemmas.{graph_in_order, one_place}
use borrow.Author.Count.{below_more}
use Rattle.std.proofs.lemmas.List.{append-nil, take_all}
use Rattle.plan_rules.proofs.lemmas.PlanLemmas.{plan_choice}
use Rattle.report_audit.proofs.lemmas.points.OrderLemmas.{known_at, told_here, told_long}
use Rattle.report_audit.proofs.lemmas.points.WalkLemmas.{passing, walk_end, walk_next, walk_skips, walk_stuck}

-- what a filter begins with stands in the list
filter_has : {X : Type 0} (R : X → X → Type 0) (p : X → Bool) (xs : List X) (y : X) (ys : List X) → filter p xs ≡ y ∷ ys → Contains xs y
filter_has R p [] y ys e = absurd (cc)
filter_has {X} R p (x ∷ xs) y ys e = grind (arith, nat_tests, (has_head R x xs), (has_later R x xs y), (filter_has R p xs y ys))

module _ (points : List ℕ) (tau : ℕ → ℕ → ℕ) (settled : Settled) (v : ℕ) (own : HasOwnIds settled) where
  -- a rider of the trip is told to be picked up
  rider_told : (trip : List ℕ) (stops : List Stop) (told : List PlannedStop) (d : PlannedStop) → IsOrderOf (trip_task settled v trip) stops →
      told ≡ told_stops points tau settled v trip stops → (i : ℕ) → i < length trip
      → (k : ℕ) × (k < length told) × ((get_or told k d).pick ≡ true) × ((get_or told k d).rider ≡ rider_id settled (get_or trip i 0))
  rider_told trip stops told d o is i h =
      let as_long = length-map trip (λ (r : ℕ). (rider_at settled r).leg) in
      let found = filter_has (λ (x y : Stop). ⊥) (is_of_rider i) stops (Pick i) (Drop i ∷ []) (o.rides i (omega (arith, as_long, h))) in
      let k = found.0 in
      let long : length told ≡ length stops = ap (λ (xs : List PlannedStop). length xs) is ∙ told_long points tau settled v trip stops in
      let within : k < length told = (let w = found.1 in omega (arith, w, long)) in
      let here = told_here settled v trip told k d within points tau stops is in
      let stop : get_or stops k (Pick 0) ≡ Pick i = get_or_default stops k (Pick 0) (Pick i) found.1 ∙ found.2 in
      let second = get_or (seconds_of tau (trip_task settled v trip) stops) k 0 in
      let tells : get_or told k d ≡ told_stop points settled v trip (Pick i, second) = here.1 ∙
      ap (λ (s : Stop). told_stop points settled v trip (s, second)) stop in
      (k, within, ap (λ (s : PlannedStop). s.pick) tells, ap (λ (s : PlannedStop). s.rider) tells)

  -- who is told to be picked up is a rider of the trip
  told_rider : (trip : List ℕ) (stops : List Stop) (told : List PlannedStop) (d : PlannedStop) → IsOrderOf (trip_task settled v trip) stops →
      told ≡ told_stops points tau settled v trip stops → (k : ℕ) → k < length told
      → (get_or told k d).pick ≡ true → (i : ℕ) × (i < length trip) × ((get_or told k d).rider ≡ rider_id settled (get_or trip i 0))
  told_rider trip stops told d o is k h pick =
      let here = told_here settled v trip told k d h points tau stops is in
      let known = known_at (length (trip_task settled v trip).riders.items) (length (vehicle_at settled v).aboard.items) stops k (Pick 0) o.known here.0 in
      by (get_or stops k (Pick 0)) (get_or (seconds_of tau (trip_task settled v trip) stops) k 0) known here.1
    where
      by : (s : Stop) (second : ℕ) → IsKnown (length (trip_task settled v trip).riders.items) (length (vehicle_at settled v).aboard.items) s →
          get_or told k d ≡ told_stop points settled v trip (s, second)
          → (i : ℕ) × (i < length trip) × ((get_or told k d).rider ≡ rider_id settled (get_or trip i 0))
      by (Pick i) second known tells = (
        i,
        let as_long = length-map trip (λ (r : ℕ). (rider_at settled r).leg) in omega (arith, as_long, known),
        ap
            (λ (s : PlannedStop). s.rider) tells,
      )
      by (Drop i) second known tells = absurd (let f : (get_or told k d).pick ≡ false = ap (λ (s : PlannedStop). s.pick) tells in let no : true ≡ false =
          sym pick ∙ f in cc)
      by (Alight i) second known tells = absurd (let f : (get_or told k d).pick ≡ false = ap (λ (s : PlannedStop). s.pick) tells in let no : true ≡ false =
          sym pick ∙ f in cc)

  rider_also : (trip other : List ℕ) (stops others : List Stop) (told : List PlannedStop) (d : PlannedStop) → IsTrip (length settled.riders) trip →
      IsTrip (length settled.riders) other
      → IsOrderOf (trip_task settled v trip) stops → IsOrderOf (trip_task settled v other) others → told ≡ told_stops points tau settled v trip stops →
      told ≡ told_stops points tau settled v other others
      → (r : ℕ) → Contains trip r → Contains other r
  rider_also trip other stops others told d is_trip is_other o p is also r found =
      let i = found.0 in let within : i < length trip = found.1 in
      let r_is : get_or trip i 0 ≡ r = get_or_default trip i 0 r within ∙ found.2 in
      let a = rider_told trip stops told d o is i within in
      let b = told_rider other others told d p also a.0 a.1 a.2 in
      let j = b.0 in let inside : j < length other = b.1 in
      let same : get_or trip i 0 ≡ get_or other j 0 = own.riders (get_or trip i 0) (get_or other j 0) (is_trip.within i 0 within) (is_other.within j 0 inside)
      (sym a.3 ∙ b.2) in
      (j, inside, sym (get_or_default other j 0 r inside) ∙ sym same ∙ r_is)

  pub one_trip : (trip other : List ℕ) (stops others : List Stop) (told : List PlannedStop) (d : PlannedStop) → IsTrip (length settled.riders) trip →
      IsTrip (length settled.riders) other
      → IsOrderOf (trip_task settled v trip) stops → IsOrderOf (trip_task settled v other) others → told ≡ told_stops points tau settled v trip stops →
      told ≡ told_stops points tau settled v other others
      → trip ≡ other
  one_trip trip other stops others told d is_trip is_other o p is also = search (rules, same_rising, rider_also)

module _ (points : List ℕ) (tau : ℕ → ℕ → ℕ) (settled : Settled) (graph : Graph) (trips : List ChosenTrip) where
  -- the trips from this place on are those of the vehicles from this one on
  abbrev pub AreLater : (v place : ℕ) → List (Option ℕ) → Type 0
  AreLater v place all = AllZip (IsTripOf points tau settled graph all) (passing (λ v. not (vehicle_at settled v).late) (length settled.vehicles) v)
      (drop place trips)

  -- what the vehicles before this one are given, by the trips before this place
  pub record IsPlanSoFar (v place : ℕ) (chosen : List (Option ℕ)) : Type 0 where
    pub sized : length chosen ≡ v
    pub own : (w : ℕ) → w < v → MatchOption (choice_at chosen w) (HasNoRow graph w) (IsRowOf graph w)
    pub only : (all : List (Option ℕ)) → IsPlan graph all → AreTrips points tau settled graph all trips → (take v all ≡ chosen) × AreLater v place all
    pub given : (later : List (Option ℕ)) → AreLater v place (chosen ++ later) → AreTrips points tau settled graph (chosen ++ later) trips

no_stop : PlannedStop
no_stop = record { pick = false; rider = 0; node = 0; second = 0 }

module _ (points : List ℕ) (settings : Settings) (tau : ℕ → ℕ → ℕ) (settled : Settled) (graph : Graph) (own : HasOwnIds settled)
    (exact : IsTripGraphOf settings tau settled graph) where
  row_trip : (k : ℕ) → k < length graph.rows → IsTrip (length settled.riders) (riders_at graph k)
  row_trip k h = (exact.right k no_row h).served.riders

  pub one_row : (v j k : ℕ) (trip : ChosenTrip) → IsRowOf graph v j → IsRowOf graph v k → TellsRow points tau settled graph v j trip →
      TellsRow points tau settled graph v k trip → j ≡ k
  one_row v j k trip a b one other =
      let same : riders_at graph j ≡ riders_at graph k =
      one_trip points tau settled v own (riders_at graph j) (riders_at graph k) one.stops other.stops trip.stops.items no_stop (row_trip j a.within)
      (row_trip k b.within) one.serves.order other.serves.order one.told other.told in
      one_place graph.rows (graph_in_order settings tau settled graph exact) v (riders_at graph k) j k
      (record { within = a.within; own = a.own; trip = same }) (record { within = b.within; own = b.own; trip = refl })

  pub no_row_of_late : (v : ℕ) → v < length settled.vehicles → (vehicle_at settled v).late ≡ true → HasNoRow graph v
  no_row_of_late v h late = search rules

  pub no_choice : (v : ℕ) → HasNoRow graph v → (c : Option ℕ) → MatchOption c (HasNoRow graph v) (IsRowOf graph v) → c ≡ None
  no_choice v none None own' = refl
  no_choice v none (Some k) own' = absurd (none k own')

  pub tells_of : (chosen : List (Option ℕ)) (v : ℕ) (trip : ChosenTrip) (of : IsTripOf points tau settled graph chosen v trip) →
      TellsRow points tau settled graph v of.row trip
  tells_of chosen v trip of = record { vehicle = of.vehicle; cost = of.cost; stops = of.stops; serves = of.serves; delay = of.delay; told = of.told }

  module _ (trips : List ChosenTrip) where
    pub trips_over : (v place : ℕ) (chosen : List (Option ℕ)) → length settled.vehicles ≤ v → IsPlanSoFar points tau settled graph trips v place chosen →
        place < length trips
        → (all : List (Option ℕ)) → IsPlan graph all → AreTrips points tau settled graph all trips → ⊥
    trips_over v place chosen end is more all plan given = search (rules, walk_end)

    pub plan_made : (v place : ℕ) (chosen : List (Option ℕ)) → length settled.vehicles ≤ v → v ≤ length settled.vehicles → length trips ≤ place →
        IsPlanSoFar points tau settled graph trips v place chosen → GivesTrips points tau settled graph chosen trips
    plan_made v place chosen end most past is = record {
      plan = record {
        sized = is.sized ∙ (let n = exact.vehicle_total in omega (arith, n, end, most));
        own =
            λ w h. is.own w (let n = exact.vehicle_total in omega (arith, n, h, end));
      };
      trips_given = subst (λ (all : List (Option ℕ)). AreTrips points tau settled graph all trips) (append-nil chosen)
          (is.given [] ((walk_end (IsTripOf points tau settled graph (chosen ++ [])) (λ v. not (vehicle_at settled v).late) (length settled.vehicles) v trips
          place end).1 past));
      only = λ other plan given. sym (is.only other plan given).0 ∙ take_all v other (let n = exact.vehicle_total in let m =
          plan.sized in omega (arith, n, m, end));
    }

    module _ (v place : ℕ) (chosen : List (Option ℕ)) (low : v < length settled.vehicles) (is : IsPlanSoFar points tau settled graph trips v place chosen) where
      inside : v < graph.vehicles
      inside = let n = exact.vehicle_total in omega (arith, n, low)

      -- one more vehicle
      given_next : (next : ℕ) (choice : Option ℕ) → MatchOption choice (HasNoRow graph v) (IsRowOf graph v)
          → ((all : List (Option ℕ)) → IsPlan graph all → AreLater points tau settled graph trips v place all →
          (choice_at all v ≡ choice) × AreLater points tau settled graph trips (v + 1) next all)
          → ((all : List (Option ℕ)) → choice_at all v ≡ choice → AreLater points tau settled graph trips (v + 1) next all →
          AreLater points tau settled graph trips v place all) → IsPlanSoFar points tau settled graph trips (v + 1) next (chosen ++ choice ∷ [])
      given_next next choice rightly forth back = search (rules, length_push, below_more, get_or_append_left, get_or_push, take_more, append_assoc)

      pub late_next : (vehicle_at settled v).late ≡ true → IsPlanSoFar points tau settled graph trips (v + 1) place (chosen ++ None ∷ [])
      late_next late =
          let none = no_row_of_late v low late in
          let same = walk_skips (λ v. not (vehicle_at settled v).late) (length settled.vehicles) v low (ap not late) in
          given_next place None none (λ all plan later. (no_choice v none (choice_at all v) (plan.own v inside), rw same at later))
          (λ all at later. rw same later)

      module _ (timely : (vehicle_at settled v).late ≡ false) where
        pub no_trip : length trips ≤ place → (all : List (Option ℕ)) → IsPlan graph all → AreTrips points tau settled graph all trips → ⊥
        no_trip past all plan given = search (rules, walk_stuck)

        module _ (trip : ChosenTrip) (within : place < length trips) (at : trip ≡ get_or trips place trip) where
          here : (all : List (Option ℕ)) → AreLater points tau settled graph trips v place all ↔
              (IsTripOf points tau settled graph all v trip × AreLater points tau settled graph trips (v + 1) (place + 1) all)
          here all = walk_next (IsTripOf points tau settled graph all) (λ v. not (vehicle_at settled v).late) (length settled.vehicles) v trips place low
              (ap not timely) trip within at

          pub no_row_told : ((row : ℕ) → IsRowOf graph v row → TellsRow points tau settled graph v row trip → ⊥) → (all : List (Option ℕ)) → IsPlan graph all →
              AreTrips points tau settled graph all trips → ⊥
          no_row_told none all plan given = search (rules, here, plan_choice, tells_of)

          pub trip_next : (row : ℕ) → IsRowOf graph v row → TellsRow points tau settled graph v row trip →
              IsPlanSoFar points tau settled graph trips (v + 1) (place + 1) (chosen ++ Some row ∷ [])
          trip_next row row_is tells = given_next (place + 1) (Some row) row_is
              (λ all plan later.
              let both = (here all).0 later in let of = both.0 in (
                of.chooses ∙ ap (λ (k : ℕ). Some k) (one_row v of.row row trip (plan_choice graph all v of.row plan inside of.chooses) row_is
                    (tells_of all v trip of) tells),
                both.1,
              ))
              (λ all chooses later. (here all).1 (
                record {
                  row = row;
                  chooses = chooses;
                  vehicle = tells.vehicle;
                  cost = tells.cost;
                  stops = tells.stops;
                  serves = tells.serves;
                  delay =
                      tells.delay;
                  told = tells.told;
                },
                later,
              ))
