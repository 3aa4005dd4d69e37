-- Stops that are reached by shortest walks, as visits of a task over a table of travel times.
use Rattle.std.proofs.lemmas.Bool.Decides.{nat_tests}
use Rattle.std.proofs.Common.{
  ◌≡◌,
  ℕ,
  ◌+◌,
  ◌<◌,
  ◌≤◌,
  Bool,
  true,
  cond,
  ltb,
  List,
  [],
  ◌∷◌,
  length,
  get_or,
  map,
  filter,
  Some,
  sym,
  ap,
  ◌∙◌,
  subst,
  arith,
  inl,
  inr,
  slice_get,
}
use Rattle.route_drive.proofs.Common.{
  AllByRecursion,
  cases_Bool,
  get_or-map,
  length-map,
  slice_get_within,
  get_or_from_slice_get,
  never,
  IsTravelTime,
  travel_time,
  Times,
  ideal_second,
  PlannedStop,
  BookRider,
  Roads,
  index_in,
  IsTimeBetween,
  AtLeastAsSoon,
  soon_over,
  soon_there,
  Stop,
  Visit,
  place_of,
  boarding_of,
  room_after,
  ServesFrom,
  AreTravelTimes,
  ideal_dropoff,
  AreReached,
  party_at,
  HasSeatsFor,
}
use Rattle.stop_orders.specs.declared.task.visit.Visit.TheVariants.{Pickup, Dropoff}
use Rattle.route_drive.proofs.kept.Lists.{takes, skips}
use Rattle.route_drive.proofs.kept.Walks.{between_unique}

-- a visit that is a stop over these points: at its node, not after its latest second, of its party
pub record IsSeen (points : List ℕ) (riders : List BookRider) (stop : PlannedStop) (visit : Visit) : Type 0 where
  pub place : ℕ
  pub latest : ℕ
  pub ideal : ℕ
  pub node : slice_get points place ≡ Some stop.node
  pub in_time : stop.second ≤ latest
  pub is : visit ≡ cond stop.pick (Pickup place latest (party_at riders stop)) (Dropoff place latest ideal (party_at riders stop))

module _ (roads : Roads) (points : List ℕ) (times : Times) (table : AreTravelTimes roads.arcs (map (index_in roads.nodes) points) times) where
  -- the travel time between two points is that of the network
  pub time_between : (i j a b : ℕ) → slice_get points i ≡ Some a → slice_get points j ≡ Some b →
      IsTimeBetween roads.arcs (index_in roads.nodes a) (index_in roads.nodes b) (travel_time times i j)
  time_between i j a b at_i at_j =
      let li : i < length points = slice_get_within points i a at_i in
      let lj : j < length points = slice_get_within points j b at_j in
      let n : length (map (index_in roads.nodes) points) ≡ length points = length-map points (index_in roads.nodes) in
      let ei : get_or (map (index_in roads.nodes) points) i 0 ≡ index_in roads.nodes a = get_or-map (index_in roads.nodes) points i 0 0 li ∙
      ap (index_in roads.nodes) (get_or_from_slice_get points i a 0 at_i) in
      let ej : get_or (map (index_in roads.nodes) points) j 0 ≡ index_in roads.nodes b = get_or-map (index_in roads.nodes) points j 0 0 lj ∙
      ap (index_in roads.nodes) (get_or_from_slice_get points j b 0 at_j) in
      subst (λ p. IsTimeBetween roads.arcs p (index_in roads.nodes b) (travel_time times i j)) ei
      (subst (λ q. IsTimeBetween roads.arcs (get_or (map (index_in roads.nodes) points) i 0) q (travel_time times i j)) ej
      (table.cells i j (omega arith) (omega arith)))

  pub time_is : (i j a b s : ℕ) → slice_get points i ≡ Some a → slice_get points j ≡ Some b →
      IsTimeBetween roads.arcs (index_in roads.nodes a) (index_in roads.nodes b) s → travel_time times i j ≡ s
  time_is i j a b s at_i at_j is = between_unique roads.arcs (index_in roads.nodes a) (index_in roads.nodes b) (travel_time times i j) s
      (time_between i j a b at_i at_j) is

  -- the ideal second by the table is that by the network
  pub ideal_is : (i j a b s time : ℕ) → slice_get points i ≡ Some a → slice_get points j ≡ Some b →
      IsTimeBetween roads.arcs (index_in roads.nodes a) (index_in roads.nodes b) s → ideal_second (travel_time times) time i j ≡ ideal_dropoff time s
  ideal_is i j a b s time at_i at_j is = ap (λ t. cond (ltb t never) (time + t) time) (time_is i j a b s at_i at_j is)

  -- stops that are reached and find their seats, as visits, serve
  pub serves_by_table : (riders : List BookRider) (dwell : ℕ) (vis : PlannedStop → Visit) (stops : List PlannedStop) (place node free room : ℕ) →
      slice_get points place ≡ Some node
      → AreReached roads dwell node free stops → HasSeatsFor riders room stops → AllByRecursion (λ stop. IsSeen points riders stop (vis stop)) stops
      → ServesFrom (travel_time times) dwell place free room (map vis stops)
  serves_by_table riders dwell vis [] place node free room at reached seats seen = tt
  serves_by_table riders dwell vis (stop ∷ stops) place node free room at reached seats seen =
      grind (
        arith,
        nat_tests,
        (time_is place seen.0.place node stop.node reached.0.seconds at seen.0.node (inl reached.0.least)),
        (serves_by_table riders dwell vis stops seen.0.place stop.node (stop.second + dwell)),
      )

-- of a serving order, the stops where nobody gets in serve without the others
pub sub_serves : (points : ℕ) (tau : ℕ → ℕ → ℕ) (dwell : ℕ) (vis : Stop → Visit) (keep : Stop → Bool) → IsTravelTime points tau →
    ((s : Stop) → keep s ≡ true → boarding_of (vis s) ≡ 0)
    → (stops : List Stop) (p f room q g other : ℕ) → AtLeastAsSoon tau p f q g → ServesFrom tau dwell q g other (map vis stops) →
    ServesFrom tau dwell p f room (map vis (filter keep stops))
sub_serves points tau dwell vis keep travel nobody [] p f room q g other soon serves = tt
sub_serves points tau dwell vis keep travel nobody (s ∷ stops) p f room q g other soon serves =
    let sooner = soon.soon (place_of (vis s)) serves.0 in
    elim (cases_Bool (keep s)) [
      | inl k ↦
          subst (λ ss. ServesFrom tau dwell p f room (map vis ss)) (sym (takes keep s stops k)) (
            sooner.0,
            omega (arith, sooner.1, serves.1),
            omega (arith, nobody s k),
            sub_serves points tau dwell vis keep travel nobody stops (place_of (vis s)) (f + tau p (place_of (vis s)) + dwell) (room_after (vis s) room)
                (place_of (vis s)) (g + tau q (place_of (vis s)) + dwell) (room_after (vis s) other)
                (soon_there tau (place_of (vis s)) (f + tau p (place_of (vis s)) + dwell) (g + tau q (place_of (vis s)) + dwell) (omega (arith, sooner.1)))
                serves.3,
          )
      | inr k ↦
          subst (λ ss. ServesFrom tau dwell p f room (map vis ss)) (sym (skips keep s stops k))
          (sub_serves points tau dwell vis keep travel nobody stops p f room (place_of (vis s)) (g + tau q (place_of (vis s)) + dwell)
          (room_after (vis s) other)
          (soon_over points tau travel p f (place_of (vis s)) (g + tau q (place_of (vis s)) + dwell) sooner.0 (omega (arith, sooner.1))) serves.3)
    ]
