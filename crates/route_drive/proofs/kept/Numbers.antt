-- Stops by riders' ids, as an order of numbered riders and passengers.
use Rattle.std.proofs.Common.{
  ◌≡◌,
  ℕ,
  ◌+◌,
  ◌*◌,
  ◌<◌,
  ◌≤◌,
  Bool,
  true,
  false,
  cond,
  not,
  eqb,
  nat_eq,
  List,
  [],
  ◌∷◌,
  length,
  get_or,
  map,
  filter,
  refl,
  sym,
  ap,
  ◌∙◌,
  subst,
  arith,
  rules,
}
use Rattle.route_drive.proofs.Common.{
  AllByRecursion,
  IsDistinct,
  false≢true,
  length-filter_both,
  PlannedStop,
  index_in,
  has_node,
  Stop,
  Pick,
  Drop,
  Alight,
  is_of_rider,
  is_of_passenger,
  IsKnown,
  IsOrder,
  is_stop_of,
  calls_of,
  ne_eqb,
  eqb-true,
  nat_tests,
}
use Rattle.route_drive.proofs.kept.Lists.{filter_renamed, filter_filter, all_filtered, all_mapped, all_weaker, many_apart}
use Rattle.route_drive.proofs.kept.Walks.{has_index, index_at, name_at, is_node_at}

-- the stop of a task that is meant: riders and passengers are numbered by their ids
pub number_of : List ℕ → List ℕ → PlannedStop → Stop
number_of riders passengers stop =
    cond stop.pick (Pick (index_in riders stop.rider)) (cond (has_node passengers stop.rider) (Alight (index_in passengers stop.rider))
    (Drop (index_in riders stop.rider)))

-- a pickup is of a rider, a drop-off of a passenger or a rider
pub data IsNumbered (riders passengers : List ℕ) (stop : PlannedStop) : Type 0 where
  picks : stop.pick ≡ true → has_node riders stop.rider ≡ true → IsNumbered riders passengers stop
  drops : stop.pick ≡ false → has_node riders stop.rider ≡ true → has_node passengers stop.rider ≡ false → IsNumbered riders passengers stop
  alights : stop.pick ≡ false → has_node passengers stop.rider ≡ true → IsNumbered riders passengers stop

module _ (riders passengers : List ℕ) where
  pub number_picks : (stop : PlannedStop) → stop.pick ≡ true → number_of riders passengers stop ≡ Pick (index_in riders stop.rider)
  unfolding number_of
  number_picks stop e = rw e refl

  pub number_drops : (stop : PlannedStop) → stop.pick ≡ false → has_node passengers stop.rider ≡ false →
      number_of riders passengers stop ≡ Drop (index_in riders stop.rider)
  unfolding number_of
  number_drops stop e f = rw (e, f) refl

  pub number_alights : (stop : PlannedStop) → stop.pick ≡ false → has_node passengers stop.rider ≡ true →
      number_of riders passengers stop ≡ Alight (index_in passengers stop.rider)
  unfolding number_of
  number_alights stop e f = rw (e, f) refl

-- the test of an index is a test of the name
index_test : (names : List ℕ) (i : ℕ) (x : ℕ) → IsDistinct nat_eq names → i < length names → has_node names x ≡ true →
    eqb (index_in names x) i ≡ eqb x (get_or names i 0)
index_test names i x apart h is = grind (arith, nat_tests, index_at names i apart h, name_at names x (has_index names x is))

module _ (riders passengers : List ℕ) (distinct : IsDistinct nat_eq riders) (distinct_passengers : IsDistinct nat_eq passengers)
    (apart : (x : ℕ) → has_node riders x ≡ true → has_node passengers x ≡ false) (stops : List PlannedStop)
    (all : AllByRecursion (IsNumbered riders passengers) stops)
    (rides : (x : ℕ) → has_node riders x ≡ true → calls_of x stops ≡ true ∷ false ∷ []) (leaves : (x : ℕ) → has_node passengers x ≡ true →
    calls_of x stops ≡ false ∷ []) where
  abbrev number : PlannedStop → Stop
  number = number_of riders passengers

  -- a name of one list isn't one of the other
  not_both : (x y : ℕ) → has_node riders x ≡ true → has_node passengers y ≡ true → x ≡ y → ⊥
  not_both x y r p e = false≢true (sym (apart x r) ∙ ap (has_node passengers) e ∙ p)

  rider_test : (i : ℕ) → i < length riders → (stop : PlannedStop) → IsNumbered riders passengers stop →
      is_of_rider i (number stop) ≡ is_stop_of (get_or riders i 0) stop
  rider_test i h stop (picks e r) = ap (is_of_rider i) (number_picks riders passengers stop e) ∙ index_test riders i stop.rider distinct h r
  rider_test i h stop (drops e r p) = ap (is_of_rider i) (number_drops riders passengers stop e p) ∙ index_test riders i stop.rider distinct h r
  rider_test i h stop (alights e p) = ap (is_of_rider i) (number_alights riders passengers stop e p) ∙
      sym (ne_eqb stop.rider (get_or riders i 0) (λ same. not_both (get_or riders i 0) stop.rider (is_node_at riders i h) p (sym same)))

  passenger_test : (j : ℕ) → j < length passengers → (stop : PlannedStop) → IsNumbered riders passengers stop →
      is_of_passenger j (number stop) ≡ is_stop_of (get_or passengers j 0) stop
  passenger_test j h stop (picks e r) = ap (is_of_passenger j) (number_picks riders passengers stop e) ∙
      sym (ne_eqb stop.rider (get_or passengers j 0) (not_both stop.rider (get_or passengers j 0) r (is_node_at passengers j h)))
  passenger_test j h stop (drops e r p) = ap (is_of_passenger j) (number_drops riders passengers stop e p) ∙
      sym (ne_eqb stop.rider (get_or passengers j 0) (not_both stop.rider (get_or passengers j 0) r (is_node_at passengers j h)))
  passenger_test j h stop (alights e p) = ap (is_of_passenger j) (number_alights riders passengers stop e p) ∙
      index_test passengers j stop.rider distinct_passengers h p

  two_stops : (i : ℕ) → i < length riders → (own : List PlannedStop) → map (λ (s : PlannedStop). s.pick) own ≡ true ∷ false ∷ [] →
      AllByRecursion (λ (s : PlannedStop). is_stop_of (get_or riders i 0) s ≡ true) own → map number own ≡ Pick i ∷ Drop i ∷ []
  two_stops i h (a ∷ b ∷ []) e all = search (rules, eqb-true, is_node_at, number, number_picks, index_at, number_drops)
  two_stops i h own e all = absurd cc

  one_stop : (j : ℕ) → j < length passengers → (own : List PlannedStop) → map (λ (s : PlannedStop). s.pick) own ≡ false ∷ [] →
      AllByRecursion (λ (s : PlannedStop). is_stop_of (get_or passengers j 0) s ≡ true) own → map number own ≡ Alight j ∷ []
  one_stop j h (a ∷ []) e all = search (rules, eqb-true, is_node_at, number_alights, index_at)
  one_stop j h own e all = absurd cc

  pass : (x : ℕ) → AllByRecursion (λ (s : PlannedStop). is_stop_of x s ≡ true) (filter (is_stop_of x) stops)
  pass x = all_weaker (λ (s : PlannedStop). IsNumbered riders passengers s × (is_stop_of x s ≡ true)) (λ s. is_stop_of x s ≡ true) (λ s h. h.1)
      (filter (is_stop_of x) stops) (all_filtered (IsNumbered riders passengers) (is_stop_of x) stops all)

  numbered_known : (stop : PlannedStop) → IsNumbered riders passengers stop → IsKnown (length riders) (length passengers) (number stop)
  numbered_known stop (picks e r) = subst (IsKnown (length riders) (length passengers)) (sym (number_picks riders passengers stop e))
      (has_index riders stop.rider r)
  numbered_known stop (drops e r p) = subst (IsKnown (length riders) (length passengers)) (sym (number_drops riders passengers stop e p))
      (has_index riders stop.rider r)
  numbered_known stop (alights e p) = subst (IsKnown (length riders) (length passengers)) (sym (number_alights riders passengers stop e p))
      (has_index passengers stop.rider p)

  pub numbers_are_order : IsOrder (length riders) (length passengers) (map (number_of riders passengers) stops)
  numbers_are_order = record {
    rides = λ i h. filter_renamed (is_of_rider i) (is_stop_of (get_or riders i 0)) number (IsNumbered riders passengers) (rider_test i h) stops all
        ∙ two_stops i h (filter (is_stop_of (get_or riders i 0)) stops) (rides (get_or riders i 0) (is_node_at riders i h)) (pass (get_or riders i 0));
    alights = λ j h. filter_renamed (is_of_passenger j) (is_stop_of (get_or passengers j 0)) number (IsNumbered riders passengers) (passenger_test j h) stops
        all
        ∙ one_stop j h (filter (is_stop_of (get_or passengers j 0)) stops) (leaves (get_or passengers j 0) (is_node_at passengers j h))
        (pass (get_or passengers j 0));
    known = all_mapped (IsNumbered riders passengers) (IsKnown (length riders) (length passengers)) number numbered_known stops all;
  }

-- without the riders' stops the passengers' drop-offs are an order of the passengers
unfoldable pub alights_only : Stop → Bool
alights_only stop = elim stop [ Pick k ↦ false | Drop k ↦ false | Alight k ↦ true ]

-- a passenger's stop is one of these
alights_own : (j : ℕ) (s : Stop) → is_of_passenger j s ≡ true → alights_only s ≡ true
unfolding alights_only
alights_own j (Alight k) e = refl
alights_own j s e = absurd (false≢true e)

pub passengers_order : (riders passengers : ℕ) (stops : List Stop) → IsOrder riders passengers stops → IsOrder 0 passengers (filter alights_only stops)
unfolding alights_only
passengers_order riders passengers stops order = record {
  rides = λ i h. absurd (omega arith);
  alights = λ j h. filter_filter (is_of_passenger j) alights_only (alights_own j) stops ∙ order.alights j h;
  known = all_weaker (λ s. IsKnown riders passengers s × (alights_only s ≡ true)) (IsKnown 0 passengers) (λ s h. still s h.0 h.1) (filter alights_only stops)
      (all_filtered (IsKnown riders passengers) alights_only stops order.known);
}
  where
    still : (s : Stop) → IsKnown riders passengers s → alights_only s ≡ true → IsKnown 0 passengers s
    still (Alight k) h e = h
    still s h e = absurd (false≢true e)

-- an order has two stops for each rider and one for each passenger
pub order_length : (riders passengers : ℕ) (stops : List Stop) → IsOrder riders passengers stops → 2 * riders + passengers ≤ length stops
unfolding alights_only
order_length riders passengers stops order =
    let a : passengers * 1 ≤ length (filter alights_only stops) = many_apart is_of_passenger 1 one_passenger passengers (filter alights_only stops)
    (λ j h. ap length (filter_filter (is_of_passenger j) alights_only (alights_own j) stops ∙ order.alights j h)) in
    let b : riders * 2 ≤ length (filter (λ s. not (alights_only s)) stops) = many_apart is_of_rider 2 one_rider riders
    (filter (λ s. not (alights_only s)) stops)
    (λ i h. ap length (filter_filter (is_of_rider i) (λ s. not (alights_only s)) (others i) stops ∙ order.rides i h)) in
    let whole : length (filter alights_only stops) + length (filter (λ s. not (alights_only s)) stops) ≡ length stops =
    length-filter_both alights_only (λ s. not (alights_only s)) (λ s. refl) stops in
    omega (arith, a, b, whole)
  where
    one_passenger : (i j : ℕ) (s : Stop) → is_of_passenger i s ≡ true → is_of_passenger j s ≡ true → i ≡ j
    one_passenger i j (Alight k) e f = sym (eqb-true k i e) ∙ eqb-true k j f
    one_passenger i j s e f = absurd (false≢true e)

    one_rider : (i j : ℕ) (s : Stop) → is_of_rider i s ≡ true → is_of_rider j s ≡ true → i ≡ j
    one_rider i j (Pick k) e f = sym (eqb-true k i e) ∙ eqb-true k j f
    one_rider i j (Drop k) e f = sym (eqb-true k i e) ∙ eqb-true k j f
    one_rider i j (Alight k) e f = absurd (false≢true e)

    others : (i : ℕ) (s : Stop) → is_of_rider i s ≡ true → not (alights_only s) ≡ true
    others i (Alight k) e = absurd (false≢true e)
    others i s e = refl
