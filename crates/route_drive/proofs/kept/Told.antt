-- The stops that a plan tells of a serving order: their seconds, their seats, whose they are, and what they promise.
use Rattle.std.proofs.Common.{
  ◌≡◌,
  ℕ,
  zero,
  suc,
  ◌+◌,
  ◌≤◌,
  Bool,
  true,
  false,
  List,
  [],
  ◌∷◌,
  ◌++◌,
  length,
  map,
  filter,
  Some,
  None,
  refl,
  sym,
  ap,
  ◌∙◌,
  subst,
  arith,
  inl,
  inr,
  slice_get,
  rules,
}
use Rattle.route_drive.proofs.Common.{
  AllByRecursion,
  cases_eq,
  travel_time,
  Times,
  trip_picks,
  look_up,
  PlannedStop,
  BookRider,
  look_up-nil,
  Roads,
  index_in,
  Stop,
  Visit,
  place_of,
  latest_of,
  boarding_of,
  room_after,
  seconds_from,
  ServesFrom,
  AreTravelTimes,
  AreReached,
  party_at,
  seats_after,
  HasSeatsFor,
  is_stop_of,
  calls_of,
  true≢false,
  zip,
  flat_map,
  nat_tests,
}
use Rattle.request_book.specs.register.Closing.{Pick}
use Rattle.stop_orders.specs.declared.task.stop.Stop.TheVariants.{Pick as PickStop}
use Rattle.route_drive.proofs.kept.Lists.{all_weaker}
use Rattle.route_drive.proofs.kept.Walks.{least_between}
use Rattle.route_drive.proofs.kept.Riders.{calls_own, calls_other, no_pickup}
use Rattle.route_drive.proofs.kept.Tables.{time_between}

-- whether a stop is a pickup
abbrev pub is_pick : Stop → Bool
is_pick (PickStop k) = true
is_pick stop = false

-- what the telling of a stop keeps of its visit
pub record IsTold (points : List ℕ) (riders : List BookRider) (vis : Stop → Visit) (told : Stop × ℕ → PlannedStop) (s : Stop) : Type 0 where
  pub second : (second : ℕ) → (told (s, second)).second ≡ second
  pub pick : (second : ℕ) → (told (s, second)).pick ≡ is_pick s
  pub node : (second : ℕ) → slice_get points (place_of (vis s)) ≡ Some (told (s, second)).node
  pub boards : (second : ℕ) → (told (s, second)).pick ≡ true → boarding_of (vis s) ≡ party_at riders (told (s, second))
  pub room : (second room : ℕ) → room_after (vis s) room ≡ seats_after riders (told (s, second)) room

module _ (roads : Roads) (points : List ℕ) (times : Times) (table : AreTravelTimes roads.arcs (map (index_in roads.nodes) points) times)
    (riders : List BookRider) (dwell : ℕ) (vis : Stop → Visit) (told : Stop × ℕ → PlannedStop) where
  -- the stops with their seconds, as they are told
  abbrev pub told_from : ℕ → ℕ → List Stop → List PlannedStop
  told_from place free stops = map told (zip stops (seconds_from (travel_time times) dwell place free (map vis stops)))

  pub told_reached : (stops : List Stop) (place node free room : ℕ) → AllByRecursion (IsTold points riders vis told) stops → slice_get points place ≡ Some node
      → ServesFrom (travel_time times) dwell place free room (map vis stops) → AreReached roads dwell node free (told_from place free stops)
  told_reached [] place node free room are at serves = tt
  told_reached (s ∷ stops) place node free room are at serves = search (rules, time_between, least_between, (told_reached stops))

  pub told_seats : (stops : List Stop) (place free room : ℕ) → AllByRecursion (IsTold points riders vis told) stops
      → ServesFrom (travel_time times) dwell place free room (map vis stops) → HasSeatsFor riders room (told_from place free stops)
  told_seats [] place free room are serves = tt
  told_seats (s ∷ stops) place free room are serves = search (rules, (told_seats stops))

  -- what holds of each stop that is told at a second in time holds of all that are told
  pub told_all : (P : Stop → Type 0) (Q : PlannedStop → Type 0) → ((s : Stop) (second : ℕ) → P s → second ≤ latest_of (vis s) → Q (told (s, second)))
      → (stops : List Stop) (place free room : ℕ) → AllByRecursion P stops → ServesFrom (travel_time times) dwell place free room (map vis stops) →
      AllByRecursion Q (told_from place free stops)
  told_all P Q each [] place free room all serves = tt
  told_all P Q each (s ∷ stops) place free room all serves = search (rules, (told_all P Q each stops))

  pub told_length : (stops : List Stop) (place free : ℕ) → length (told_from place free stops) ≡ length stops
  told_length [] place free = refl
  told_length (s ∷ stops) place free = let rest : length (told_from (place_of (vis s)) (free + travel_time times place (place_of (vis s)) + dwell) stops) ≡
      length stops = told_length stops (place_of (vis s)) (free + travel_time times place (place_of (vis s)) + dwell) in omega (arith, rest)

  -- the calls of a rider are those of the stops that are theirs
  pub told_calls : (x : ℕ) (test : Stop → Bool) (P : Stop → Type 0) → ((s : Stop) (second : ℕ) → P s → is_stop_of x (told (s, second)) ≡ test s) →
      ((s : Stop) (second : ℕ) → P s → (told (s, second)).pick ≡ is_pick s)
      → (stops : List Stop) (place free : ℕ) → AllByRecursion P stops → calls_of x (told_from place free stops) ≡ map is_pick (filter test stops)
  told_calls x test P same kind [] place free all = refl
  told_calls x test P same kind (s ∷ stops) place free all = search (rules, nat_tests, (told_calls x test P same kind stops))

-- what the pick stops of a vehicle promise
abbrev pub pick_of : ℕ → PlannedStop → Pick
pick_of vehicle stop = record { rider = stop.rider; promise = record { vehicle = vehicle; pickup = stop.second } }

-- whoever has no pickup is promised none
pub none_promised : (x vehicle : ℕ) (stops : List PlannedStop) → AllByRecursion (λ b. b ≡ false) (calls_of x stops) →
    look_up (λ (p : Pick). p.rider) x (trip_picks vehicle stops) ≡ None
unfolding trip_picks look_up
none_promised x vehicle [] all = refl
none_promised x vehicle (stop ∷ stops) all = grind (arith, nat_tests, none_promised x vehicle stops)

-- whoever has one pickup is promised it
pub record IsPickPromised (x vehicle : ℕ) (stops : List PlannedStop) : Type 0 where
  pub second : ℕ
  pub found : look_up (λ (p : Pick). p.rider) x (trip_picks vehicle stops) ≡ Some (record
      { rider = x; promise = record { vehicle = vehicle; pickup = second } })
  pub at : AllByRecursion (λ (stop : PlannedStop). stop.rider ≡ x → stop.pick ≡ true → stop.second ≡ second) stops

pub one_promised : (x vehicle : ℕ) (stops : List PlannedStop) → calls_of x stops ≡ true ∷ false ∷ [] → IsPickPromised x vehicle stops
unfolding trip_picks look_up
one_promised x vehicle [] e = absurd cc
one_promised x vehicle (stop ∷ stops) e = elim (cases_eq stop.rider x) [
  | inl same ↦
      let pick : stop.pick ≡ true = cc (calls_own x stop stops same, e) in
      let rest : calls_of x stops ≡ false ∷ [] = cc (calls_own x stop stops same, e) in
      record {
        second = stop.second;
        found = grind (arith, nat_tests, same, pick);
        at = (
          λ a b. refl,
          all_weaker (λ (s : PlannedStop). s.rider ≡ x → s.pick ≡ false) (λ (s : PlannedStop). s.rider ≡ x → s.pick ≡ true → s.second ≡ stop.second)
              (λ s h a b. absurd (true≢false (sym b ∙ h a))) stops (no_pickup x stops (subst (λ bs. AllByRecursion (λ b. b ≡ false) bs) (sym rest) (refl, tt))),
        );
      }
  | inr ne ↦
      let rest = one_promised x vehicle stops (sym (calls_other x stop stops ne) ∙ e) in
      record {
        second = rest.second;
        found = grind (arith, nat_tests, ne, rest.found);
        at = (λ a b. absurd (ne a), rest.at);
      }
]

-- what is found in lists one after the other
module _ {X : Type 0} (key : X → ℕ) (k : ℕ) where
  pub look_up-after : (xs ys : List X) → look_up key k xs ≡ None → look_up key k (xs ++ ys) ≡ look_up key k ys
  unfolding look_up
  look_up-after [] ys none = refl
  look_up-after (x ∷ xs) ys none = grind (arith, nat_tests, look_up-after xs ys)

  pub look_up-before : (xs ys : List X) → look_up key k ys ≡ None → look_up key k (xs ++ ys) ≡ look_up key k xs
  unfolding look_up
  look_up-before [] ys none = none
  look_up-before (x ∷ xs) ys none = grind (arith, nat_tests, look_up-before xs ys none)

  pub none_among : {T : Type 0} (f : T → List X) (ts : List T) → ((j : ℕ) (u : T) → slice_get ts j ≡ Some u → look_up key k (f u) ≡ None) →
      look_up key k (flat_map f ts) ≡ None
  none_among f [] none = look_up-nil key k
  none_among f (t ∷ ts) none = look_up-after (f t) (flat_map f ts) (none 0 t refl) ∙ none_among f ts (λ j u e. none (suc j) u e)

  pub found_among : {T : Type 0} (f : T → List X) (ts : List T) (i : ℕ) (t : T) → slice_get ts i ≡ Some t →
      ((j : ℕ) (u : T) → slice_get ts j ≡ Some u → (j ≡ i → ⊥) → look_up key k (f u) ≡ None)
      → look_up key k (flat_map f ts) ≡ look_up key k (f t)
  found_among f [] i t at none = absurd cc
  found_among f (u ∷ ts) zero t at none =
      let is : u ≡ t = cc in
      look_up-before (f u) (flat_map f ts) (none_among f ts (λ j w e. none (suc j) w e (λ h. absurd (omega arith)))) ∙ ap (λ t. look_up key k (f t)) is
  found_among f (u ∷ ts) (suc i) t at none =
      look_up-after (f u) (flat_map f ts) (none 0 u refl (λ h. absurd (omega arith))) ∙ found_among f ts i t at
      (λ j w e ne. none (suc j) w e (λ h. ne (omega arith)))
