use Rattle.std.proofs.Common.{
  ◌≡◌,
  ℕ,
  suc,
  ◌+◌,
  ◌-◌,
  ◌<◌,
  ◌≤◌,
  Bool,
  true,
  false,
  cond,
  not,
  eqb,
  ltb,
  List,
  [],
  ◌∷◌,
  length,
  map,
  filter,
  take,
  drop,
  refl,
  sym,
  ap,
  ◌∙◌,
  subst,
  arith,
  inl,
  inr,
  All,
  remove,
  rules,
}
use Rattle.std.proofs.lemmas.Bool.Decides.{nat_tests}
use Rattle.stop_orders.proofs.Common.{
  AllByRecursion,
  cases_Bool,
  cases_lt,
  cond-true,
  cond-false,
  not_from_true,
  not_from_false,
  false≢true,
  length-remove,
  get_or-remove_below,
  get_or-remove_above,
  All-append,
  All-take,
  All-drop,
  never,
  IsTravelTime,
  Task,
  Stop,
  Pick,
  Drop,
  Alight,
  Visit,
  Pickup,
  Dropoff,
  is_of_rider,
  is_of_passenger,
  IsKnown,
  place_of,
  latest_of,
  boarding_of,
  room_after,
  lateness,
  ServesFrom,
  delay_from,
  no_leg,
  leg_at,
  persons,
  IsTask,
  visit_at,
  free_seats,
  IsOrderOf,
  Serves,
  order_delay,
  number_without,
  stop_without_rider,
  stop_without_passenger,
  stops_without_rider,
  stops_without_passenger,
  without_rider,
  without_passenger,
  StillServes,
}
use Rattle.std.proofs.lemmas.Bool.{eq-eqb, eqb-true, lt-ltb, le-ltb}
use Rattle.std.proofs.lemmas.List.Sums.{sum_by-remove}
use Rattle.stop_orders.specs.declared.task.leg.Leg.{Leg}
use Rattle.stop_orders.proofs.lemmas.task.ClockLemmas.{room_after-le, lateness-le, AtLeastAsSoon, soon_there}

-- how many persons get out
pub leaving_of : Visit → ℕ
leaving_of v = elim v [ Pickup place latest party ↦ 0 | Dropoff place latest ideal party ↦ party ]

-- the seats that the left-out one holds, after a visit of theirs
pub held_after : Visit → ℕ → ℕ
held_after v held = elim v [ Pickup place latest party ↦ held + party | Dropoff place latest ideal party ↦ held - party ]

-- whoever gets out held those seats
abbrev pub Holds : (Stop → Visit) → ℕ → List Stop → Type 0
Holds vis held [] = Unit {0}
Holds vis held (s ∷ ss) = (leaving_of (vis s) ≤ held) × Holds vis (held_after (vis s) held) ss

-- a visit that is left out leaves the seats to the others
room_without : (v : Visit) (room held more : ℕ) → boarding_of v ≤ room → leaving_of v ≤ held → room + held ≤ more → room_after v room + held_after v held ≤ more
unfolding leaving_of held_after
room_without (Pickup place latest party) room held more b l h = omega arith
room_without (Dropoff place latest ideal party) room held more b l h = omega arith

pub skips : {X : Type 0} (p : X → Bool) (x : X) (xs : List X) → p x ≡ false → filter p (x ∷ xs) ≡ filter p xs
skips p x xs e = cond-false (p x) (x ∷ filter p xs) (filter p xs) e

pub takes : {X : Type 0} (p : X → Bool) (x : X) (xs : List X) → p x ≡ true → filter p (x ∷ xs) ≡ x ∷ filter p xs
takes p x xs e = cond-true (p x) (x ∷ filter p xs) (filter p xs) e

-- the test of the others
abbrev pub others : (Stop → Bool) → Stop → Bool
others mine s = not (mine s)

module _ (points : ℕ) (tau : ℕ → ℕ → ℕ) (dwell : ℕ) (t : IsTravelTime points tau) where
  -- past a visit that is left out one is still as soon
  soon_past : (p f q g : ℕ) (v : Visit) → AtLeastAsSoon tau p f q g → tau q (place_of v) < never →
      AtLeastAsSoon tau p f (place_of v) (g + tau q (place_of v) + dwell)
  soon_past p f q g v soon reach = search rules

  -- without the stops of one, the others are served, with no more delay
  pub served_without : (vis : Stop → Visit) (mine : Stop → Bool) (stops : List Stop) (q g room p f more held : ℕ) → AtLeastAsSoon tau p f q g →
      room + held ≤ more → Holds vis held (filter mine stops)
      → ServesFrom tau dwell q g room (map vis stops)
      → ServesFrom tau dwell p f more (map vis (filter (others mine) stops)) × (delay_from tau dwell p f (map vis (filter (others mine) stops)) ≤ delay_from tau
      dwell q g (map vis stops))
  served_without vis mine [] q g room p f more held soon seats holds serves = (tt, omega arith)
  served_without vis mine (s ∷ stops) q g room p f more held soon seats holds serves =
      let v = vis s in
      elim (cases_Bool (mine s)) [
        | inl e ↦
            let own = subst (λ ss. Holds vis held ss) (takes mine s stops e) holds in
            let rest = served_without vis mine stops (place_of v) (g + tau q (place_of v) + dwell) (room_after v room) p f more (held_after v held)
            (soon_past p f q g v soon serves.0) (room_without v room held more serves.2 own.0 seats) own.1 serves.3 in
            let less : delay_from tau dwell p f (map vis (filter (others mine) stops)) ≤ delay_from tau dwell q g (map vis (s ∷ stops)) =
            omega (arith, rest.1) in
            subst (λ ss. ServesFrom tau dwell p f more (map vis ss) × (delay_from tau dwell p f (map vis ss) ≤ delay_from tau dwell q g (map vis (s ∷ stops))))
            (sym (skips (others mine) s stops (not_from_true (mine s) e))) (rest.0, less)
        | inr e ↦
            let theirs = subst (λ ss. Holds vis held ss) (skips mine s stops e) holds in
            let hop = soon.soon (place_of v) serves.0 in
            let first : f + tau p (place_of v) ≤ g + tau q (place_of v) = hop.1 in
            let rest = served_without vis mine stops (place_of v) (g + tau q (place_of v) + dwell) (room_after v room) (place_of v)
            (f + tau p (place_of v) + dwell) (room_after v more) held
            (soon_there tau (place_of v) (f + tau p (place_of v) + dwell) (g + tau q (place_of v) + dwell) (omega arith))
            (room_after-le v room more held serves.2 seats) theirs serves.3 in
            let late : lateness v (f + tau p (place_of v)) ≤ lateness v (g + tau q (place_of v)) = lateness-le v _ _ first in
            let in_time : f + tau p (place_of v) ≤ latest_of v = omega (arith, serves.1) in
            let board : boarding_of v ≤ more = omega (arith, serves.2) in
            let less : delay_from tau dwell p f (map vis (s ∷ filter (others mine) stops)) ≤ delay_from tau dwell q g (map vis (s ∷ stops)) =
            omega (arith, rest.1, late) in
            subst (λ ss. ServesFrom tau dwell p f more (map vis ss) × (delay_from tau dwell p f (map vis ss) ≤ delay_from tau dwell q g (map vis (s ∷ stops))))
            (sym (takes (others mine) s stops (not_from_false (mine s) e))) ((hop.0, in_time, board, rest.0), less)
      ]

-- what a filter keeps of the renumbered others is the renumbering of what another keeps of all
filter_renumbered : (p q : Stop → Bool) (g : Stop → Stop) (mine : Stop → Bool) → ((s : Stop) → mine s ≡ false → p (g s) ≡ q s) →
    ((s : Stop) → mine s ≡ true → q s ≡ false)
    → (stops : List Stop) → filter p (map g (filter (others mine) stops)) ≡ map g (filter q stops)
filter_renumbered p q g mine same apart [] = refl
filter_renumbered p q g mine same apart (s ∷ stops) = search (rules, cases_Bool, (filter_renumbered p q g mine same apart stops))

-- the others are seen as before
pub visits_renumbered : (vis old : Stop → Visit) (g : Stop → Stop) (mine : Stop → Bool) → ((s : Stop) → mine s ≡ false → vis (g s) ≡ old s) →
    (stops : List Stop) → map vis (map g (filter (others mine) stops)) ≡ map old (filter (others mine) stops)
visits_renumbered vis old g mine same [] = refl
visits_renumbered vis old g mine same (s ∷ stops) = search (rules, cases_Bool, (visits_renumbered vis old g mine same stops))

known_renumbered : (P Q : Stop → Type 0) (g : Stop → Stop) (mine : Stop → Bool) → ((s : Stop) → mine s ≡ false → P s → Q (g s)) → (stops : List Stop) →
    AllByRecursion P stops → AllByRecursion Q (map g (filter (others mine) stops))
known_renumbered P Q g mine move [] known = tt
known_renumbered P Q g mine move (s ∷ stops) known = search (rules, cases_Bool, (known_renumbered P Q g mine move stops known.1))

-- the number that has a new number
pub old_number : ℕ → ℕ → ℕ
old_number i k = cond (ltb k i) k (k + 1)

pub not_same : (a b : ℕ) → eqb a b ≡ false → a ≡ b → ⊥
not_same a b e h = false≢true (sym e ∙ eq-eqb a b h)

number_above : (i k : ℕ) → i < k → number_without i k ≡ k - 1
number_above i k h = rw (lt-ltb i k h) refl

number_below : (i k : ℕ) → k ≤ i → number_without i k ≡ k
number_below i k h = rw (le-ltb i k h) refl

-- a number other than the one left out has the new number j exactly where it is j's old one
pub renumbered : (i j k : ℕ) → (k ≡ i → ⊥) → eqb (number_without i k) j ≡ eqb k (old_number i j)
unfolding old_number
renumbered i j k ne = grind (arith, nat_tests, ne)

pub renumbered_back : (i j : ℕ) → number_without i (old_number i j) ≡ j
unfolding old_number
renumbered_back i j = grind (arith, nat_tests)

pub old_number-ne : (i j : ℕ) → eqb i (old_number i j) ≡ false
unfolding old_number
old_number-ne i j = grind (arith, nat_tests)

pub old_number-lt : (i j n m : ℕ) → i < n → m + 1 ≡ n → j < m → old_number i j < n
unfolding old_number
old_number-lt i j n m h e l = grind (arith, nat_tests)

pub number_without-lt : (i k n m : ℕ) → i < n → m + 1 ≡ n → (k ≡ i → ⊥) → k < n → number_without i k < m
number_without-lt i k n m h e ne l = grind (arith, nat_tests, ne)

-- the leg of a new number is that of the old one
pub leg_without : (legs : List Leg) (i k : ℕ) → i < length legs → (k ≡ i → ⊥) → leg_at (remove legs i) (number_without i k) ≡ leg_at legs k
leg_without legs i k h ne = search (rules, cases_lt, number_above, get_or-remove_above, number_below, get_or-remove_below)

pub All-remove : {X : Type 0} (P : X → Type 0) (xs : List X) (i : ℕ) → All P xs → All P (remove xs i)
All-remove P xs i all = All-append P (take i xs) (drop (suc i) xs) (All-take P i xs all) (All-drop P (suc i) xs all)

module _ (points : ℕ) (task : Task) (valid : IsTask points task) where
  module _ (i : ℕ) (within : i < length task.riders.items) where
    fewer : length (remove task.riders.items i) + 1 ≡ length task.riders.items
    fewer = length-remove task.riders.items i within

    valid_without_rider : IsTask points (without_rider i task)
    valid_without_rider = search (rules, fewer, All-remove)

    visit_without_rider : (s : Stop) → is_of_rider i s ≡ false → visit_at (without_rider i task) (stop_without_rider i s) ≡ visit_at task s
    visit_without_rider (Pick k) e = ap (λ leg. Pickup leg.origin leg.latest_pickup leg.party) (leg_without task.riders.items i k within (not_same k i e))
    visit_without_rider (Drop k) e = ap (λ leg. Dropoff leg.destination leg.latest_dropoff leg.ideal leg.party)
        (leg_without task.riders.items i k within (not_same k i e))
    visit_without_rider (Alight k) e = refl

    rider_tests : (j : ℕ) (s : Stop) → is_of_rider i s ≡ false → is_of_rider j (stop_without_rider i s) ≡ is_of_rider (old_number i j) s
    rider_tests j (Pick k) e = renumbered i j k (not_same k i e)
    rider_tests j (Drop k) e = renumbered i j k (not_same k i e)
    rider_tests j (Alight k) e = refl

    rider_apart : (j : ℕ) (s : Stop) → is_of_rider i s ≡ true → is_of_rider (old_number i j) s ≡ false
    rider_apart j (Pick k) e = subst (λ n. eqb n (old_number i j) ≡ false) (sym (eqb-true k i e)) (old_number-ne i j)
    rider_apart j (Drop k) e = subst (λ n. eqb n (old_number i j) ≡ false) (sym (eqb-true k i e)) (old_number-ne i j)
    rider_apart j (Alight k) e = refl

    passenger_tests : (j : ℕ) (s : Stop) → is_of_rider i s ≡ false → is_of_passenger j (stop_without_rider i s) ≡ is_of_passenger j s
    passenger_tests j (Pick k) e = refl
    passenger_tests j _ e = refl

    passenger_apart : (j : ℕ) (s : Stop) → is_of_rider i s ≡ true → is_of_passenger j s ≡ false
    passenger_apart j (Alight k) e = absurd (false≢true e)
    passenger_apart j _ e = refl

    rider_known : (s : Stop) → is_of_rider i s ≡ false → IsKnown (length task.riders.items) (length task.aboard.items) s →
        IsKnown (length (remove task.riders.items i)) (length task.aboard.items) (stop_without_rider i s)
    rider_known (Pick k) e h = number_without-lt i k (length task.riders.items) (length (remove task.riders.items i)) within fewer (not_same k i e) h
    rider_known (Drop k) e h = number_without-lt i k (length task.riders.items) (length (remove task.riders.items i)) within fewer (not_same k i e) h
    rider_known (Alight k) e h = h

    order_without_rider : (stops : List Stop) → IsOrderOf task stops → IsOrderOf (without_rider i task) (stops_without_rider i stops)
    order_without_rider stops order = record {
      rides = λ j h. filter_renumbered (is_of_rider j) (is_of_rider (old_number i j)) (stop_without_rider i) (is_of_rider i) (rider_tests j) (rider_apart j)
          stops
          ∙ ap (λ ss. map (stop_without_rider i) ss)
          (order.rides (old_number i j) (old_number-lt i j (length task.riders.items) (length (remove task.riders.items i)) within fewer h))
          ∙ ap (λ n. Pick n ∷ Drop n ∷ []) (renumbered_back i j);
      alights = λ j h. filter_renumbered (is_of_passenger j) (is_of_passenger j) (stop_without_rider i) (is_of_rider i) (passenger_tests j) (passenger_apart j)
          stops
          ∙ ap (λ ss. map (stop_without_rider i) ss) (order.alights j h);
      known = known_renumbered (IsKnown (length task.riders.items) (length task.aboard.items))
          (IsKnown (length (remove task.riders.items i)) (length task.aboard.items)) (stop_without_rider i) (is_of_rider i) rider_known stops order.known;
    }

    rider_holds : Holds (visit_at task) 0 (Pick i ∷ Drop i ∷ [])
    unfolding leaving_of held_after
    rider_holds = (omega arith, (omega arith, tt))

    pub rider_left_out : (tau : ℕ → ℕ → ℕ) → IsTravelTime points tau → (stops : List Stop) → Serves tau task stops →
        StillServes points tau task (without_rider i task) stops (stops_without_rider i stops)
    rider_left_out tau t stops serves =
        let seen = visits_renumbered (visit_at (without_rider i task)) (visit_at task) (stop_without_rider i) (is_of_rider i) visit_without_rider stops in
        let holds = subst (λ ss. Holds (visit_at task) 0 ss) (sym (serves.order.rides i within)) rider_holds in
        let rest = served_without points tau task.dwell t (visit_at task) (is_of_rider i) stops task.start task.ready (free_seats task) task.start task.ready
        (free_seats task) 0
        (soon_there tau task.start task.ready task.ready (omega arith)) (omega arith) holds serves.in_time in
        record {
          valid = valid_without_rider;
          serves = record {
            order = order_without_rider stops serves.order;
            in_time = subst (λ vs. ServesFrom tau task.dwell task.start task.ready (free_seats task) vs) (sym seen) rest.0;
          };
          delay = subst (λ vs. delay_from tau task.dwell task.start task.ready vs ≤ order_delay tau task stops) (sym seen) rest.1;
        }

  module _ (j : ℕ) (within : j < length task.aboard.items) where
    fewer_aboard : length (remove task.aboard.items j) + 1 ≡ length task.aboard.items
    fewer_aboard = length-remove task.aboard.items j within

    pub persons_without : persons (remove task.aboard.items j) + (leg_at task.aboard.items j).party ≡ persons task.aboard.items
    persons_without = sum_by-remove (λ leg. leg.party) task.aboard.items j no_leg within

    pub valid_without_passenger : IsTask points (without_passenger j task)
    valid_without_passenger = search (rules, persons_without, fewer_aboard, All-remove)

    pub visit_without_passenger : (s : Stop) → is_of_passenger j s ≡ false → visit_at (without_passenger j task) (stop_without_passenger j s) ≡ visit_at task s
    visit_without_passenger (Alight k) e = ap (λ leg. Dropoff leg.destination leg.latest_dropoff leg.ideal leg.party)
        (leg_without task.aboard.items j k within (not_same k j e))
    visit_without_passenger _ e = refl

    out_tests : (k : ℕ) (s : Stop) → is_of_passenger j s ≡ false → is_of_passenger k (stop_without_passenger j s) ≡ is_of_passenger (old_number j k) s
    out_tests k (Alight n) e = renumbered j k n (not_same n j e)
    out_tests k _ e = refl

    out_apart : (k : ℕ) (s : Stop) → is_of_passenger j s ≡ true → is_of_passenger (old_number j k) s ≡ false
    out_apart k (Alight n) e = subst (λ m. eqb m (old_number j k) ≡ false) (sym (eqb-true n j e)) (old_number-ne j k)
    out_apart k _ e = refl

    in_tests : (k : ℕ) (s : Stop) → is_of_passenger j s ≡ false → is_of_rider k (stop_without_passenger j s) ≡ is_of_rider k s
    in_tests k (Pick n) e = refl
    in_tests k _ e = refl

    in_apart : (k : ℕ) (s : Stop) → is_of_passenger j s ≡ true → is_of_rider k s ≡ false
    in_apart k (Alight n) e = refl
    in_apart k _ e = absurd (false≢true e)

    out_known : (s : Stop) → is_of_passenger j s ≡ false → IsKnown (length task.riders.items) (length task.aboard.items) s →
        IsKnown (length task.riders.items) (length (remove task.aboard.items j)) (stop_without_passenger j s)
    out_known (Alight k) e h = number_without-lt j k (length task.aboard.items) (length (remove task.aboard.items j)) within fewer_aboard (not_same k j e) h
    out_known _ e h = h

    pub order_without_passenger : (stops : List Stop) → IsOrderOf task stops → IsOrderOf (without_passenger j task) (stops_without_passenger j stops)
    order_without_passenger stops order = record {
      rides = λ k h. filter_renumbered (is_of_rider k) (is_of_rider k) (stop_without_passenger j) (is_of_passenger j) (in_tests k) (in_apart k) stops
          ∙ ap (λ ss. map (stop_without_passenger j) ss) (order.rides k h);
      alights = λ k h. filter_renumbered (is_of_passenger k) (is_of_passenger (old_number j k)) (stop_without_passenger j) (is_of_passenger j) (out_tests k)
          (out_apart k) stops
          ∙ ap (λ ss. map (stop_without_passenger j) ss)
          (order.alights (old_number j k) (old_number-lt j k (length task.aboard.items) (length (remove task.aboard.items j)) within fewer_aboard h))
          ∙ ap (λ n. Alight n ∷ []) (renumbered_back j k);
      known = known_renumbered (IsKnown (length task.riders.items) (length task.aboard.items))
          (IsKnown (length task.riders.items) (length (remove task.aboard.items j))) (stop_without_passenger j) (is_of_passenger j) out_known stops order.known;
    }

    passenger_holds : Holds (visit_at task) (leg_at task.aboard.items j).party (Alight j ∷ [])
    unfolding leaving_of held_after
    passenger_holds = (omega arith, tt)

    pub passenger_left_out : (tau : ℕ → ℕ → ℕ) → IsTravelTime points tau → (stops : List Stop) → Serves tau task stops →
        StillServes points tau task (without_passenger j task) stops (stops_without_passenger j stops)
    passenger_left_out tau t stops serves =
        let seen = visits_renumbered (visit_at (without_passenger j task)) (visit_at task) (stop_without_passenger j) (is_of_passenger j)
        visit_without_passenger stops in
        let holds = subst (λ ss. Holds (visit_at task) (leg_at task.aboard.items j).party ss) (sym (serves.order.alights j within)) passenger_holds in
        let seats : free_seats task + (leg_at task.aboard.items j).party ≤ free_seats (without_passenger j task) =
        omega (arith, persons_without, valid.seated) in
        let rest = served_without points tau task.dwell t (visit_at task) (is_of_passenger j) stops task.start task.ready (free_seats task) task.start
        task.ready (free_seats (without_passenger j task)) (leg_at task.aboard.items j).party
        (soon_there tau task.start task.ready task.ready (omega arith)) seats holds serves.in_time in
        record {
          valid = valid_without_passenger;
          serves = record {
            order = order_without_passenger stops serves.order;
            in_time = subst (λ vs. ServesFrom tau task.dwell task.start task.ready (free_seats (without_passenger j task)) vs) (sym seen) rest.0;
          };
          delay = subst (λ vs. delay_from tau task.dwell task.start task.ready vs ≤ order_delay tau task stops) (sym seen) rest.1;
        }
