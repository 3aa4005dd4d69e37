use Rattle.std.proofs.Common.{
  suc-mul,
  ◌≡◌,
  ℕ,
  ◌+◌,
  ◌<◌,
  ◌≤◌,
  suc,
  zero,
  ◌*◌,
  List,
  [],
  ◌∷◌,
  ◌++◌,
  length,
  get_or,
  take,
  refl,
  sym,
  ap,
  ◌∙◌,
  subst,
  arith,
  rules,
}
use Rattle.trip_graph.proofs.Common.{
  cases_lt,
  length-map,
  map_push,
  length_push,
  get_or_default,
  get_or_past,
  get_or_append_left,
  get_or_push,
  All-push,
  All-cons,
  All-nil,
  Task,
  Settled,
  trip_task,
  IsTrip,
  task_with,
  IsLower,
  trips_of,
  IsLevelRow,
  IsLevel,
  IsLevelUpTo,
  IsTripRule,
  IsBelow,
  HasMoreOfLevel,
  TripOf,
}
use Rattle.std.specs.List.{All, remove}
use Rattle.std.proofs.lemmas.List.{length-take-le}
use Rattle.stop_orders.specs.declared.task.settled_rider.SettledRider.{SettledRider}
use Rattle.trip_graph.proofs.lemmas.vehicle.TripOrder.{front_and_last}
use Rattle.trip_graph.proofs.lemmas.vehicle.TripSearch.{size_of}
use Rattle.trip_graph.proofs.vehicle.GrownLevels.{AreBelow, trip_at, lower_last_back, opened, advanced, closed, begun, ended, lower_from_order}

-- the rows below, as a list of trips
pub are_below : (Serves : List ℕ → Type 0) (size : ℕ) (rows : List TripOf) → IsBelow Serves size rows → AreBelow Serves size (trips_of rows)
are_below Serves size rows b = search (rules, length-map, size_of)

-- the trip at a place can be served
pub served_at : (Serves : List ℕ → Type 0) (rows : List TripOf) (i : ℕ) → All (λ row. Serves row.riders.items) rows → i < length rows →
    Serves (get_or (trips_of rows) i [])
served_at Serves [] i s h = absurd (omega arith)
served_at Serves (r ∷ rs) i s h = subst Serves (sym (trip_at (r ∷ rs) i r h)) (s i r h)

-- a trip with one more rider, above its last
pub longer_trip : (riders m : ℕ) (t : List ℕ) (r : ℕ) → length t ≡ m + 1 → IsTrip riders t → get_or t m 0 < r → r < riders → IsTrip riders (t ++ r ∷ [])
longer_trip riders m t r e trip above below = search (rules, length_push, cases_lt, get_or_append_left, get_or_push, All-push)

module _ (riders : ℕ) (Serves : List ℕ → Type 0) (Costs : List ℕ → ℕ → Type 0) (rule : IsTripRule riders Serves) (m : ℕ) (rows : List TripOf)
    (b : IsBelow Serves (m + 1) rows) where
  split_at : (i : ℕ) → i < length rows → get_or (trips_of rows) i [] ≡ take m (get_or (trips_of rows) i []) ++ get_or (get_or (trips_of rows) i []) m 0 ∷ []
  split_at i h = front_and_last (get_or (trips_of rows) i []) m (size_of (m + 1) rows i b.sized h)

  front_size : (i : ℕ) → i < length rows → length (take m (get_or (trips_of rows) i [])) ≡ m
  front_size i h = length-take-le m (get_or (trips_of rows) i []) (omega (arith, size_of (m + 1) rows i b.sized h))

  pub opened_at : (i : ℕ) (found : List TripOf) → i < length rows
      → IsLevelUpTo Serves Costs (m + 2) (get_or (trips_of rows) i (riders ∷ [])) found
      → IsLevelUpTo Serves Costs (m + 2) (get_or (trips_of rows) i [] ++ (get_or (get_or (trips_of rows) i []) m 0 + 1) ∷ []) found
  opened_at i found h level =
      let n : i < length (trips_of rows) = (let e : length (trips_of rows) ≡ length rows = length-map rows (λ (r : TripOf). r.riders.items) in omega arith) in
      let t : List ℕ = get_or (trips_of rows) i [] in
      let is : t ≡ take m t ++ get_or t m 0 ∷ [] = split_at i h in
      let here : IsLevelUpTo Serves Costs (m + 2) (take m t ++ get_or t m 0 ∷ []) found =
      subst (λ (v : List ℕ). IsLevelUpTo Serves Costs (m + 2) v found) (get_or_default (trips_of rows) i (riders ∷ []) [] n ∙ is) level in
      subst (λ (v : List ℕ). IsLevelUpTo Serves Costs (m + 2) (v ++ (get_or t m 0 + 1) ∷ []) found) (sym is)
      (opened riders Serves Costs rule m (trips_of rows) (are_below Serves (m + 1) rows b) (take m t) (get_or t m 0) found (front_size i h) here)

  -- the limit after one sibling, at the next
  pub advanced_at : (i j : ℕ) (found : List TripOf) → i < length rows → j + 1 < length rows
      → take m (get_or (trips_of rows) j []) ≡ take m (get_or (trips_of rows) i [])
      → take m (get_or (trips_of rows) (j + 1) []) ≡ take m (get_or (trips_of rows) i [])
      → IsLevelUpTo Serves Costs (m + 2) (get_or (trips_of rows) i [] ++ (get_or (get_or (trips_of rows) j []) m 0 + 1) ∷ []) found
      → IsLevelUpTo Serves Costs (m + 2) (get_or (trips_of rows) i [] ++ get_or (get_or (trips_of rows) (j + 1) []) m 0 ∷ []) found
  advanced_at i j found h k here next level =
      let e : length (trips_of rows) ≡ length rows = length-map rows (λ (r : TripOf). r.riders.items) in
      let t : List ℕ = get_or (trips_of rows) i [] in
      let x : ℕ = get_or (get_or (trips_of rows) j []) m 0 in let z : ℕ = get_or (get_or (trips_of rows) (j + 1) []) m 0 in
      let is : t ≡ take m t ++ get_or t m 0 ∷ [] = split_at i h in
      let at : get_or (trips_of rows) j [] ≡ take m t ++ x ∷ [] = split_at j (omega arith) ∙ ap (λ (v : List ℕ). v ++ x ∷ []) here in
      let after : get_or (trips_of rows) (j + 1) [] ≡ take m t ++ z ∷ [] = split_at (j + 1) k ∙ ap (λ (v : List ℕ). v ++ z ∷ []) next in
      subst (λ (v : List ℕ). IsLevelUpTo Serves Costs (m + 2) (v ++ z ∷ []) found) (sym is)
      (advanced riders Serves Costs rule m (trips_of rows) (are_below Serves (m + 1) rows b) (take m t) (get_or t m 0) j x z found (front_size i h)
      (omega arith) at after
      (subst (λ (v : List ℕ). IsLevelUpTo Serves Costs (m + 2) (v ++ (x + 1) ∷ []) found) is level))

  -- after the last sibling, the limit of the next row
  pub closed_at : (i j : ℕ) (found : List TripOf) → i ≤ j → j < length rows
      → take m (get_or (trips_of rows) j []) ≡ take m (get_or (trips_of rows) i [])
      → (j + 1 < length rows → take m (get_or (trips_of rows) (j + 1) []) ≡ take m (get_or (trips_of rows) i []) → ⊥)
      → IsLevelUpTo Serves Costs (m + 2) (get_or (trips_of rows) i [] ++ (get_or (get_or (trips_of rows) j []) m 0 + 1) ∷ []) found
      → IsLevelUpTo Serves Costs (m + 2) (get_or (trips_of rows) (i + 1) (riders ∷ [])) found
  closed_at i j found h k here stop level =
      let e : length (trips_of rows) ≡ length rows = length-map rows (λ (r : TripOf). r.riders.items) in
      let t : List ℕ = get_or (trips_of rows) i [] in
      let x : ℕ = get_or (get_or (trips_of rows) j []) m 0 in
      let hi : i < length rows = omega arith in
      let is : t ≡ take m t ++ get_or t m 0 ∷ [] = split_at i hi in
      let at : get_or (trips_of rows) j [] ≡ take m t ++ x ∷ [] = split_at j k ∙ ap (λ (v : List ℕ). v ++ x ∷ []) here in
      closed riders Serves Costs rule m (trips_of rows) (are_below Serves (m + 1) rows b) i (take m t) (get_or t m 0) j x found (front_size i hi) h
      (omega arith) is at
      (λ n s. stop (omega arith) s)
      (subst (λ (v : List ℕ). IsLevelUpTo Serves Costs (m + 2) (v ++ (x + 1) ∷ []) found) is level)

  -- later siblings have a greater last rider
  pub siblings_rise : (i j : ℕ) → i < j → j < length rows → take m (get_or (trips_of rows) j []) ≡ take m (get_or (trips_of rows) i [])
      → get_or (get_or (trips_of rows) i []) m 0 < get_or (get_or (trips_of rows) j []) m 0
  siblings_rise i j h k same =
      let e : length (trips_of rows) ≡ length rows = length-map rows (λ (r : TripOf). r.riders.items) in
      let t : List ℕ = get_or (trips_of rows) i [] in let u : List ℕ = get_or (trips_of rows) j [] in
      let is : t ≡ take m t ++ get_or t m 0 ∷ [] = split_at i (omega arith) in
      let at : u ≡ take m t ++ get_or u m 0 ∷ [] = split_at j k ∙ ap (λ (v : List ℕ). v ++ get_or u m 0 ∷ []) same in
      let low : IsLower t u = lower_from_order Serves (m + 1) (trips_of rows) (are_below Serves (m + 1) rows b) i j h (omega arith) in
      lower_last_back (take m t) (get_or t m 0) (get_or u m 0)
      (subst (λ (v : List ℕ). IsLower v (take m t ++ get_or u m 0 ∷ [])) is (subst (λ (v : List ℕ). IsLower t v) at low))

  pub last_within : (i : ℕ) → i < length rows → get_or (get_or (trips_of rows) i []) m 0 < riders
  last_within i h = rule.within (get_or (trips_of rows) i []) (served_at Serves rows i b.served h) m (omega (arith, size_of (m + 1) rows i b.sized h))

  pub begun_at : IsLevelUpTo Serves Costs (m + 2) (get_or (trips_of rows) 0 (riders ∷ [])) []
  begun_at = begun riders Serves Costs rule m (trips_of rows) (are_below Serves (m + 1) rows b)

  pub ended_at : (found : List TripOf) (i : ℕ) → length rows ≤ i → IsLevelUpTo Serves Costs (m + 2) (get_or (trips_of rows) i (riders ∷ [])) found →
      IsLevel Serves Costs (m + 2) found
  ended_at found i h level =
      let e : length (trips_of rows) ≡ length rows = length-map rows (λ (r : TripOf). r.riders.items) in
      ended riders Serves Costs rule (m + 2) found (omega arith)
      (subst (λ (v : List ℕ). IsLevelUpTo Serves Costs (m + 2) v found) (get_or_past (trips_of rows) i (riders ∷ []) (omega arith)) level)

  -- the same, where the trips are read as slices
  pub upto_as_read : (i j : ℕ) (s d : List ℕ) (found : List TripOf) → i < length rows → s ≡ get_or (trips_of rows) i [] → d ≡ get_or (trips_of rows) j []
      → IsLevelUpTo Serves Costs (m + 2) (get_or (trips_of rows) i [] ++ get_or (get_or (trips_of rows) j []) m 0 ∷ []) found
      → IsLevelUpTo Serves Costs (length s + 1) (s ++ get_or d m 0 ∷ []) found
  upto_as_read i j s d found h es ed level =
      let n : m + 2 ≡ length s + 1 = omega (arith, ap length es, size_of (m + 1) rows i b.sized h) in
      let limit : get_or (trips_of rows) i [] ++ get_or (get_or (trips_of rows) j []) m 0 ∷ [] ≡ s ++ get_or d m 0 ∷ [] =
      ap (λ (v : List ℕ). v ++ get_or (get_or (trips_of rows) j []) m 0 ∷ []) (sym es) ∙ ap (λ (v : List ℕ). s ++ get_or v m 0 ∷ []) (sym ed) in
      subst (λ (v : ℕ). IsLevelUpTo Serves Costs v (s ++ get_or d m 0 ∷ []) found) n (subst (λ (v : List ℕ). IsLevelUpTo Serves Costs (m + 2) v found) limit
      level)

  pub upto_as_stored : (i j : ℕ) (s d : List ℕ) (found : List TripOf) → i < length rows → s ≡ get_or (trips_of rows) i [] → d ≡ get_or (trips_of rows) j []
      → IsLevelUpTo Serves Costs (length s + 1) (s ++ (get_or d m 0 + 1) ∷ []) found
      → IsLevelUpTo Serves Costs (m + 2) (get_or (trips_of rows) i [] ++ (get_or (get_or (trips_of rows) j []) m 0 + 1) ∷ []) found
  upto_as_stored i j s d found h es ed level =
      let n : length s + 1 ≡ m + 2 = omega (arith, ap length es, size_of (m + 1) rows i b.sized h) in
      let limit : s ++ (get_or d m 0 + 1) ∷ [] ≡ get_or (trips_of rows) i [] ++ (get_or (get_or (trips_of rows) j []) m 0 + 1) ∷ [] =
      ap (λ (v : List ℕ). v ++ (get_or d m 0 + 1) ∷ []) es ∙ ap (λ (v : List ℕ). get_or (trips_of rows) i [] ++ (get_or v m 0 + 1) ∷ []) ed in
      subst (λ (v : ℕ). IsLevelUpTo Serves Costs v (get_or (trips_of rows) i [] ++ (get_or (get_or (trips_of rows) j []) m 0 + 1) ∷ []) found) n
      (subst (λ (v : List ℕ). IsLevelUpTo Serves Costs (length s + 1) v found) limit level)

  pub more_as_stored : (i room : ℕ) (s : List ℕ) → i < length rows → s ≡ get_or (trips_of rows) i [] → HasMoreOfLevel Serves Costs (length s + 1) room →
      HasMoreOfLevel Serves Costs (m + 2) room
  more_as_stored i room s h es more =
      let n : length s + 1 ≡ m + 2 = omega (arith, ap length es, size_of (m + 1) rows i b.sized h) in
      subst (λ (v : ℕ). HasMoreOfLevel Serves Costs v room) n more

  pub below_as_read : (i : ℕ) (s : List ℕ) → i < length rows → s ≡ get_or (trips_of rows) i [] → IsBelow Serves (length s) rows
  below_as_read i s h es =
      let n : m + 1 ≡ length s = omega (arith, ap length es, size_of (m + 1) rows i b.sized h) in
      subst (λ (v : ℕ). IsBelow Serves v rows) n b

  pub trip_as_read : (i j : ℕ) (s d : List ℕ) → ((t : List ℕ) → Serves t → IsTrip riders t) → i < j → j < length rows
      → take m (get_or (trips_of rows) j []) ≡ take m (get_or (trips_of rows) i [])
      → s ≡ get_or (trips_of rows) i [] → d ≡ get_or (trips_of rows) j [] → IsTrip riders (s ++ get_or d m 0 ∷ [])
  trip_as_read i j s d formed h k same es ed =
      let hi : i < length rows = omega arith in
      let trip : IsTrip riders (get_or (trips_of rows) i []) = formed _ (served_at Serves rows i b.served hi) in
      let whole : IsTrip riders (get_or (trips_of rows) i [] ++ get_or (get_or (trips_of rows) j []) m 0 ∷ []) =
      longer_trip riders m (get_or (trips_of rows) i []) (get_or (get_or (trips_of rows) j []) m 0) (size_of (m + 1) rows i b.sized hi) trip
      (siblings_rise i j h k same) (last_within j k) in
      subst (IsTrip riders) (ap (λ (v : List ℕ). v ++ get_or (get_or (trips_of rows) j []) m 0 ∷ []) (sym es) ∙
      ap (λ (v : List ℕ). s ++ get_or v m 0 ∷ []) (sym ed)) whole

-- where no row is below, there is no trip of one rider
pub none_first : (riders : ℕ) (Serves : List ℕ → Type 0) (Costs : List ℕ → ℕ → Type 0) (rows found : List TripOf) → IsTripRule riders Serves →
    IsBelow Serves 0 rows
    → length rows ≡ 0 → found ≡ [] → IsLevel Serves Costs 1 found
none_first riders Serves Costs rows found rule b e none =
    let n : length (trips_of rows) ≡ length rows = length-map rows (λ (r : TripOf). r.riders.items) in
    subst (IsLevel Serves Costs 1) (sym none) (record {
      right = All-nil (IsLevelRow Serves Costs);
      sized = All-nil (λ r. length r.riders.items ≡ 1);
      rising = λ i j h k. absurd (omega arith);
      whole = λ t one s.
          let rest : Serves (remove t 0) = rule.without t 0 s (omega arith) in
          let w = b.whole (remove t 0) (length_rest t one) rest in
          absurd (let lt = w.1 in omega arith);
    })
  where
    length_rest : (t : List ℕ) → length t ≡ 1 → length (remove t 0) ≡ 0
    length_rest [] h = absurd (omega arith)
    length_rest (x ∷ []) h = refl
    length_rest (x ∷ (y ∷ ys)) h = absurd (omega arith)

pub at_least_once : (k n : ℕ) → 0 < k → n ≤ k * n
at_least_once zero n h = absurd (omega arith)
at_least_once (suc k) n h = omega (arith, suc-mul k n)

-- the row of a trip at the limit
pub row_of : (Serves : List ℕ → Type 0) (Costs : List ℕ → ℕ → Type 0) (t : List ℕ) (row : TripOf) → row.riders.items ≡ t → Serves t → Costs t row.cost →
    IsLevelRow Serves Costs row
row_of Serves Costs t row is s c = record { served = subst Serves (sym is) s; least = subst (λ (v : List ℕ). Costs v row.cost) (sym is) c }

-- one row more than there is room for
pub one_too_many : (Serves : List ℕ → Type 0) (Costs : List ℕ → ℕ → Type 0) (size room : ℕ) (limit : List ℕ) (found : List TripOf) (row : TripOf)
    → IsLevelUpTo Serves Costs size limit (found ++ row ∷ []) → room ≤ length found → HasMoreOfLevel Serves Costs size room
one_too_many Serves Costs size room limit found row level h = search (rules, length_push)

-- what is read as a slice is the trip at its place
pub read_at : (rows : List TripOf) (i : ℕ) (row : TripOf) (s : List ℕ) → i < length rows → s ≡ (get_or rows i row).riders.items →
    s ≡ get_or (trips_of rows) i []
read_at rows i row s h e = e ∙ sym (trip_at rows i row h)

pub same_front : (m : ℕ) (s d t u : List ℕ) → s ≡ t → d ≡ u → take m s ≡ take m d → take m u ≡ take m t
same_front m s d t u es ed e = ap (λ (v : List ℕ). take m v) (sym ed) ∙ sym e ∙ ap (λ (v : List ℕ). take m v) es

-- no rider is a trip, and so is one
pub no_riders : (n : ℕ) → IsTrip n []
no_riders n = record { rising = λ k h. absurd (omega arith); within = λ k d h. absurd (omega arith) }

pub one_alone : (n rider : ℕ) → rider < n → IsTrip n (rider ∷ [])
one_alone n rider low = record { rising = λ k h. absurd (omega arith); within = All-cons (λ r. r < n) rider [] low (All-nil (λ r. r < n)) }

-- the last rider of a trip is one of the batch
pub last_rider : (n : ℕ) (riders : List ℕ) (rider : ℕ) → IsTrip n (riders ++ rider ∷ []) → rider < n
last_rider n riders rider trip = subst (λ (r : ℕ). r < n) (get_or_push riders rider 0 (length riders) refl)
    (trip.within (length riders) 0 (omega (arith, length_push riders rider)))

-- the task of a row's trip with one more rider is that of the longer trip
pub longer_task : (settled : Settled) (v : ℕ) (task : Task) (riders : List ℕ) (rider : ℕ) (all : List SettledRider) (d : SettledRider) →
    task ≡ trip_task settled v riders
    → all ≡ settled.riders → IsTrip (length settled.riders) (riders ++ rider ∷ []) → task_with task (get_or all rider d).leg ≡ trip_task settled v
    (riders ++ rider ∷ [])
longer_task settled v task riders rider all d is same trip = search (rules, length_push, get_or_push, get_or_default, map_push)
