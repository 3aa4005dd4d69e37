use Rattle.std.proofs.lemmas.Bool.Decides.{nat_tests}
use Rattle.std.proofs.Common.{◌≡◌, ℕ, suc, ◌+◌, ◌-◌, ◌<◌, ◌≤◌, inl, inr, List, [], ◌∷◌, ◌++◌, length, get_or, Contains, add-one, sym, ◌∙◌, subst, arith, rules}
use Rattle.trip_graph.proofs.Common.{
  cases_lt,
  length-map,
  get_or_append_left,
  get_or_push,
  get_or-map,
  get_or_default,
  All-nil,
  sum_by_push,
  IsTravelTime,
  Settled,
  SubTripsAreServable,
  CanServe,
  IsTrip,
  IsSound,
  TripOf,
  ComesBefore,
  trips_of,
  AreSomeRows,
  AreRowsOfSize,
  HasMoreThan,
  IsLevelOf,
  AreLevelsUpTo,
  HasMoreOfSize,
  AreLevels,
  row_total,
  level_total,
  AreLevelsOf,
  HasMoreRows,
}
use native.Mathlib.Numerals.{unary_clauses}
use Rattle.std.proofs.lemmas.List.{length-append}
use Rattle.trip_graph.specs.declared.vehicle.level.Level.{Level}
use Rattle.trip_graph.proofs.batch.MoreRows.{more_rows}

none_before : (a b : List ℕ) → length a ≡ 0 → length b ≡ 0 → ComesBefore a b → ⊥
none_before [] b p q (inl h) = absurd (omega arith)
none_before [] b p q (inr h) = h.1
none_before (x ∷ xs) b p q h = absurd (omega arith)

pub total_more : (lists : List (List TripOf)) (rows : List TripOf) → row_total (lists ++ rows ∷ []) ≡ row_total lists + length rows
total_more lists rows = sum_by_push (λ (r : List TripOf). length r) lists rows

pub total_level : (levels : List (List (List TripOf))) (lists : List (List TripOf)) → level_total (levels ++ lists ∷ []) ≡ level_total levels + row_total lists
total_level levels lists = sum_by_push row_total levels lists

-- a trip without its first rider
trip_rest : (riders x : ℕ) (xs : List ℕ) → IsTrip riders (x ∷ xs) → IsTrip riders xs
trip_rest riders x xs trip = record {
  rising = λ k lt. let up = simp unary_clauses at (trip.rising (suc k) (omega (arith, lt))) in rw add-one up;
  within = λ k d lt. trip.within (suc k) d (omega (arith, lt));
}

contains_none : (trip : List ℕ) → Contains (trips_of []) trip → ⊥
contains_none trip found = let within = found.1 in absurd (omega arith)

module _ (tau : ℕ → ℕ → ℕ) (settled : Settled) where
  pub few_empty : (v : ℕ) (rows : List TripOf) → AreRowsOfSize tau settled v 0 rows → length rows ≤ 1
  few_empty v rows own =
      elim (cases_lt 1 (length rows)) as (λ _. length rows ≤ 1) [
        | inl more ↦
            let f : TripOf → List ℕ = λ row. row.riders.items in
            let whole : length (trips_of rows) ≡ length rows = length-map rows f in
            let d : TripOf = record { riders = record { items = [] }; cost = 0 } in
            let first : length (get_or (trips_of rows) 0 []) ≡ 0 = rw (get_or-map f rows 0 d [] (omega arith)) (own.some.sized 0 d (omega arith)) in
            let second : length (get_or (trips_of rows) 1 []) ≡ 0 = rw (get_or-map f rows 1 d [] (omega arith)) (own.some.sized 1 d more) in
            absurd (none_before (get_or (trips_of rows) 0 []) (get_or (trips_of rows) 1 []) first second (own.some.rising 0 1 (omega arith) (omega arith)))
        | inr ge ↦ omega arith
      ]

  -- the rows from which those of one more rider grow
  pub read_below : (size count v : ℕ) (lists : List (List TripOf)) (rows : List TripOf) → AreLevelsUpTo tau settled size count lists → v < count
      → rows ≡ get_or lists v rows → AreRowsOfSize tau settled v (size + 1 - 1) rows
  read_below size count v lists rows level lt is =
      let within : v < length lists = (let t = level.total in omega arith) in
      let e : get_or lists v [] ≡ rows = get_or_default lists v [] rows within ∙ sym is in
      let s : size ≡ size + 1 - 1 = omega arith in
      subst (λ (n : ℕ). AreRowsOfSize tau settled v n rows) s (subst (λ (r : List TripOf). AreRowsOfSize tau settled v size r) e (level.each v lt))

  -- what the vehicle of one number gave
  pub own_level : (size room number at : ℕ) (vehicles : List ℕ) (levels : List Level) (level : Level) → AreLevelsOf tau settled size room vehicles levels →
      number ≡ at
      → (at < length levels) × (level ≡ get_or levels at level) → IsLevelOf tau settled (get_or vehicles number 0) size room level
  own_level size room number at vehicles levels level all same found = search rules

  pub level_more : (size n : ℕ) (lists : List (List TripOf)) (rows : List TripOf) → AreLevelsUpTo tau settled size n lists →
      AreRowsOfSize tau settled n size rows
      → AreLevelsUpTo tau settled size (n + 1) (lists ++ rows ∷ [])
  level_more size n lists rows level own =
      record {
        total = (let a = length-append lists (rows ∷ []) in let b = level.total in omega arith);
        each = λ v lt. elim (cases_lt v n) as (λ _. AreRowsOfSize tau settled v size (get_or (lists ++ rows ∷ []) v [])) [
          | inl less ↦ rw (get_or_append_left lists (rows ∷ []) [] v (let b = level.total in omega arith)) (level.each v less)
          | inr ge ↦
              let e : n ≡ v = omega arith in
              subst (λ (w : ℕ). AreRowsOfSize tau settled w size (get_or (lists ++ rows ∷ []) w [])) e (rw (get_or_push lists rows [] n level.total) own)
        ];
      }

  -- a vehicle without rows of a size has none of one rider more
  pub none_next : SubTripsAreServable → (points v size : ℕ) → IsTravelTime points tau → IsSound 6 points tau settled → v < length settled.vehicles
      → AreRowsOfSize tau settled v size [] → AreRowsOfSize tau settled v (size + 1) []
  none_next law points v size travel sound lt own = record {
    some = record {
      right = All-nil _;
      sized = All-nil _;
      rising = λ i j less within. absurd (omega arith);
    };
    whole = λ trip long served. absurd (by trip long served);
  }
    where
      by : (trip : List ℕ) → length trip ≡ size + 1 → CanServe 6 tau settled v trip → ⊥
      by [] long served = omega arith
      by (x ∷ xs) long served =
          let rest : CanServe 6 tau settled v xs = record {
            vehicle = lt;
            riders = trip_rest (length settled.riders) x xs served.riders;
            size = (let few = served.size in omega arith);
            servable = law 6 points tau settled v (x ∷ xs) 0 travel sound lt served.riders served.size (omega arith) served.servable;
          }
          in
          contains_none xs (own.whole xs (omega arith) rest)

  -- one vehicle more, which has no rows of one rider fewer
  pub level_skip : SubTripsAreServable → (points size n : ℕ) (below lists : List (List TripOf)) → IsTravelTime points tau → IsSound 6 points tau settled
      → AreLevelsUpTo tau settled size (length settled.vehicles) below → n < length settled.vehicles → get_or below n [] ≡ []
      → AreLevelsUpTo tau settled (size + 1) n lists → AreLevelsUpTo tau settled (size + 1) (n + 1) (lists ++ [] ∷ [])
  level_skip law points size n below lists travel sound level lt none before =
      level_more (size + 1) n lists [] before
      (none_next law points n size travel sound lt (subst (λ (rows : List TripOf). AreRowsOfSize tau settled n size rows) none (level.each n lt)))

  -- some rows of one vehicle more, which together with those before are more than the room
  pub more_than_room : (size room n : ℕ) (lists : List (List TripOf)) (rows : List TripOf) → AreLevelsUpTo tau settled size n lists →
      AreSomeRows tau settled n (λ m. m ≡ size) rows
      → n < length settled.vehicles → room < row_total lists + length rows → HasMoreOfSize tau settled size room
  more_than_room size room n lists rows level own lt more =
      record {
        lists = lists ++ rows ∷ [];
        few = (let a = length-append lists (rows ∷ []) in let b = level.total in omega arith);
        each = λ v less. elim (cases_lt v n) as (λ _. AreSomeRows tau settled v (λ m. m ≡ size) (get_or (lists ++ rows ∷ []) v [])) [
          | inl lower ↦ rw (get_or_append_left lists (rows ∷ []) [] v (let b = level.total in omega arith)) (level.each v lower).some
          | inr ge ↦
              let e : n ≡ v = (let a = length-append lists (rows ∷ []) in let b = level.total in omega arith) in
              subst (λ (w : ℕ). AreSomeRows tau settled w (λ m. m ≡ size) (get_or (lists ++ rows ∷ []) w [])) e
              (rw (get_or_push lists rows [] n level.total) own)
        ];
        more = rw (total_more lists rows) more;
      }

  -- the vehicle alone has more rows than there is room left
  pub more_than_left : (size room left n : ℕ) (lists : List (List TripOf)) → AreLevelsUpTo tau settled size n lists
      → HasMoreThan tau settled n (λ m. m ≡ size) left → n < length settled.vehicles → room ≤ row_total lists + left → HasMoreOfSize tau settled size room
  more_than_left size room left n lists level more lt enough = grind (arith, nat_tests, (more_than_room size room n lists more.rows level more.some lt))

  pub levels_one : (lists : List (List TripOf)) → AreLevelsUpTo tau settled 0 (length settled.vehicles) lists → AreLevels tau settled 1 (lists ∷ [])
  levels_one lists level = search rules

  pub levels_more : (sizes : ℕ) (levels : List (List (List TripOf))) (lists : List (List TripOf)) → AreLevels tau settled sizes levels →
      AreLevelsUpTo tau settled sizes (length settled.vehicles) lists
      → AreLevels tau settled (sizes + 1) (levels ++ lists ∷ [])
  levels_more sizes levels lists all level =
      record {
        count = (let a = length-append levels (lists ∷ []) in let b = all.count in omega arith);
        each = λ k lt. elim (cases_lt k sizes) as (λ _. AreLevelsUpTo tau settled k (length settled.vehicles) (get_or (levels ++ lists ∷ []) k [])) [
          | inl less ↦ rw (get_or_append_left levels (lists ∷ []) [] k (let b = all.count in omega arith)) (all.each k less)
          | inr ge ↦
              let e : sizes ≡ k = omega arith in
              subst (λ (j : ℕ). AreLevelsUpTo tau settled j (length settled.vehicles) (get_or (levels ++ lists ∷ []) j [])) e
              (rw (get_or_push levels lists [] sizes all.count) level)
        ];
      }

  pub more_of_first : (most room : ℕ) (lists : List (List TripOf)) → most ≤ 6 → AreLevelsUpTo tau settled 0 (length settled.vehicles) lists →
      room < row_total lists → HasMoreRows tau settled most room
  more_of_first most room lists small level more =
      more_rows most tau settled room (lists ∷ []) small (record {
        sizes = omega arith;
        few = λ k lt. let e : 0 ≡ k = omega arith in subst (λ (j : ℕ). length (get_or (lists ∷ []) j []) ≤ length settled.vehicles) e
            (let t = level.total in omega arith);
        each = λ k v lt less. let e : 0 ≡ k = omega arith in
            subst (λ (j : ℕ). v < length (get_or (lists ∷ []) j []) → AreSomeRows tau settled v (λ n. n ≡ j) (get_or (get_or (lists ∷ []) j []) v [])) e
            (λ h. (level.each v (let t = level.total in omega arith)).some) less;
      }) (omega arith)

  pub more_of_next : (most room left sizes : ℕ) (levels : List (List (List TripOf))) → most ≤ 6 → AreLevels tau settled sizes levels →
      HasMoreOfSize tau settled sizes left → sizes ≤ most
      → room ≤ level_total levels + left → HasMoreRows tau settled most room
  more_of_next most room left sizes levels small all more below enough =
      let n = length settled.vehicles in
      more_rows most tau settled room (levels ++ more.lists ∷ []) small (record {
        sizes = (let a = length-append levels (more.lists ∷ []) in let b = all.count in omega arith);
        few = λ k lt. elim (cases_lt k sizes) as (λ _. length (get_or (levels ++ more.lists ∷ []) k []) ≤ n) [
          | inl less ↦ rw (get_or_append_left levels (more.lists ∷ []) [] k (let b = all.count in omega arith)) (let t = (all.each k less).total in omega arith)
          | inr ge ↦
              let e : sizes ≡ k = (let a = length-append levels (more.lists ∷ []) in let b = all.count in omega arith) in
              subst (λ (j : ℕ). length (get_or (levels ++ more.lists ∷ []) j []) ≤ n) e (rw (get_or_push levels more.lists [] sizes all.count) more.few)
        ];
        each = λ k v lt. elim (cases_lt k sizes) as (λ _. v < length (get_or (levels ++ more.lists ∷ []) k []) →
            AreSomeRows tau settled v (λ n. n ≡ k) (get_or (get_or (levels ++ more.lists ∷ []) k []) v [])) [
              | inl less ↦ rw (get_or_append_left levels (more.lists ∷ []) [] k (let b = all.count in omega arith))
                  (λ h. ((all.each k less).each v (let t = (all.each k less).total in omega arith)).some)
              | inr ge ↦
                  let e : sizes ≡ k = (let a = length-append levels (more.lists ∷ []) in let b = all.count in omega arith) in
                  subst (λ (j : ℕ). v < length (get_or (levels ++ more.lists ∷ []) j []) → AreSomeRows tau settled v (λ n. n ≡ j)
                  (get_or (get_or (levels ++ more.lists ∷ []) j []) v [])) e
                  (rw (get_or_push levels more.lists [] sizes all.count) (more.each v))
            ];
      }) (rw (total_level levels more.lists) (let m = more.more in omega arith))
