use Rattle.std.proofs.Common.{
  ◌≡◌,
  ℕ,
  suc,
  ◌+◌,
  ◌-◌,
  ◌<◌,
  ◌≤◌,
  inl,
  inr,
  Bool,
  true,
  false,
  Option,
  None,
  Some,
  List,
  [],
  ◌∷◌,
  ◌++◌,
  length,
  get_or,
  map,
  take,
  refl,
  sym,
  ap,
  ◌∙◌,
  subst,
  arith,
  MatchBool,
  MatchOption,
  rules,
}
use Rattle.trip_graph.proofs.Common.{
  cases_lt,
  length-map,
  get_or_append_left,
  get_or-append_right,
  get_or_push,
  get_or-map,
  get_or_default,
  get_or_past,
  take_more,
  All-append,
  All-nil,
  flat_map-cons,
  get_or-flat_map,
  sum_by-cons,
  sum_by_push,
  sum_by-take-le,
  Settled,
  SettledVehicle,
  IsServable,
  IsTrip,
  IsRow,
  trip_task,
  vehicle_at,
  IsSoundVehicle,
  TripRow,
  Graph,
  IsGoodGraph,
  no_row,
  choice_at,
  TripOf,
  AreSomeRows,
  AreRowsOfSize,
  AreLevels,
  row_total,
  level_total,
  AreRowsUpTo,
  total_upto,
  trip_row,
  vehicle_rows,
  IsRowWith,
  HoldRows,
  IsTripGraphOf,
}
use Rattle.std.specs.List.{All, flat_map}
use Rattle.std.proofs.lemmas.List.{length-append, take_all}
use Rattle.std.proofs.lemmas.List.Folds.{length-flat_map-take}
use Rattle.rider_limits.specs.declared.settings.Settings.{Settings}
use Rattle.trip_graph.specs.lemmas.batch.Rows.{AreRowsOf}

no_trip : TripOf
no_trip = record { riders = record { items = [] }; cost = 0 }

-- all rows of a vehicle, level by level
own_all : (P : TripRow → Type 0) (v : ℕ) (levels : List (List (List TripOf))) → ((k : ℕ) → k < length levels →
    All P (map (trip_row v) (get_or (get_or levels k []) v []))) → All P (vehicle_rows levels v)
own_all P v [] each = All-nil P
own_all P v (lists ∷ levels) each =
    rw (flat_map-cons (λ (ls : List (List TripOf)). map (trip_row v) (get_or ls v [])) lists levels)
    (All-append P (map (trip_row v) (get_or lists v [])) (vehicle_rows levels v) (each 0 (omega arith))
    (own_all P v levels (λ k lt. each (suc k) (omega arith))))

pub total_none : (levels : List (List (List TripOf))) → total_upto levels 0 ≡ 0
total_none [] = refl
total_none (lists ∷ levels) = search (rules, sum_by-cons, (total_none levels))

pub total_few : (levels : List (List (List TripOf))) (n : ℕ) → total_upto levels n ≤ level_total levels
total_few [] n = omega arith
total_few (lists ∷ levels) n = search (rules, sum_by-cons, sum_by-take-le, (total_few levels n))

-- of one vehicle more, which may have no list
one_more_list : (lists : List (List TripOf)) (v : ℕ) → row_total (take (v + 1) lists) ≡ row_total (take v lists) + length (get_or lists v [])
one_more_list lists v = elim (cases_lt v (length lists)) as (λ _. row_total (take (v + 1) lists) ≡ row_total (take v lists) + length (get_or lists v [])) [
  | inl lt ↦ ap row_total (take_more lists v [] lt) ∙ sum_by_push (λ (rows : List TripOf). length rows) (take v lists) (get_or lists v [])
  | inr ge ↦
      let long = take_all (v + 1) lists (omega arith) in
      let same = take_all v lists ge in
      omega (arith, ap row_total same, ap row_total long, ap length (get_or_past lists v [] ge))
]

pub total_step : (levels : List (List (List TripOf))) (v : ℕ) → total_upto levels (v + 1) ≡ total_upto levels v + length (vehicle_rows levels v)
total_step [] v = refl
total_step (lists ∷ levels) v =
    let f : List (List TripOf) → List TripRow = λ ls. map (trip_row v) (get_or ls v []) in
    let a = sum_by-cons (λ (ls : List (List TripOf)). row_total (take (v + 1) ls)) lists levels in
    let b = sum_by-cons (λ (ls : List (List TripOf)). row_total (take v ls)) lists levels in
    let long : length (vehicle_rows (lists ∷ levels) v) ≡ length (f lists) + length (vehicle_rows levels v) =
    ap length (flat_map-cons f lists levels) ∙ length-append (f lists) (vehicle_rows levels v) in
    omega (arith, length-map (get_or lists v []) (trip_row v), one_more_list lists v, total_step levels v)

-- all vehicles together have all rows
pub total_all : (levels : List (List (List TripOf))) (n : ℕ) → ((k : ℕ) → k < length levels → length (get_or levels k []) ≤ n) →
    total_upto levels n ≡ level_total levels
total_all [] n few = refl
total_all (lists ∷ levels) n few =
    let a = sum_by-cons (λ (ls : List (List TripOf)). row_total (take n ls)) lists levels in
    let b = sum_by-cons row_total lists levels in
    let rest = total_all levels n (λ k lt. few (suc k) (omega arith)) in
    let one = ap row_total (take_all n lists (few 0 (omega arith))) in
    omega arith

module _ (most : ℕ) (tau : ℕ → ℕ → ℕ) (settled : Settled) where
  pub record IsOwn (v : ℕ) (row : TripRow) : Type 0 where
    pub own : row.vehicle ≡ v
    pub right : IsRow most tau settled row.vehicle row.riders.items row.cost

  own_level : (v size : ℕ) (rows : List TripOf) → size ≤ most → AreSomeRows tau settled v (λ n. n ≡ size) rows → All (IsOwn v) (map (trip_row v) rows)
  own_level v size rows below level k d lt =
      let within : k < length rows = (let e = length-map rows (trip_row v) in omega arith) in
      let right = level.right k no_trip within in
      let served = right.served in
      rw (get_or-map (trip_row v) rows k no_trip d within)
      (record {
        own = refl;
        right = record {
          served = record {
            vehicle = served.vehicle;
            riders = served.riders;
            size =
                omega (arith, level.sized k no_trip within);
            servable = served.servable;
          };
          least = right.least;
        };
      })

  pub own_rows : (v : ℕ) (levels : List (List (List TripOf))) → length levels ≤ most + 1
      → ((k : ℕ) → k < length levels → AreSomeRows tau settled v (λ n. n ≡ k) (get_or (get_or levels k []) v [])) → All (IsOwn v) (vehicle_rows levels v)
  own_rows v levels sizes each = own_all (IsOwn v) v levels (λ k lt. own_level v k (get_or (get_or levels k []) v []) (omega arith) (each k lt))

  -- the rows of a vehicle in whole levels
  pub some_of_levels : (v : ℕ) (levels : List (List (List TripOf))) → AreLevels tau settled (most + 1) levels → v < length settled.vehicles
      → (k : ℕ) → k < length levels → AreSomeRows tau settled v (λ n. n ≡ k) (get_or (get_or levels k []) v [])
  some_of_levels v levels all less k lt = let c = all.count in ((all.each k (omega arith)).each v less).some

  own_of_levels : (v : ℕ) (levels : List (List (List TripOf))) → AreLevels tau settled (most + 1) levels → v < length settled.vehicles →
      All (IsOwn v) (vehicle_rows levels v)
  own_of_levels v levels all less = own_rows v levels (let c = all.count in omega arith) (some_of_levels v levels all less)

  own_whole : (v : ℕ) (levels : List (List (List TripOf))) (trip : List ℕ) → AreLevels tau settled (most + 1) levels → most ≤ 6 → v < length settled.vehicles
      → IsTrip (length settled.riders) trip → length trip ≤ most → IsServable tau (trip_task settled v trip)
      → (j : ℕ) × (j < length (vehicle_rows levels v)) × ((get_or (vehicle_rows levels v) j no_row).riders.items ≡ trip)
  own_whole v levels trip all few less is_trip size servable =
      let f : List (List TripOf) → List TripRow = λ ls. map (trip_row v) (get_or ls v []) in
      let g : TripOf → List ℕ = λ row. row.riders.items in
      let n = length trip in
      let lt : n < length levels = (let c = all.count in omega arith) in
      let rows = get_or (get_or levels n []) v [] in
      let level : AreRowsOfSize tau settled v n rows = (all.each n (omega arith)).each v less in
      let found = level.whole trip refl (record { vehicle = less; riders = is_trip; size = omega arith; servable = servable }) in
      let within : found.0 < length rows = (let e = length-map rows g in let h = found.1 in omega arith) in
      let inside : found.0 < length (f (get_or levels n [])) = (let e = length-map rows (trip_row v) in omega arith) in
      let at = get_or-flat_map f levels n found.0 [] no_row lt inside in
      let item : (get_or (map (trip_row v) rows) found.0 no_row).riders.items ≡ trip =
      ap (λ (r : TripRow). r.riders.items) (get_or-map (trip_row v) rows found.0 no_trip no_row within) ∙ sym (get_or-map g rows found.0 no_trip trip within) ∙
      found.2 in
      (length (flat_map f (take n levels)) + found.0, omega (arith, length-flat_map-take f levels n [] lt), ap (λ (r : TripRow). r.riders.items) at ∙ item)

  pub rows_none : AreRowsUpTo most tau settled 0 []
  rows_none = record { right = λ k lt. absurd (omega arith); below = λ k lt. absurd (omega arith); whole = λ v trip lt. absurd (omega arith) }

  -- rows of one vehicle more
  pub rows_more : (v : ℕ) (levels : List (List (List TripOf))) (rows : List TripRow) → AreLevels tau settled (most + 1) levels → most ≤ 6 →
      v < length settled.vehicles
      → AreRowsUpTo most tau settled v rows → AreRowsUpTo most tau settled (v + 1) (rows ++ vehicle_rows levels v)
  rows_more v levels rows all few less before =
      let new = vehicle_rows levels v in
      let own = own_of_levels v levels all less in
      let count = length-append rows new in
      let each : (k : ℕ) → k < length (rows ++ new) → IsRow most tau settled (get_or (rows ++ new) k no_row).vehicle
      (get_or (rows ++ new) k no_row).riders.items (get_or (rows ++ new) k no_row).cost
      × ((get_or (rows ++ new) k no_row).vehicle < v + 1) =
      (λ k lt. elim (cases_lt k (length rows)) as (λ _. IsRow most tau settled (get_or (rows ++ new) k no_row).vehicle
      (get_or (rows ++ new) k no_row).riders.items (get_or (rows ++ new) k no_row).cost
      × ((get_or (rows ++ new) k no_row).vehicle < v + 1)) [
        | inl lower ↦ rw (get_or_append_left rows new no_row k lower) (before.right k lower, (let b = before.below k lower in omega arith))
        | inr ge ↦
            let o = own (k - length rows) no_row (omega arith) in
            rw (get_or-append_right rows new (length rows) k no_row refl ge) (o.right, (let e = o.own in omega arith))
      ]) in
      record {
        right = λ k lt. (each k lt).0;
        below = λ k lt. (each k lt).1;
        whole = λ w trip lt is_trip size servable. elim (cases_lt w v) as (λ _. (k : ℕ) × IsRowWith (rows ++ new) w trip k) [
          | inl lower ↦
              let old = before.whole w trip lower is_trip size servable in
              let at = old.1 in (
                old.0,
                record {
                  within = (let h = at.within in omega arith);
                  own = rw (get_or_append_left rows new no_row old.0 at.within) at.own;
                  trip = rw (get_or_append_left rows new no_row old.0 at.within) at.trip;
                },
              )
          | inr ge ↦
              let e : v ≡ w = omega arith in
              subst (λ (x : ℕ). (k : ℕ) × IsRowWith (rows ++ new) x trip k) e (
              let s = subst (λ (x : ℕ). IsServable tau (trip_task settled x trip)) (sym e) servable in
              let found = own_whole v levels trip all few less is_trip size s in
              let there : length rows ≤ length rows + found.0 = omega arith in
              let back : length rows + found.0 - length rows ≡ found.0 = omega arith in
              let at : get_or (rows ++ new) (length rows + found.0) no_row ≡ get_or new found.0 no_row =
              get_or-append_right rows new (length rows) (length rows + found.0) no_row refl there ∙ ap (λ (i : ℕ). get_or new i no_row) back in
              let o = own found.0 no_row found.1 in (
                length rows + found.0,
                record {
                  within = (let h = found.1 in omega arith);
                  own = rw at o.own;
                  trip = rw at found.2;
                },
              ))
        ];
      }

  pub hold_none : HoldRows settled 0 [] []
  hold_none = record { count = refl; each = λ v lt. absurd (omega arith) }

  -- what held_row says
  abbrev pub Finds : ℕ → List TripRow → ℕ → Option ℕ → Type 0
  Finds v rows from h = MatchBool (vehicle_at settled v).late (h ≡ None)
      (MatchOption h ((k : ℕ) → from ≤ k → k < length rows → (get_or rows k no_row).riders.items ≡ (vehicle_at settled v).held.items → ⊥)
      (λ k. (from ≤ k) × (k < length rows) × ((get_or rows k no_row).riders.items ≡ (vehicle_at settled v).held.items)))

  pub finds_at : (v from : ℕ) (vehicle : SettledVehicle) (seen rows : List TripRow) (n : ℕ) (h : Option ℕ) → vehicle ≡ vehicle_at settled v → seen ≡ rows →
      from ≡ n
      → MatchBool vehicle.late (h ≡ None) (MatchOption h ((k : ℕ) → from ≤ k → k < length seen → (get_or seen k no_row).riders.items ≡ vehicle.held.items → ⊥)
      (λ k. (from ≤ k) × (k < length seen) × ((get_or seen k no_row).riders.items ≡ vehicle.held.items))) → Finds v rows n h
  finds_at v from vehicle seen rows n h e f g found = rw (e, f, g) at found

  holds : (late : Bool) (h : Option ℕ) (from v : ℕ) (rows : List TripRow) (riders : List ℕ)
      → MatchBool late (h ≡ None) (MatchOption h ((k : ℕ) → from ≤ k → k < length rows → (get_or rows k no_row).riders.items ≡ riders → ⊥)
      (λ k. (from ≤ k) × (k < length rows) × ((get_or rows k no_row).riders.items ≡ riders)))
      → (late ≡ false → (k : ℕ) × IsRowWith rows v riders k)
      → ((k : ℕ) → k < length rows → (get_or rows k no_row).vehicle ≡ v → from ≤ k)
      → ((k : ℕ) → from ≤ k → k < length rows → (get_or rows k no_row).vehicle ≡ v)
      → MatchBool late (h ≡ None) ((k : ℕ) × (h ≡ Some k) × IsRowWith rows v riders k)
  holds true h from v rows riders found served above own = found
  holds false None from v rows riders found served above own = search rules
  holds false (Some k) from v rows riders found served above own = (k, refl, record { within = found.1; own = own k found.0 found.1; trip = found.2 })

  can_hold : (late : Bool) (v : ℕ) (held : List ℕ) → MatchBool late (IsServable tau (trip_task settled v []) → ⊥) (IsServable tau (trip_task settled v []))
      → (0 < length held → IsServable tau (trip_task settled v held)) → late ≡ false → IsServable tau (trip_task settled v held)
  can_hold late v [] free some e = rw e at free
  can_hold late v (r ∷ rs) free some e = some (omega arith)

  -- the row that one vehicle more holds
  pub hold_more : (points v : ℕ) (levels : List (List (List TripOf))) (rows : List TripRow) (held : List (Option ℕ)) (h : Option ℕ) →
      AreLevels tau settled (most + 1) levels → most ≤ 6
      → v < length settled.vehicles → IsSoundVehicle most points tau settled v → AreRowsUpTo most tau settled v rows → HoldRows settled v rows held
      → Finds v (rows ++ vehicle_rows levels v) (length rows) h → HoldRows settled (v + 1) (rows ++ vehicle_rows levels v) (held ++ h ∷ [])
  hold_more points v levels rows held h all few less sound before hold found =
      let new = vehicle_rows levels v in
      let vehicle = vehicle_at settled v in
      let own = own_of_levels v levels all less in
      let after = rows_more v levels rows all few less before in
      let count = length-append rows new in
      let last : MatchBool vehicle.late (h ≡ None) ((k : ℕ) × (h ≡ Some k) × IsRowWith (rows ++ new) v vehicle.held.items k) =
      holds vehicle.late h (length rows) v (rows ++ new) vehicle.held.items found
      (λ e. after.whole v vehicle.held.items (omega arith) sound.held sound.held_size (can_hold vehicle.late v vehicle.held.items sound.late sound.held_servable
      e))
      (λ k lt is. elim (cases_lt k (length rows)) as (λ _. length rows ≤ k) [
        | inl lower ↦
            let e : get_or (rows ++ new) k no_row ≡ get_or rows k no_row = get_or_append_left rows new no_row k lower in
            let f : (get_or rows k no_row).vehicle ≡ v = ap (λ (r : TripRow). r.vehicle) (sym e) ∙ is in
            absurd (omega (arith, before.below k lower))
        | inr ge ↦ ge
      ])
      (λ k ge lt. rw (get_or-append_right rows new (length rows) k no_row refl ge) ((own (k - length rows) no_row (omega arith)).own)) in
      record {
        count = (let a = length-append held (h ∷ []) in let b = hold.count in omega arith);
        each = λ w lt. elim (cases_lt w v) as (λ _. MatchBool (vehicle_at settled w).late (choice_at (held ++ h ∷ []) w ≡ None)
            ((k : ℕ) × (choice_at (held ++ h ∷ []) w ≡ Some k) × IsRowWith (rows ++ new) w (vehicle_at settled w).held.items k)) [
              | inl lower ↦
                  rw (get_or_append_left held (h ∷ []) None w (let b = hold.count in omega arith))
                  (kept (vehicle_at settled w).late (choice_at held w) w (vehicle_at settled w).held.items rows new (hold.each w lower))
              | inr ge ↦
                  let e : v ≡ w = omega arith in
                  subst (λ (x : ℕ). MatchBool (vehicle_at settled x).late (choice_at (held ++ h ∷ []) x ≡ None)
                  ((k : ℕ) × (choice_at (held ++ h ∷ []) x ≡ Some k) × IsRowWith (rows ++ new) x (vehicle_at settled x).held.items k)) e
                  (rw (get_or_push held h None v hold.count) last)
            ];
      }
    where
      kept : (late : Bool) (h : Option ℕ) (w : ℕ) (riders : List ℕ) (rows new : List TripRow) →
          MatchBool late (h ≡ None) ((k : ℕ) × (h ≡ Some k) × IsRowWith rows w riders k)
          → MatchBool late (h ≡ None) ((k : ℕ) × (h ≡ Some k) × IsRowWith (rows ++ new) w riders k)
      kept true h w riders rows new was = was
      kept false h w riders rows new was =
          let at = was.2 in (
            was.0,
            was.1,
            record {
              within = (let a = length-append rows new in let b = at.within in omega arith);
              own = rw (get_or_append_left rows new no_row was.0 at.within) at.own;
              trip = rw (get_or_append_left rows new no_row was.0 at.within) at.trip;
            },
          )

  pub total_more : (v : ℕ) (levels : List (List (List TripOf))) (rows : List TripRow) → AreLevels tau settled (most + 1) levels → v < length settled.vehicles →
      length rows ≡ total_upto levels v
      → length (rows ++ vehicle_rows levels v) ≡ total_upto levels (v + 1)
  total_more v levels rows all less so_far = search (rules, total_step, length-append)

-- the rows of all vehicles
rows_of_all : (most : ℕ) (tau : ℕ → ℕ → ℕ) (settled : Settled) (rows : List TripRow) → AreRowsUpTo most tau settled (length settled.vehicles) rows →
    AreRowsOf most tau settled rows
rows_of_all most tau settled rows all = record {
  right = λ k d lt. subst (λ (row : TripRow). IsRow most tau settled row.vehicle row.riders.items row.cost) (get_or_default rows k no_row d lt)
      (all.right k lt);
  whole = λ v trip can. all.whole v trip can.vehicle can.riders can.size can.servable;
}

pub graph_right : (settings : Settings) (tau : ℕ → ℕ → ℕ) (settled : Settled) (graph : Graph) (vehicles riders : ℕ) (rows : List TripRow)
    (held : List (Option ℕ))
    → graph ≡ record { vehicles = vehicles; riders = riders; penalty = settings.penalty; rows = rows; held = held } → IsGoodGraph graph
    → vehicles ≡ length settled.vehicles → riders ≡ length settled.riders → AreRowsUpTo settings.trip tau settled (length settled.vehicles) rows
    → HoldRows settled (length settled.vehicles) rows held → length rows ≤ settings.pairs → IsTripGraphOf settings tau settled graph
graph_right settings tau settled graph vehicles riders rows held value good a b exact hold few =
    let r : rows ≡ graph.rows = sym (ap (λ (g : Graph). g.rows) value) in
    let h : held ≡ graph.held = sym (ap (λ (g : Graph). g.held) value) in
    let all = subst (λ (x : List TripRow). AreRowsOf settings.trip tau settled x) r (rows_of_all settings.trip tau settled rows exact) in
    record {
      vehicle_total = ap (λ (g : Graph). g.vehicles) value ∙ a;
      rider_total = ap (λ (g : Graph). g.riders) value ∙ b;
      left_out = ap (λ (g : Graph). g.penalty) value;
      right = all.right;
      whole = all.whole;
      hold = (subst (λ (y : List (Option ℕ)). HoldRows settled (length settled.vehicles) graph.rows y) h
          (subst (λ (x : List TripRow). HoldRows settled (length settled.vehicles) x held) r hold)).each;
      few = subst (λ (x : List TripRow). length x ≤ settings.pairs) r few;
      good = good;
    }
