-- The rows stand by vehicle, then size, then riders.
use Rattle.std.proofs.lemmas.Bool.Decides.{nat_tests}
use Rattle.std.proofs.Common.{◌≡◌, ℕ, suc, ◌+◌, ◌<◌, ◌≤◌, inl, inr, List, [], ◌∷◌, ◌++◌, length, get_or, map, refl, sym, ◌∙◌, subst, arith, rules}
use Rattle.trip_graph.proofs.Common.{
  cases_lt,
  length-map,
  get_or_append_left,
  get_or-append_right,
  get_or-map,
  All-append,
  All-nil,
  flat_map-cons,
  Settled,
  TripRow,
  no_row,
  row_cmp,
  TripOf,
  IsLower,
  ComesBefore,
  AreSomeRows,
  trip_row,
  vehicle_rows,
}
use Rattle.std.specs.declared.cmp.Ordering.TheVariants.{Less, Equal}
use Rattle.std.specs.Ordering.{nat_cmp}
use Rattle.std.specs.Cmp.{nat_cmp_is}
use Rattle.std.specs.Cmp.Lexicographic.{slice_cmp}
use Rattle.std.specs.List.{All}
use Rattle.std.proofs.lemmas.List.{length-append}
use Rattle.trip_graph.proofs.lemmas.vehicle.TripOrder.{lower_irrefl, lower_asym}
use Rattle.trip_graph.proofs.lemmas.vehicle.TripSearch.{compared}

-- each row stands before all later ones
abbrev pub AreInOrder : List TripRow → Type 0
AreInOrder rows = (i j : ℕ) → i < j → j < length rows → row_cmp (get_or rows i no_row) (get_or rows j no_row) ≡ Less

less_cmp : (x y : ℕ) → x < y → nat_cmp x y ≡ Less
less_cmp x y h = sym (nat_cmp_is x y Less h)

same_cmp : (x y : ℕ) → x ≡ y → nat_cmp x y ≡ Equal
same_cmp x y h = sym (nat_cmp_is x y Equal h)

lower_cmp : (a b : List ℕ) → length a ≡ length b → IsLower a b → slice_cmp nat_cmp a b ≡ Less
lower_cmp a b e low = grind (arith, nat_tests, (compared a b e), (lower_irrefl b), (lower_asym a b low))

by_vehicle : (a b : TripRow) → a.vehicle < b.vehicle → row_cmp a b ≡ Less
by_vehicle a b h = rw (less_cmp a.vehicle b.vehicle h) refl

by_size : (a b : TripRow) → a.vehicle ≡ b.vehicle → length a.riders.items < length b.riders.items → row_cmp a b ≡ Less
by_size a b e h = rw (same_cmp a.vehicle b.vehicle e, less_cmp (length a.riders.items) (length b.riders.items) h) refl

by_riders : (a b : TripRow) → a.vehicle ≡ b.vehicle → length a.riders.items ≡ length b.riders.items → IsLower a.riders.items b.riders.items → row_cmp a b ≡ Less
by_riders a b e s h = rw (
  same_cmp a.vehicle b.vehicle e,
  same_cmp (length a.riders.items) (length b.riders.items) s,
  lower_cmp a.riders.items b.riders.items s
      h,
) refl

pub none_in_order : AreInOrder []
none_in_order i j less lt = absurd (omega arith)

-- rows in order behind rows in order that all stand before them
pub join_in_order : (xs ys : List TripRow) → AreInOrder xs → AreInOrder ys
    → ((i j : ℕ) → i < length xs → j < length ys → row_cmp (get_or xs i no_row) (get_or ys j no_row) ≡ Less) → AreInOrder (xs ++ ys)
join_in_order xs ys first second across i j less lt = search (rules, length-append, cases_lt, get_or_append_left, get_or-append_right)

-- a row of the vehicle with at least so many riders
record IsFrom (v size : ℕ) (row : TripRow) : Type 0 where
  own : row.vehicle ≡ v
  large : size ≤ length row.riders.items

same_size : (a b : List ℕ) → length a ≡ length b → ComesBefore a b → IsLower a b
same_size a b e (inl h) = absurd (omega arith)
same_size a b e (inr h) = h.1

module _ (tau : ℕ → ℕ → ℕ) (settled : Settled) (v : ℕ) where
  no_trip : TripOf
  no_trip = record { riders = record { items = [] }; cost = 0 }

  level_in_order : (size : ℕ) (trips : List TripOf) → AreSomeRows tau settled v (λ n. n ≡ size) trips → AreInOrder (map (trip_row v) trips)
  level_in_order size trips level i j less lt =
      let f : TripOf → List ℕ = λ row. row.riders.items in
      let n = length-map trips (trip_row v) in
      let m = length-map trips f in
      let a = level.sized i no_trip (omega arith) in
      let b = level.sized j no_trip (omega arith) in
      let low : IsLower (get_or trips i no_trip).riders.items (get_or trips j no_trip).riders.items =
      same_size _ _ (a ∙ sym b) (rw (get_or-map f trips i no_trip [] (omega arith), get_or-map f trips j no_trip [] (omega arith)) at
      (level.rising i j less (omega arith))) in
      rw (get_or-map (trip_row v) trips i no_trip no_row (omega arith), get_or-map (trip_row v) trips j no_trip no_row (omega arith))
      (by_riders (trip_row v (get_or trips i no_trip)) (trip_row v (get_or trips j no_trip)) refl (a ∙ sym b) low)

  level_from : (least size : ℕ) (trips : List TripOf) → least ≤ size → AreSomeRows tau settled v (λ n. n ≡ size) trips →
      All (IsFrom v least) (map (trip_row v) trips)
  level_from least size trips le level k d lt =
      let n = length-map trips (trip_row v) in
      let sized = level.sized k no_trip (omega arith) in
      rw (get_or-map (trip_row v) trips k no_trip d (omega arith)) (record { own = refl; large = omega arith })

  -- a level is of one size, and the levels behind it have larger ones
  levels_from : (least : ℕ) (levels : List (List (List TripOf))) → ((k : ℕ) → k < length levels →
      AreSomeRows tau settled v (λ n. n ≡ least + k) (get_or (get_or levels k []) v []))
      → AreInOrder (vehicle_rows levels v) × All (IsFrom v least) (vehicle_rows levels v)
  levels_from least [] each = (none_in_order, All-nil (IsFrom v least))
  levels_from least (lists ∷ levels) each =
      let f : List (List TripOf) → List TripRow = λ ls. map (trip_row v) (get_or ls v []) in
      let own : AreSomeRows tau settled v (λ n. n ≡ least) (get_or lists v []) = subst (λ (n : ℕ). AreSomeRows tau settled v (λ m. m ≡ n) (get_or lists v []))
      (let e : least + 0 ≡ least = omega arith in e) (each 0 (omega arith)) in
      let later : (k : ℕ) → k < length levels → AreSomeRows tau settled v (λ n. n ≡ least + 1 + k) (get_or (get_or levels k []) v []) =
      (λ k lt. subst (λ (n : ℕ). AreSomeRows tau settled v (λ m. m ≡ n) (get_or (get_or levels k []) v []))
      (let e : least + suc k ≡ least + 1 + k = omega arith in e) (each (suc k) (omega arith))) in
      let rest = levels_from (least + 1) levels later in
      let here = level_in_order least (get_or lists v []) own in
      let low = level_from least least (get_or lists v []) (omega arith) own in
      rw (flat_map-cons f lists levels) (
        join_in_order (f lists) (vehicle_rows levels v) here rest.0
            (λ i j lt less.
            let n = length-map (get_or lists v []) (trip_row v) in
            let sized = own.sized i no_trip (omega arith) in
            let at = get_or-map (trip_row v) (get_or lists v []) i no_trip no_row (omega arith) in
            let o = rest.1 j no_row less in
            rw at (by_size (trip_row v (get_or (get_or lists v []) i no_trip)) (get_or (vehicle_rows levels v) j no_row) (sym o.own) (omega (arith, o.large)))),
        All-append (IsFrom v least) (f lists) (vehicle_rows levels v) low (λ k d lt. let o =
            rest.1 k d lt in record { own = o.own; large = (let l = o.large in omega arith) }),
      )

-- the rows of one vehicle more
pub more_in_order : (tau : ℕ → ℕ → ℕ) (settled : Settled) (v : ℕ) (levels : List (List (List TripOf))) (rows : List TripRow)
    → ((k : ℕ) → k < length levels → AreSomeRows tau settled v (λ n. n ≡ k) (get_or (get_or levels k []) v []))
    → ((k : ℕ) → k < length rows → (get_or rows k no_row).vehicle < v) → AreInOrder rows → AreInOrder (rows ++ vehicle_rows levels v)
more_in_order tau settled v levels rows each below before =
    let own = levels_from tau settled v 0 levels
    (λ k lt. subst (λ (n : ℕ). AreSomeRows tau settled v (λ m. m ≡ n) (get_or (get_or levels k []) v [])) (let e : k ≡ 0 + k = omega arith in e) (each k lt)) in
    join_in_order rows (vehicle_rows levels v) before own.0
    (λ i j lt within. let b = below i lt in let o = (own.1 j no_row within).own in by_vehicle (get_or rows i no_row) (get_or (vehicle_rows levels v) j no_row)
    (omega arith))
