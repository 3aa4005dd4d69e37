-- The edges between vehicles and riders are the rows of one rider.
use Rattle.std.proofs.Common.{
  ◌≡◌,
  ℕ,
  zero,
  suc,
  ◌+◌,
  ◌<◌,
  ◌≤◌,
  inl,
  inr,
  List,
  [],
  ◌∷◌,
  ◌++◌,
  length,
  get_or,
  map,
  take,
  refl,
  sym,
  ap,
  ◌∙◌,
  subst,
  arith,
  add-one,
}
use Rattle.trip_graph.proofs.Common.{
  cases_lt,
  length-map,
  get_or-map,
  get_or_default,
  map-append,
  take_more,
  RvEdge,
  IsRvGraph,
  no_edge,
  Settled,
  CanServe,
  IsRvEdge,
  TripOf,
  AreRowsOfSize,
  ComesBefore,
  trips_of,
  HasOneRider,
  edges_upto,
  single_edge,
  AreLevelsUpTo,
}
use Rattle.std.specs.List.{All}
use Rattle.std.proofs.lemmas.List.{append-nil, append_assoc, take_all}
use Rattle.trip_graph.proofs.lemmas.vehicle.TripSearch.{one_rider}
use Rattle.trip_graph.specs.lemmas.pairs.Edge.{pair_of}
use Rattle.trip_graph.proofs.lemmas.pairs.Listing.{ListsBefore, lists_none, lists_taken, lists_skipped, lists_next, lists_whole}

abbrev no_trip : TripOf
no_trip = record { riders = record { items = [] }; cost = 0 }

abbrev entry : ℕ → ℕ → RvEdge
entry v r = record { vehicle = v; rider = r }

lower_one : (x y : ℕ) → ComesBefore (x ∷ []) (y ∷ []) → x < y
lower_one x y (inl shorter) = absurd (omega arith)
lower_one x y (inr (same, inl less)) = less
lower_one x y (inr (same, inr (equal, never))) = absurd never

module _ (tau : ℕ → ℕ → ℕ) (settled : Settled) where
  abbrev Lists : ℕ → ℕ → List RvEdge → Type 0
  Lists a b xs = ListsBefore RvEdge pair_of entry no_edge (IsRvEdge tau settled) a b xs

  module _ (v : ℕ) (rows : List TripOf) (own : AreRowsOfSize tau settled v 1 rows) where
    abbrev rider_at : ℕ → ℕ
    rider_at k = get_or (get_or rows k no_trip).riders.items 0 0

    trip_is : (k : ℕ) → k < length rows → (get_or rows k no_trip).riders.items ≡ rider_at k ∷ []
    trip_is k lt = one_rider (get_or rows k no_trip).riders.items (own.some.sized k no_trip lt)

    trip_read : (k : ℕ) → k < length rows → get_or (trips_of rows) k [] ≡ rider_at k ∷ []
    trip_read k lt = get_or-map (λ (row : TripOf). row.riders.items) rows k no_trip [] lt ∙ trip_is k lt

    is_edge : (k : ℕ) → k < length rows → IsRvEdge tau settled v (rider_at k)
    is_edge k lt =
        let served = (own.some.right k no_trip lt).served in
        subst (λ (t : List ℕ). CanServe 1 tau settled v t) (trip_is k lt)
        (record { vehicle = served.vehicle; riders = served.riders; size = omega (arith, own.some.sized k no_trip lt); servable = served.servable })

    rises : (i j : ℕ) → i < j → j < length rows → rider_at i < rider_at j
    rises i j less lt =
        let within : j < length (trips_of rows) = (let e = length-map rows (λ (row : TripOf). row.riders.items) in omega arith) in
        let b = own.some.rising i j less within in
        lower_one (rider_at i) (rider_at j)
        (subst (λ (t : List ℕ). ComesBefore t (rider_at j ∷ [])) (trip_read i (omega arith))
        (subst (λ (t : List ℕ). ComesBefore (get_or (trips_of rows) i []) t) (trip_read j lt) b))

    is_row : (r : ℕ) → IsRvEdge tau settled v r → (k : ℕ) × (k < length rows) × (rider_at k ≡ r)
    is_row r e =
        let found = own.whole (r ∷ []) refl (record { vehicle = e.vehicle; riders = e.riders; size = omega (arith, e.size); servable = e.servable }) in
        let k = found.0 in
        let lt : k < length rows = (let w = found.1 in let n = length-map rows (λ (row : TripOf). row.riders.items) in omega arith) in
        (k, lt, ap (λ (t : List ℕ). get_or t 0 0) (sym (get_or-map (λ (row : TripOf). row.riders.items) rows k no_trip (r ∷ []) lt) ∙ found.2))

    -- from which rider on nothing is listed after so many rows
    abbrev from : ℕ → ℕ
    from zero = 0
    from (suc k) = rider_at k + 1

    from_low : (k : ℕ) → k < length rows → from k ≤ rider_at k
    from_low zero lt = omega arith
    from_low (suc k) lt = let less = rises k (suc k) (omega arith) lt in omega arith

    -- a row of these riders would stand before or behind
    row_before : (k j : ℕ) → j < k → k ≤ length rows → rider_at j < from k
    row_before zero j less le = absurd (omega arith)
    row_before (suc k) j less le = elim (cases_lt j k) [
      | inl lt ↦ (let before = rises j k lt (omega arith) in omega arith)
      | inr ge ↦ (let same : j ≡ k = omega arith in let here = ap rider_at same in omega arith)
    ]

    above : (k j : ℕ) → k ≤ j → j < length rows → rider_at k ≤ rider_at j
    above k j ge lt = elim (cases_lt k j) [
      | inl less ↦ (let before = rises k j less lt in omega arith)
      | inr le ↦ (let same : k ≡ j = omega arith in let here = ap rider_at same in omega arith)
    ]

    none_between : (k : ℕ) → k < length rows → (r : ℕ) → from k ≤ r → r < rider_at k → IsRvEdge tau settled v r → ⊥
    none_between k lt r low high e = let found = is_row r e in let j = found.0 in let is = found.2 in elim (cases_lt j k) [
      | inl less ↦ (let before = row_before k j less (omega arith) in absurd (omega arith))
      | inr ge ↦ (let over = above k j ge found.1 in absurd (omega arith))
    ]

    none_behind : (r : ℕ) → from (length rows) ≤ r → IsRvEdge tau settled v r → ⊥
    none_behind r low e =
        let found = is_row r e in
        let b = row_before (length rows) found.0 found.1 (omega arith) in
        absurd (omega (arith, found.2))

    lists_rows : (xs : List RvEdge) → Lists v 0 xs → (k : ℕ) → k ≤ length rows → Lists v (from k) (xs ++ map (single_edge v) (take k rows))
    lists_rows xs l zero le = rw (append-nil xs) l
    lists_rows xs l (suc k) le =
        let lt : k < length rows = omega arith in
        let row = get_or rows k no_trip in
        let ys = xs ++ map (single_edge v) (take k rows) in
        let skipped = lists_skipped RvEdge pair_of entry no_edge (IsRvEdge tau settled) v (from k) (rider_at k) ys (from_low k lt) (none_between k lt)
        (lists_rows xs l k (omega arith)) in
        let taken = lists_taken RvEdge pair_of entry no_edge (IsRvEdge tau settled) v (rider_at k) ys (single_edge v row) refl refl (is_edge k lt) skipped in
        let more : take (k + 1) rows ≡ take k rows ++ row ∷ [] = take_more rows k no_trip lt in
        let longer : xs ++ map (single_edge v) (take (suc k) rows) ≡ ys ++ single_edge v row ∷ [] =
        ap (λ (t : List TripOf). xs ++ map (single_edge v) t) (rw add-one at more)
        ∙ ap (λ (t : List RvEdge). xs ++ t) (map-append (single_edge v) (take k rows) (row ∷ []))
        ∙ sym (append_assoc xs (map (single_edge v) (take k rows)) (single_edge v row ∷ [])) in
        subst (λ (t : List RvEdge). Lists v (rider_at k + 1) t) (sym longer) taken

    lists_vehicle : (xs : List RvEdge) → Lists v 0 xs → Lists (v + 1) 0 (xs ++ map (single_edge v) rows)
    lists_vehicle xs l =
        let n = from (length rows) + length settled.riders in
        let all = lists_rows xs l (length rows) (omega arith) in
        let whole = subst (λ (t : List TripOf). Lists v (from (length rows)) (xs ++ map (single_edge v) t)) (take_all (length rows) rows (omega arith)) all in
        let skipped = lists_skipped RvEdge pair_of entry no_edge (IsRvEdge tau settled) v (from (length rows)) n (xs ++ map (single_edge v) rows) (omega arith)
        (λ r low high e. none_behind r low e) whole in
        lists_next RvEdge pair_of entry no_edge (IsRvEdge tau settled) v n (xs ++ map (single_edge v) rows)
        (λ r e. let under = e.riders.within 0 0 (omega arith) in omega arith) skipped

  lists_upto : (lists : List (List TripOf)) (count : ℕ) → ((v : ℕ) → v < count → AreRowsOfSize tau settled v 1 (get_or lists v [])) →
      Lists count 0 (edges_upto lists count)
  lists_upto lists zero each = lists_none RvEdge pair_of entry no_edge (IsRvEdge tau settled)
  lists_upto lists (suc v) each =
      let rows = get_or lists v [] in
      let more : Lists (v + 1) 0 (edges_upto lists v ++ map (single_edge v) rows) =
      lists_vehicle v rows (each v (omega arith)) (edges_upto lists v) (lists_upto lists v (λ w lt. each w (omega arith))) in
      rw add-one at more

  pub rv_of_singles : (lists : List (List TripOf)) → AreLevelsUpTo tau settled 1 (length settled.vehicles) lists →
      IsRvGraph tau settled (edges_upto lists (length lists))
  rv_of_singles lists level =
      let n = length settled.vehicles in
      let all = lists_upto lists n level.each in
      subst (λ (m : ℕ). IsRvGraph tau settled (edges_upto lists m)) (sym level.total)
      (record {
        right = all.right;
        rising = all.rising;
        whole = lists_whole RvEdge pair_of entry no_edge (IsRvEdge tau settled) n n (edges_upto lists n) (omega arith) (λ v r e. e.vehicle) all;
      })

-- the rows of the level have one rider each
pub have_one : (tau : ℕ → ℕ → ℕ) (settled : Settled) (count : ℕ) (lists : List (List TripOf)) → AreLevelsUpTo tau settled 1 count lists →
    All (λ (rows : List TripOf). All HasOneRider rows) lists
have_one tau settled count lists level k d lt =
    let own = level.each k (let e = level.total in omega arith) in
    subst (λ (rows : List TripOf). All HasOneRider rows) (get_or_default lists k [] d lt) own.some.sized
