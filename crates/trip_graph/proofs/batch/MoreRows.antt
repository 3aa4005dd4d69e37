-- Some rows of some levels, more than allowed, make a list of more rows than allowed.
use Rattle.std.proofs.Common.{◌≡◌, ℕ, zero, suc, ◌+◌, ◌<◌, ◌≤◌, inl, inr, List, [], ◌++◌, length, get_or, subst, arith, rules}
use Rattle.trip_graph.proofs.Common.{
  cases_lt,
  get_or_past,
  All-append,
  All-nil,
  Settled,
  IsRow,
  TripRow,
  no_row,
  TripOf,
  AreSomeRows,
  HasMoreRows,
  vehicle_rows,
  AreSomeLevels,
  level_total,
  total_upto,
}
use Rattle.std.specs.List.{All}
use Rattle.std.proofs.lemmas.List.{length-append}
use Rattle.trip_graph.proofs.batch.GraphSteps.{IsOwn, own_rows, total_none, total_step, total_all}
use Rattle.trip_graph.proofs.batch.RowOrder.{AreInOrder, none_in_order, more_in_order}

-- the rows of the first vehicles
rows_upto : List (List (List TripOf)) → ℕ → List TripRow
rows_upto levels zero = []
rows_upto levels (suc n) = rows_upto levels n ++ vehicle_rows levels n

module _ (most : ℕ) (tau : ℕ → ℕ → ℕ) (settled : Settled) (allowed : ℕ) (levels : List (List (List TripOf))) (small : most ≤ 6)
    (some : AreSomeLevels tau settled most levels) where
  -- the rows of a vehicle, which may have no list in the last level
  some_of : (v k : ℕ) → k < length levels → AreSomeRows tau settled v (λ n. n ≡ k) (get_or (get_or levels k []) v [])
  some_of v k lt = elim (cases_lt v (length (get_or levels k []))) as (λ _. AreSomeRows tau settled v (λ n. n ≡ k) (get_or (get_or levels k []) v [])) [
    | inl less ↦ some.each k v lt less
    | inr ge ↦ rw (get_or_past (get_or levels k []) v [] ge) (record {
      right = All-nil (λ (row : TripOf). IsRow 6 tau settled v row.riders.items row.cost);
      sized = All-nil (λ (row : TripOf). length row.riders.items ≡ k);
      rising = λ i j h l. absurd (omega arith);
    })
  ]

  own : (v : ℕ) → All (IsOwn most tau settled v) (vehicle_rows levels v)
  own v = own_rows most tau settled v levels some.sizes (some_of v)

  record IsUpTo (n : ℕ) (rows : List TripRow) : Type 0 where
    right : All (λ row. IsRow most tau settled row.vehicle row.riders.items row.cost) rows
    below : All (λ row. row.vehicle < n) rows
    order : AreInOrder rows
    total : length rows ≡ total_upto levels n

  upto : (n : ℕ) → IsUpTo n (rows_upto levels n)
  unfolding rows_upto
  upto zero = search (rules, All-nil, none_in_order, total_none)
  upto (suc n) =
      let before = upto n in
      let new = own n in
      let step = total_step levels n in
      let long = length-append (rows_upto levels n) (vehicle_rows levels n) in
      let so_far = before.total in
      let next : total_upto levels (suc n) ≡ total_upto levels n + length (vehicle_rows levels n) =
      subst (λ (m : ℕ). total_upto levels m ≡ total_upto levels n + length (vehicle_rows levels n)) (let e : n + 1 ≡ suc n = omega arith in e) step in
      record {
        right = All-append (λ (row : TripRow). IsRow most tau settled row.vehicle row.riders.items row.cost) (rows_upto levels n) (vehicle_rows levels n)
            before.right (λ k d lt. (new k d lt).right);
        below = All-append (λ (row : TripRow). row.vehicle < suc n) (rows_upto levels n) (vehicle_rows levels n)
            (λ k d lt. let b = before.below k d lt in omega arith) (λ k d lt. let o = (new k d lt).own in omega arith);
        order = more_in_order tau settled n levels (rows_upto levels n) (some_of n) (λ k lt. before.below k no_row lt) before.order;
        total = omega arith;
      }

  pub more_rows : allowed < level_total levels → HasMoreRows tau settled most allowed
  more_rows more =
      let all = upto (length settled.vehicles) in
      let same = total_all levels (length settled.vehicles) some.few in
      let total = all.total in
      record {
        rows = rows_upto levels (length settled.vehicles);
        right = all.right;
        order = λ k lt. all.order k (suc k) (omega arith) lt;
        more = omega arith;
      }
