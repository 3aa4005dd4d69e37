use Rattle.std.proofs.Common.{◌≡◌, ℕ, ◌+◌, ◌<◌, ◌≤◌, inl, inr, List, [], ◌∷◌, ◌++◌, length, get_or, arith, rules}
use Rattle.trip_graph.proofs.Common.{
  cases_lt,
  length-map,
  map-append,
  get_or_append_left,
  get_or-append_right,
  get_or-map,
  nil_from_length,
  All-append,
  All-nil,
  All-cons,
  Contains-append_left,
  Contains-append_right,
  IsRising,
  trips_of,
  IsLevelRow,
  IsLevel,
  AreRowsWithin,
  HasMoreOfLevel,
  HasMoreWithin,
  TripOf,
}
use Rattle.std.specs.List.{All, Contains}
use Rattle.std.proofs.lemmas.List.{length-append}

rising_append : (ts us : List (List ℕ)) → IsRising ts → IsRising us
    → ((i j : ℕ) → i < length ts → j < length us → length (get_or ts i []) < length (get_or us j [])) → IsRising (ts ++ us)
rising_append ts us left right apart i j h k = search (rules, length-append, cases_lt, get_or_append_left, get_or-append_right)

size_where : (P : ℕ → Type 0) (rows : List TripOf) → All (λ row. P (length row.riders.items)) rows → (i : ℕ) → i < length (trips_of rows) →
    P (length (get_or (trips_of rows) i []))
size_where P [] h i k = absurd (omega arith)
size_where P (r ∷ rs) h i k =
    let f : TripOf → List ℕ = λ row. row.riders.items in
    let within : i < length (r ∷ rs) = (let e = length-map (r ∷ rs) f in omega arith) in
    rw (get_or-map f (r ∷ rs) i r [] within) (h i r within)

trips_of-append : (xs ys : List TripOf) → trips_of (xs ++ ys) ≡ trips_of xs ++ trips_of ys
trips_of-append xs ys = map-append (λ (r : TripOf). r.riders.items) xs ys

-- rows that stand before rows with more riders
trips_rise : (size : ℕ) (xs ys : List TripOf) → IsRising (trips_of xs) → IsRising (trips_of ys) → All (λ row. length row.riders.items < size) xs →
    All (λ row. length row.riders.items ≡ size) ys
    → IsRising (trips_of (xs ++ ys))
trips_rise size xs ys left right small large =
    rw (trips_of-append xs ys) (rising_append (trips_of xs) (trips_of ys) left right (λ i j h k.
    let a = size_where (λ n. n < size) xs small i h in let b = size_where (λ n. n ≡ size) ys large j k in omega arith))

module _ (Serves : List ℕ → Type 0) (Costs : List ℕ → ℕ → Type 0) where
  -- the rows of fewer than so many riders
  pub record AreSmaller (size : ℕ) (rows : List TripOf) : Type 0 where
    pub right : All (IsLevelRow Serves Costs) rows
    pub sized : All (λ row. length row.riders.items < size) rows
    pub rising : IsRising (trips_of rows)
    pub whole : (trip : List ℕ) → length trip < size → Serves trip → Contains (trips_of rows) trip

  pub smaller_none : AreSmaller 0 []
  smaller_none = search rules

  pub smaller_joined : (size : ℕ) (xs ys : List TripOf) → AreSmaller size xs → IsLevel Serves Costs size ys → AreSmaller (size + 1) (xs ++ ys)
  smaller_joined size xs ys small level =
      record {
        right = All-append (IsLevelRow Serves Costs) xs ys small.right level.right;
        sized = All-append (λ r. length r.riders.items < size + 1) xs ys (λ k d lt. let s = small.sized k d lt in omega arith)
            (λ k d lt. let s = level.sized k d lt in omega arith);
        rising = trips_rise size xs ys small.rising level.rising small.sized level.sized;
        whole = λ t h s. rw (trips_of-append xs ys) (elim (cases_lt (length t) size) as (λ _. Contains (trips_of xs ++ trips_of ys) t) [
          | inl lt ↦ Contains-append_left (trips_of xs) (trips_of ys) t (small.whole t lt s)
          | inr ge ↦ let e : length t ≡ size = omega arith in Contains-append_right (trips_of xs) (trips_of ys) t (level.whole t e s)
        ]);
      }

  pub smaller_all : (most : ℕ) (rows : List TripOf) → AreSmaller (most + 1) rows → AreRowsWithin Serves Costs most rows
  smaller_all most rows small = search rules

  -- more rows of one size than there is room left for
  pub more_joined : (size left room most : ℕ) (xs ys : List TripOf) → AreSmaller size xs → IsLevel Serves Costs size ys →
      HasMoreOfLevel Serves Costs (size + 1) left
      → size + 1 ≤ most → room ≤ length xs + length ys + left → HasMoreWithin Serves Costs most room
  more_joined size left room most xs ys small level more h enough =
      let both = smaller_joined size xs ys small level in
      record {
        rows = (xs ++ ys) ++ more.rows;
        right = All-append (IsLevelRow Serves Costs) (xs ++ ys) more.rows both.right more.right;
        sized = All-append (λ r. length r.riders.items ≤ most) (xs ++ ys) more.rows (λ k d lt. let s = both.sized k d lt in omega arith)
            (λ k d lt. let s = more.sized k d lt in omega arith);
        rising = trips_rise (size + 1) (xs ++ ys) more.rows both.rising more.rising both.sized more.sized;
        more = (let n = length-append (xs ++ ys) more.rows in let n' = length-append xs ys in let m = more.more in omega arith);
      }

  -- the row of the empty trip
  pub level_of_empty : (row : TripOf) → row.riders.items ≡ [] → IsLevelRow Serves Costs row → IsLevel Serves Costs 0 (row ∷ [])
  level_of_empty row is good = search (rules, All-cons, All-nil, nil_from_length)
