use Rattle.std.proofs.Common.{◌≡◌, ℕ, ◌+◌, ◌<◌, ◌≤◌, inl, inr, List, [], ◌∷◌, length, get_or, Ordering, refl, sym, ap, ◌∙◌, subst, arith, rules}
use Rattle.trip_graph.proofs.Common.{cases_lt, length-map, get_or_default, IsLower, IsRising, trips_of, TripOf}
use Rattle.std.specs.declared.cmp.Ordering.TheVariants.{Less, Equal, Greater}
use Rattle.std.specs.Ordering.{MatchOrdering, nat_cmp, ordering_then}
use Rattle.std.specs.Cmp.Lexicographic.{slice_cmp}
use Rattle.std.specs.List.{All, Contains}
use Rattle.std.proofs.lemmas.Cmp.{ranked}
use Rattle.trip_graph.proofs.lemmas.vehicle.TripOrder.{lower_irrefl, lower_trans}
use Rattle.trip_graph.proofs.vehicle.GrownLevels.{trip_at, same_size}

one_more : (x y : ℕ) (xs ys : List ℕ) (o p : Ordering) → MatchOrdering o (x < y) (x ≡ y) (y < x) → MatchOrdering p (IsLower xs ys) (xs ≡ ys) (IsLower ys xs)
    → MatchOrdering (ordering_then o p) (IsLower (x ∷ xs) (y ∷ ys)) (x ∷ xs ≡ y ∷ ys) (IsLower (y ∷ ys) (x ∷ xs))
one_more x y xs ys Less p h k = inl h
one_more x y xs ys Equal Less h k = inr (h, k)
one_more x y xs ys Equal Equal h k = cc (h, k)
one_more x y xs ys Equal Greater h k = inr (sym h, k)
one_more x y xs ys Greater p h k = inl h

-- what a comparison of two trips of one size says
pub compared : (a b : List ℕ) → length a ≡ length b → MatchOrdering (slice_cmp nat_cmp a b) (IsLower a b) (a ≡ b) (IsLower b a)
compared [] [] e = refl
compared [] (y ∷ ys) e = absurd (omega arith)
compared (x ∷ xs) [] e = absurd (omega arith)
compared (x ∷ xs) (y ∷ ys) e = one_more x y xs ys (nat_cmp x y) (slice_cmp nat_cmp xs ys) (ranked x y (nat_cmp x y) refl) (compared xs ys (omega arith))

-- the size of the trip at a place
pub size_of : (n : ℕ) (rows : List TripOf) (i : ℕ) → All (λ row. length row.riders.items ≡ n) rows → i < length rows → length (get_or (trips_of rows) i []) ≡ n
size_of n [] i s h = absurd (omega arith)
size_of n (r ∷ rs) i s h = ap length (trip_at (r ∷ rs) i r h) ∙ s i r h

module _ (rows : List TripOf) (trip : List ℕ) (sized : All (λ row. length row.riders.items ≡ length trip) rows) where
  size_at : (i : ℕ) → i < length rows → length (get_or (trips_of rows) i []) ≡ length trip
  size_at i h = size_of (length trip) rows i sized h

  -- what the comparison with the row at a place says
  pub compared_at : (i : ℕ) (row : TripOf) (s : List ℕ) (r o : Ordering) → i < length rows → s ≡ (get_or rows i row).riders.items →
      r ≡ slice_cmp nat_cmp s trip → r ≡ o
      → MatchOrdering o (IsLower (get_or (trips_of rows) i []) trip) (get_or (trips_of rows) i [] ≡ trip) (IsLower trip (get_or (trips_of rows) i []))
  compared_at i row s r o h same cmp e = search (rules, trip_at, compared, size_at)

  module _ (rising : IsRising (trips_of rows)) where
    pub in_order : (i j : ℕ) → i < j → j < length rows → IsLower (get_or (trips_of rows) i []) (get_or (trips_of rows) j [])
    in_order i j h k = search (rules, length-map, size_at, same_size)

    -- the rows up to one that is lower are lower
    pub lower_upto : (middle : ℕ) → middle < length rows → IsLower (get_or (trips_of rows) middle []) trip → (i : ℕ) → i < middle + 1 →
        IsLower (get_or (trips_of rows) i []) trip
    lower_upto middle h low i k =
        elim (cases_lt i middle) as (λ _. IsLower (get_or (trips_of rows) i []) trip) [
          | inl lt ↦ lower_trans _ _ _ (in_order i middle lt h) low
          | inr ge ↦ let same : middle ≡ i = omega arith in subst (λ (v : ℕ). IsLower (get_or (trips_of rows) v []) trip) same low
        ]

    -- the rows from one that is higher are higher
    pub higher_from : (middle : ℕ) → middle < length rows → IsLower trip (get_or (trips_of rows) middle []) → (i : ℕ) → middle ≤ i → i < length rows →
        IsLower trip (get_or (trips_of rows) i [])
    higher_from middle h high i k n = search (rules, cases_lt, lower_trans, in_order)

  -- a trip at a place stands in the list
  pub found_at : (i : ℕ) → i < length rows → get_or (trips_of rows) i [] ≡ trip → Contains (trips_of rows) trip
  found_at i h e = search (rules, length-map, get_or_default)

  -- a trip that is neither among the lower rows nor among the higher ones doesn't stand in the list
  pub found_nowhere : (low high : ℕ) → high ≤ low → ((i : ℕ) → i < low → IsLower (get_or (trips_of rows) i []) trip)
      → ((i : ℕ) → high ≤ i → i < length rows → IsLower trip (get_or (trips_of rows) i [])) → Contains (trips_of rows) trip → ⊥
  found_nowhere low high h before after w = search (rules, length-map, get_or_default, lower_irrefl, cases_lt)

-- a trip of one is its rider
pub one_rider : (t : List ℕ) → length t ≡ 1 → t ≡ get_or t 0 0 ∷ []
one_rider [] e = absurd (omega arith)
one_rider (x ∷ []) e = refl
one_rider (x ∷ (y ∷ ys)) e = absurd (omega arith)
