use Rattle.std.proofs.lemmas.Bool.Decides.{nat_tests}
use Rattle.std.proofs.Common.{
  ◌≡◌,
  ℕ,
  suc,
  ◌+◌,
  ◌*◌,
  ◌<◌,
  ◌≤◌,
  List,
  length,
  get_or,
  map,
  replicate,
  All,
  Any,
  sum,
  sum_by,
  ℤ,
  pos,
  negsuc,
  ◌+ℤ◌,
  ◌-ℤ◌,
  ◌≤ℤ◌,
  refl,
  ap,
  ◌∙◌,
  arith,
  rules,
}
use Rattle.rebalancing.proofs.Common.{
  length-map,
  get_or-map,
  length-replicate,
  get_or-replicate,
  sum_by-le,
  never,
  longest,
  pair_seconds,
  IsMatching,
  IsBestMatching,
  pair_worth,
  potential,
  ArePotentials,
}
use Rattle.std.proofs.lemmas.List.Folds.{sum_by-replicate}
use Rattle.rebalancing.proofs.PlaceSums.{sum_over_different, sum_over_covering, sum_at_least, sum_exactly}

-- as many ones
abbrev ones_of : ℕ → List ℕ
ones_of n = replicate n 1

-- a matching has at most as many pairs as the first list has places
pub IsMatching-short : (tau : ℕ → ℕ → ℕ) (from to : List ℕ) (pairs : List (ℕ × ℕ)) → IsMatching tau from to pairs → length pairs ≤ length from
IsMatching-short tau from to pairs m =
    let within : All (λ (p : ℕ × ℕ). p.0 < length (ones_of (length from))) pairs = λ k d h. rw length-replicate ((m.within k d h).0) in
    let bound : sum_by (λ (p : ℕ × ℕ). get_or (ones_of (length from)) p.0 0) pairs ≤ sum (ones_of (length from)) =
    sum_over_different (λ (p : ℕ × ℕ). p.0) pairs (ones_of (length from)) within m.once_from in
    let each : All (λ (p : ℕ × ℕ). 1 ≡ 0 + get_or (ones_of (length from)) p.0 0 + 0) pairs =
    λ k d h. rw (get_or-replicate {A = ℕ} (length from) _ 1 0 (m.within k d h).0) refl in
    let count : length pairs * 1 ≡ sum_by (λ (p : ℕ × ℕ). 0) pairs + sum_by (λ (p : ℕ × ℕ). get_or (ones_of (length from)) p.0 0) pairs + sum_by
    (λ (p : ℕ × ℕ). 0) pairs = sum_exactly (λ (p : ℕ × ℕ). 0) (λ (p : ℕ × ℕ). get_or (ones_of (length from)) p.0 0) (λ (p : ℕ × ℕ). 0) 1 pairs each in
    let none : sum_by (λ (p : ℕ × ℕ). 0) pairs ≤ length pairs * 0 = sum_by-le (λ (p : ℕ × ℕ). 0) 0 pairs (λ k d h. omega arith) in
    let most : sum (ones_of (length from)) ≡ length from * 1 = sum_by-replicate (λ (x : ℕ). x) (length from) 1 in
    omega arith

-- Prices: two places' prices and the pair's seconds are at least the pair's worth, and exactly that on the pairs
-- chosen; a place of no pair has price 0.
pub record ArePrices (tau : ℕ → ℕ → ℕ) (from to : List ℕ) (pairs : List (ℕ × ℕ)) (a b : List ℕ) : Type 0 where
  pub a_length : length a ≡ length from
  pub b_length : length b ≡ length to
  pub at_least : (i j : ℕ) → i < length from → j < length to → pair_seconds tau from to (i, j) < never →
      pair_worth ≤ pair_seconds tau from to (i, j) + get_or a i 0 + get_or b j 0
  pub equal : All (λ (p : ℕ × ℕ). pair_worth ≡ pair_seconds tau from to p + get_or a p.0 0 + get_or b p.1 0) pairs
  pub a_unmatched : (i : ℕ) → i < length a → (Any (λ (p : ℕ × ℕ). p.0 ≡ i) pairs → ⊥) → get_or a i 0 ≡ 0
  pub b_unmatched : (j : ℕ) → j < length b → (Any (λ (p : ℕ × ℕ). p.1 ≡ j) pairs → ⊥) → get_or b j 0 ≡ 0

-- another matching gains no more: its pairs' worth less its seconds is at most that of the priced matching
gains_no_more : (tau : ℕ → ℕ → ℕ) (from to : List ℕ) (pairs other : List (ℕ × ℕ)) (a b : List ℕ) → ArePrices tau from to pairs a b →
    IsMatching tau from to other
    → length other * pair_worth + sum_by (pair_seconds tau from to) pairs ≤ sum_by (pair_seconds tau from to) other + length pairs * pair_worth
gains_no_more tau from to pairs other a b prices m =
    let s : ℕ × ℕ → ℕ = pair_seconds tau from to in
    let f : ℕ × ℕ → ℕ = λ p. get_or a p.0 0 in
    let g : ℕ × ℕ → ℕ = λ p. get_or b p.1 0 in
    let covered : length other * pair_worth ≤ sum_by s other + sum_by f other + sum_by g other =
    sum_at_least s f g pair_worth other (λ k d h. prices.at_least _ _ (m.within k d h).0 (m.within k d h).1 (m.reachable k d h)) in
    let a_within : All (λ (p : ℕ × ℕ). p.0 < length a) other = λ k d h. rw prices.a_length ((m.within k d h).0) in
    let b_within : All (λ (p : ℕ × ℕ). p.1 < length b) other = λ k d h. rw prices.b_length ((m.within k d h).1) in
    let a_most : sum_by f other ≤ sum a = sum_over_different (λ (p : ℕ × ℕ). p.0) other a a_within m.once_from in
    let b_most : sum_by g other ≤ sum b = sum_over_different (λ (p : ℕ × ℕ). p.1) other b b_within m.once_to in
    let a_all : sum a ≤ sum_by f pairs = sum_over_covering (λ (p : ℕ × ℕ). p.0) pairs a prices.a_unmatched in
    let b_all : sum b ≤ sum_by g pairs = sum_over_covering (λ (p : ℕ × ℕ). p.1) pairs b prices.b_unmatched in
    omega (arith, sum_exactly s f g pair_worth pairs prices.equal)

-- the total of a matching of at most 500 places is less than the worth of one more pair
total_short : (tau : ℕ → ℕ → ℕ) (from to : List ℕ) (pairs : List (ℕ × ℕ)) → ((a b : ℕ) → tau a b < never → tau a b ≤ longest) → length from ≤ 500 →
    IsMatching tau from to pairs → sum_by (pair_seconds tau from to) pairs < pair_worth
total_short tau from to pairs range few m =
    let most : sum_by (pair_seconds tau from to) pairs ≤ length pairs * longest = sum_by-le (pair_seconds tau from to) longest pairs
    (λ k d h. range _ _ (m.reachable k d h)) in
    omega (arith, IsMatching-short tau from to pairs m)

-- a matching with prices is best
pub best_by_prices : (tau : ℕ → ℕ → ℕ) (from to : List ℕ) (pairs : List (ℕ × ℕ)) (a b : List ℕ) → ((a b : ℕ) → tau a b < never → tau a b ≤ longest) →
    length from ≤ 500 → IsMatching tau from to pairs → ArePrices tau from to pairs a b → IsBestMatching tau from to pairs
best_by_prices tau from to pairs a b range few m prices = grind (arith, nat_tests, (total_short tau from to), (gains_no_more tau from to pairs))

-- how far a number is below zero
abbrev pub fall_of : ℤ → ℕ
fall_of (pos n) = 0
fall_of (negsuc n) = suc n

falls_cover : (u v : ℤ) (s w : ℕ) → u ≤ℤ pos 0 → v ≤ℤ pos 0 → (u +ℤ v) ≤ℤ (pos s -ℤ pos w) → w ≤ s + fall_of u + fall_of v
falls_cover u v s w hu hv h = search rules

falls_equal : (u v : ℤ) (s w : ℕ) → u ≤ℤ pos 0 → v ≤ℤ pos 0 → u +ℤ v ≡ pos s -ℤ pos w → w ≡ s + fall_of u + fall_of v
falls_equal u v s w hu hv h = search rules

-- the negated potentials are prices
pub ArePrices-from_potentials : (tau : ℕ → ℕ → ℕ) (from to : List ℕ) (pairs : List (ℕ × ℕ)) (u v : List ℤ) → IsMatching tau from to pairs →
    ArePotentials tau from to pairs u v → ArePrices tau from to pairs (map fall_of u) (map fall_of v)
ArePrices-from_potentials tau from to pairs u v m p =
    let u_at : (i : ℕ) → i < length from → get_or (map fall_of u) i 0 ≡ fall_of (potential u i) =
    λ i h. get_or-map fall_of u i (pos 0) 0 (rw p.from_length h) in
    let v_at : (j : ℕ) → j < length to → get_or (map fall_of v) j 0 ≡ fall_of (potential v j) = λ j h. get_or-map fall_of v j (pos 0) 0 (rw p.to_length h) in
    record {
      a_length = length-map u fall_of ∙ p.from_length;
      b_length = length-map v fall_of ∙ p.to_length;
      at_least = λ i j hi hj reach. rw (u_at i hi, v_at j hj) (falls_cover (potential u i) (potential v j) _ _ (p.from_at_most_0 i hi) (p.to_at_most_0 j hj)
          (p.at_most i j hi hj reach));
      equal = λ k d h.
          let hi = (m.within k d h).0 in
          let hj = (m.within k d h).1 in
          rw (u_at _ hi, v_at _ hj) (falls_equal _ _ _ _ (p.from_at_most_0 _ hi) (p.to_at_most_0 _ hj) (p.equal k d h));
      a_unmatched = λ i h no.
          let hi : i < length from = rw (length-map u fall_of, p.from_length) at h in
          u_at i hi ∙ ap fall_of (p.from_unmatched i hi no);
      b_unmatched = λ j h no.
          let hj : j < length to = rw (length-map v fall_of, p.to_length) at h in
          v_at j hj ∙ ap fall_of (p.to_unmatched j hj no);
    }
