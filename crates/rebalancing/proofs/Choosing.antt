use Rattle.std.proofs.lemmas.Bool.Decides.{nat_tests}
use Rattle.std.proofs.Common.{
  ◌≡◌,
  ◌≢◌,
  ℕ,
  ◌+◌,
  ◌<◌,
  ◌≤◌,
  List,
  [],
  ◌∷◌,
  ◌++◌,
  length,
  slice_index,
  get_or,
  map,
  All,
  sum_by,
  ℤ,
  pos,
  neg_ℤ,
  ◌+ℤ◌,
  ◌-ℤ◌,
  ◌≤ℤ◌,
  ⊎_elim,
  arith,
  rules,
}
use Rattle.rebalancing.proofs.Common.{
  cases_eq,
  ints,
  length-map,
  get_or-map,
  All-push,
  Contains-append_left,
  Contains-push,
  never,
  Matching,
  pair_seconds,
  IsMatching,
  pair_worth,
  potential,
  ArePotentials,
  weight_of,
  IsPricedMatching,
  weight_in,
  IsChosen,
  seconds_in,
}
use Rattle.std.proofs.lemmas.Bool.{lt-ltb}
use Rattle.std.proofs.lemmas.List.Quantifiers.{all_pairs_push}
use Rattle.rebalancing.proofs.PlaceSums.{sum_by_same}

-- a vehicle without a pair that has a way is passed over
pub IsChosen-skip : (s : Matching) (i : ℕ) (pairs : List (ℕ × ℕ)) → (slice_index s.rider_of.items i < s.riders →
    weight_in s i (slice_index s.rider_of.items i) ≡ 0) → IsChosen s i pairs → IsChosen s (i + 1) pairs
IsChosen-skip s i pairs none chosen = search rules

-- a vehicle's pair is taken
pub IsChosen-push : (s : Matching) (i r : ℕ) (pairs : List (ℕ × ℕ)) → r < s.riders → slice_index s.rider_of.items i ≡ r → 0 < weight_in s i r →
    IsChosen s i pairs → IsChosen s (i + 1) (pairs ++ (i, r) ∷ [])
IsChosen-push s i r pairs hr is weighs chosen =
    let P : ℕ × ℕ → Type 0 = λ p. (p.0 < i + 1) × (p.1 < s.riders) × (slice_index s.rider_of.items p.0 ≡ p.1) × (0 < weight_in s p.0 p.1) in
    let R : ℕ × ℕ → ℕ × ℕ → Type 0 = λ p q. p.0 < q.0 in
    let old : All P pairs = λ k d h. let p = chosen.sound k d h in (let lt : (get_or pairs k d).0 < i = p.0 in omega arith, p.1, p.2, p.3) in
    record {
      sound = All-push P pairs (i, r) old (omega arith, hr, is, weighs);
      rising = all_pairs_push R pairs (i, r) chosen.rising (λ k d h. (chosen.sound k d h).0);
      complete = λ v hv matched weighs'. ⊎_elim
          (λ (e : v ≡ i). rw (e, is) (Contains-push pairs (i, r)))
          (λ (ne : v ≢ i). let lt : v < i = omega arith in Contains-append_left pairs ((i, r) ∷ []) (v, slice_index s.rider_of.items v)
          (chosen.complete v lt matched weighs'))
          (cases_eq v i);
    }

weight_of-way : (seconds : ℕ) → 0 < weight_of seconds → seconds < never
weight_of-way seconds h = search rules

weight_of-is : (seconds : ℕ) → seconds < never → weight_of seconds + seconds ≡ pair_worth
weight_of-is seconds lt = rw (lt-ltb seconds never lt) (omega arith)

-- a price, negated
abbrev negated : ℕ → ℤ
negated price = neg_ℤ (pos price)

negated-most : (a : ℕ) → negated a ≤ℤ pos 0
negated-most a = omega (arith, ints)

negated-at_most : (a b s w : ℕ) → w ≤ s + a + b → (negated a +ℤ negated b) ≤ℤ (pos s -ℤ pos w)
negated-at_most a b s w h = omega (arith, ints)

negated-equal : (a b s w : ℕ) → w ≡ s + a + b → negated a +ℤ negated b ≡ pos s -ℤ pos w
negated-equal a b s w h = omega (arith, ints)

module _ (tau : ℕ → ℕ → ℕ) (idle wanted : List ℕ) (s : Matching) (pairs : List (ℕ × ℕ)) (vehicles : s.vehicles ≡ length idle)
    (riders : s.riders ≡ length wanted)
    (weights : (i j : ℕ) → i < length idle → j < length wanted → weight_in s i j ≡ weight_of (tau (slice_index idle i) (slice_index wanted j)))
    (priced : IsPricedMatching s.vehicles s.vehicles s) (chosen : IsChosen s s.vehicles pairs) where
  within : All (λ (p : ℕ × ℕ). (p.0 < length idle) × (p.1 < length wanted)) pairs
  within k d h = (rw vehicles at ((chosen.sound k d h).0), rw riders at ((chosen.sound k d h).1))

  -- the weight of a chosen pair
  weight_is : (k : ℕ) (d : ℕ × ℕ) → k < length pairs → weight_in s (get_or pairs k d).0 (get_or pairs k d).1 ≡ weight_of
      (pair_seconds tau idle wanted (get_or pairs k d))
  weight_is k d h = weights _ _ (within k d h).0 (within k d h).1

  way : (k : ℕ) (d : ℕ × ℕ) → k < length pairs → pair_seconds tau idle wanted (get_or pairs k d) < never
  way k d h = weight_of-way _ (rw (weight_is k d h) at ((chosen.sound k d h).3))

  pub IsMatching-chosen : IsMatching tau idle wanted pairs
  IsMatching-chosen = search rules

  pub total-chosen : sum_by (seconds_in s) pairs ≡ sum_by (pair_seconds tau idle wanted) pairs
  total-chosen = sum_by_same (seconds_in s) (pair_seconds tau idle wanted) pairs (λ k d h. omega (arith, weight_of-is _ (way k d h), weight_is k d h))

  -- the negated price of a place
  from_at : (i : ℕ) → i < length idle → potential (map negated s.vehicle_price.items) i ≡ negated (slice_index s.vehicle_price.items i)
  from_at i h = get_or-map negated s.vehicle_price.items i 0 (pos 0) (rw (priced.prices.a_length, vehicles) h)

  to_at : (j : ℕ) → j < length wanted → potential (map negated s.rider_price.items) j ≡ negated (slice_index s.rider_price.items j)
  to_at j h = get_or-map negated s.rider_price.items j 0 (pos 0) (rw (priced.prices.b_length, riders) h)

  pub ArePotentials-chosen : ArePotentials tau idle wanted pairs (map negated s.vehicle_price.items) (map negated s.rider_price.items)
  ArePotentials-chosen = grind (
    arith,
    nat_tests,
    length-map,
    negated,
    from_at,
    negated-most,
    to_at,
    negated-at_most,
    slice_index,
    weight_of-is,
    within,
    negated-equal,
  )
