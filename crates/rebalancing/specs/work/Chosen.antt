use Rattle.std.specs.Prelude.{◌≡◌, ℕ, ◌-◌, ◌<◌, List, slice_index, All, AllPairs, Contains}
use Rattle.rebalancing.specs.declared.matching.Matching.{Matching}
use Rattle.rebalancing.specs.Potentials.{pair_worth}
use Rattle.rebalancing.specs.work.Prices.{weight_in}

-- the pairs are the matched pairs that have a way, of the vehicles below `count`, by rising vehicle
pub record IsChosen (s : Matching) (count : ℕ) (pairs : List (ℕ × ℕ)) : Type 0 where
  pub sound : All (λ (p : ℕ × ℕ). (p.0 < count) × (p.1 < s.riders) × (slice_index s.rider_of.items p.0 ≡ p.1) × (0 < weight_in s p.0 p.1)) pairs
  pub rising : AllPairs (λ (p q : ℕ × ℕ). p.0 < q.0) pairs
  pub complete : (i : ℕ) → i < count → slice_index s.rider_of.items i < s.riders → 0 < weight_in s i (slice_index s.rider_of.items i) → Contains pairs (i, slice_index s.rider_of.items i)

-- the seconds of a pair, by its weight
abbrev pub seconds_in : Matching → ℕ × ℕ → ℕ
seconds_in s pair = pair_worth - weight_in s pair.0 pair.1
