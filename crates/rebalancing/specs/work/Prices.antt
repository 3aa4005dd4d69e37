use Rattle.std.specs.Prelude.{◌≡◌, ◌≢◌, ℕ, ◌+◌, ◌*◌, ◌<◌, ◌≤◌, List, length, slice_index}
use Rattle.rebalancing.specs.declared.matching.Matching.{Matching}
use Rattle.rebalancing.specs.Potentials.{pair_worth}
use Rattle.rebalancing.specs.work.Weights.{weight_at}

-- prices a of n vehicles and b of m riders cover every pair's weight; vehicles from `next` on have the price at the start
pub record CoverPairs (n m : ℕ) (w : ℕ → ℕ → ℕ) (next : ℕ) (a b : List ℕ) : Type 0 where
  pub a_length : length a ≡ n
  pub b_length : length b ≡ m
  pub a_most : (i : ℕ) → i < n → slice_index a i ≤ pair_worth
  pub light : (i j : ℕ) → i < n → j < m → w i j ≤ pair_worth
  pub covers : (i j : ℕ) → i < n → j < m → w i j ≤ slice_index a i + slice_index b j
  pub waiting_price : (i : ℕ) → i < n → next ≤ i → slice_index a i ≡ pair_worth

-- Prices a of n vehicles and b of m riders cover every pair's weight and are together exactly the weight of a
-- matched pair. Vehicle i is matched with rider `q i`, or `q i` is m; rider j with vehicle `p j`, or `p j` is n.
-- Vehicles below `done` that are unmatched have price 0; those from `next` on have not been tried yet. No vehicle has
-- rider `loose`, of which nothing else is said; there is none where it is m.
pub record IsPriced (n m : ℕ) (w : ℕ → ℕ → ℕ) (done next loose : ℕ) (a b q p : List ℕ) : Type 0 where
  pub prices : CoverPairs n m w next a b
  pub q_length : length q ≡ n
  pub p_length : length p ≡ m
  pub q_most : (i : ℕ) → i < n → slice_index q i ≤ m
  pub p_most : (j : ℕ) → j < m → slice_index p j ≤ n
  pub tight : (i : ℕ) → i < n → slice_index q i < m → slice_index a i + slice_index b (slice_index q i) ≡ w i (slice_index q i)
  pub forth : (i : ℕ) → i < n → slice_index q i < m → slice_index p (slice_index q i) ≡ i
  pub apart : (i : ℕ) → i < n → slice_index q i < m → slice_index q i ≢ loose
  pub back : (j : ℕ) → j < m → j ≢ loose → slice_index p j < n → slice_index q (slice_index p j) ≡ j
  pub free_rider : (j : ℕ) → j < m → j ≢ loose → n ≤ slice_index p j → slice_index b j ≡ 0
  pub free_vehicle : (i : ℕ) → i < n → i < done → m ≤ slice_index q i → slice_index a i ≡ 0
  pub waiting : (i : ℕ) → i < n → next ≤ i → m ≤ slice_index q i

-- the weight of a vehicle and a rider
abbrev pub weight_in : Matching → ℕ → ℕ → ℕ
weight_in s = weight_at s.weights.items s.riders

-- the matching's prices are right, with the vehicles below `done` matched as far as that is best
abbrev pub IsPricedMatching : ℕ → ℕ → Matching → Type 0
IsPricedMatching done next s = IsPriced s.vehicles s.riders (weight_in s) done next s.riders s.vehicle_price.items s.rider_price.items s.rider_of.items s.vehicle_of.items

-- the matching is of a table of weights with at most 500 vehicles and 1,000 riders
pub record IsSized (s : Matching) : Type 0 where
  pub few_vehicles : s.vehicles ≤ 500
  pub few_riders : s.riders ≤ 1000
  pub table : length s.weights.items ≡ s.vehicles * s.riders

-- what the search for one vehicle never changes
pub record IsSameProblem (old new : Matching) : Type 0 where
  pub vehicles : new.vehicles ≡ old.vehicles
  pub riders : new.riders ≡ old.riders
  pub weights : new.weights ≡ old.weights
