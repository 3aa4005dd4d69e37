use Rattle.std.specs.Prelude.{◌≡◌, ℕ, ◌+◌, ◌<◌, ◌≤◌, List, length, slice_index}
use Rattle.rebalancing.specs.declared.matching.Matching.{Matching}
use Rattle.rebalancing.specs.declared.tree.Tree.{Tree}
use Rattle.rebalancing.specs.Potentials.{pair_worth}
use Rattle.rebalancing.specs.work.Prices.{IsPriced, weight_in}

-- The first `count` positions of a tree of vehicles r from the root k: each other one stands with its rider c, and was
-- reached from the vehicle at an earlier position, its parent, by a pair whose prices are tight.
pub record IsRooted (n m : ℕ) (w : ℕ → ℕ → ℕ) (k : ℕ) (a b q r c parent place : List ℕ) (count : ℕ) : Type 0 where
  pub root : slice_index r 0 ≡ k
  pub root_free : m ≤ slice_index q k
  pub c_length : length c ≡ length r
  pub parent_length : length parent ≡ length r
  pub vehicle : (t : ℕ) → t < count → slice_index r t < n
  pub rider : (t : ℕ) → 0 < t → t < count → slice_index c t < m
  pub partner : (t : ℕ) → 0 < t → t < count → slice_index q (slice_index r t) ≡ slice_index c t
  pub earlier : (t : ℕ) → 0 < t → t < count → slice_index parent t < t
  pub edge : (t : ℕ) → 0 < t → t < count → slice_index a (slice_index r (slice_index parent t)) + slice_index b (slice_index c t) ≡ w (slice_index r (slice_index parent t)) (slice_index c t)
  pub placed : (t : ℕ) → 0 < t → t < count → slice_index place (slice_index c t) ≡ t

-- a whole tree; a rider's place in it is 0 where it is outside
pub record IsGrown (n m : ℕ) (w : ℕ → ℕ → ℕ) (k : ℕ) (a b q r c parent place : List ℕ) : Type 0 where
  pub tree : IsRooted n m w k a b q r c parent place (length r)
  pub rooted : 0 < length r
  pub place_length : length place ≡ m
  pub place_most : (j : ℕ) → j < m → slice_index place j < length r
  pub found : (j : ℕ) → j < m → 0 < slice_index place j → slice_index c (slice_index place j) ≡ j

-- Of each rider outside the tree: by how much the tree's prices have to fall from the start of the search until
-- the rider's pair with some vehicle of the tree is tight, and the position of that vehicle.
pub record IsReached (m : ℕ) (w : ℕ → ℕ → ℕ) (a b r place tight_at parent_of : List ℕ) (lowered : ℕ) : Type 0 where
  pub tight_length : length tight_at ≡ m
  pub of_length : length parent_of ≡ m
  pub not_past : (j : ℕ) → j < m → slice_index place j ≡ 0 → lowered ≤ slice_index tight_at j
  pub of_within : (j : ℕ) → j < m → slice_index place j ≡ 0 → slice_index parent_of j < length r
  pub no_earlier : (j t : ℕ) → j < m → slice_index place j ≡ 0 → t < length r → w (slice_index r t) j + slice_index tight_at j ≤ slice_index a (slice_index r t) + slice_index b j + lowered
  pub exactly : (j : ℕ) → j < m → slice_index place j ≡ 0 → w (slice_index r (slice_index parent_of j)) j + slice_index tight_at j ≡ slice_index a (slice_index r (slice_index parent_of j)) + slice_index b j + lowered

-- the vehicle at this position has the least price of the tree, and the root's price has fallen by `lowered`
pub record IsCheapest (k : ℕ) (a r : List ℕ) (cheapest lowered : ℕ) : Type 0 where
  pub within : cheapest < length r
  pub least : (t : ℕ) → t < length r → slice_index a (slice_index r cheapest) ≤ slice_index a (slice_index r t)
  pub fallen : slice_index a k + lowered ≡ pair_worth

-- the rider outside the tree that is tight first; the number of riders where all are in the tree
pub record IsNearest (m : ℕ) (place tight_at : List ℕ) (nearest : ℕ) : Type 0 where
  pub most : nearest ≤ m
  pub outside : nearest < m → slice_index place nearest ≡ 0
  pub first : (j : ℕ) → j < m → slice_index place j ≡ 0 → nearest < m
  pub least : (j : ℕ) → j < m → slice_index place j ≡ 0 → slice_index tight_at nearest ≤ slice_index tight_at j

-- the root of a tree
abbrev pub root_of : Tree → ℕ
root_of t = slice_index t.vehicles.items 0

-- the tree is one of the search from vehicle k
pub record IsSearchTree (s : Matching) (k : ℕ) (t : Tree) : Type 0 where
  pub grown : IsGrown s.vehicles s.riders (weight_in s) k s.vehicle_price.items s.rider_price.items s.rider_of.items t.vehicles.items t.riders.items t.parents.items t.place.items
  pub reached : IsReached s.riders (weight_in s) s.vehicle_price.items s.rider_price.items t.vehicles.items t.place.items t.tight_at.items t.parent_of.items t.lowered
  pub cheapest : IsCheapest k s.vehicle_price.items t.vehicles.items t.cheapest t.lowered

-- the tree's arrays have one element for each rider
pub record HasRoom (m : ℕ) (t : Tree) : Type 0 where
  pub place : length t.place.items ≡ m
  pub tight_at : length t.tight_at.items ≡ m
  pub parent_of : length t.parent_of.items ≡ m

-- Between the matching from which a walk set out and the one it ends in: this rider's old vehicle has moved on, and
-- the vehicle at this position is to take it; the positions up to there are as they were.
pub record IsOpen (n m : ℕ) (w : ℕ → ℕ → ℕ) (k : ℕ) (a b q p r c parent place : List ℕ) (rider position : ℕ) : Type 0 where
  pub priced : IsPriced n m w k (k + 1) rider a b q p
  pub tree : IsRooted n m w k a b q r c parent place (position + 1)
  pub rider_within : rider < m
  pub position_within : position < length r
  pub last_edge : slice_index a (slice_index r position) + slice_index b rider ≡ w (slice_index r position) rider

-- the matching stands between, with this rider to be taken by the vehicle at this position of the tree
abbrev pub IsOpenMatching : Matching → Tree → ℕ → ℕ → Type 0
IsOpenMatching s t rider position = IsOpen s.vehicles s.riders (weight_in s) (root_of t) s.vehicle_price.items s.rider_price.items s.rider_of.items s.vehicle_of.items t.vehicles.items t.riders.items t.parents.items t.place.items rider position
