use Rattle.std.proofs.Common.{rules, ◌≡◌, ℕ, ◌+◌, ◌*◌, ◌<◌, ◌≤◌, List, length, slice_index_or, refl}
use Rattle.std.proofs.Math.Nat.{mul-le-mul_right}
use Rattle.std.proofs.lemmas.Bool.{lt-ltb, le-ltb, and_right}
use Rattle.std.proofs.lemmas.List.{get_or_default}
use Rattle.pool_base.specs.TravelTime.{never, cell_of, IsTable}

-- inside the table a travel time is its cell
pub cell_of-within : (n : ℕ) (cells : List ℕ) (a b : ℕ) → a < n → b < n → cell_of n cells a b ≡ slice_index_or cells (a * n + b) never
unfolding cell_of
cell_of-within n cells a b ha hb = rw (lt-ltb a n ha, lt-ltb b n hb)

-- from a place that isn't in the table nothing is reached
pub cell_of-from_outside : (n : ℕ) (cells : List ℕ) (a b : ℕ) → n ≤ a → cell_of n cells a b ≡ never
unfolding cell_of
cell_of-from_outside n cells a b ha = rw (le-ltb a n ha)

-- a place that isn't in the table is out of reach
pub cell_of-to_outside : (n : ℕ) (cells : List ℕ) (a b : ℕ) → n ≤ b → cell_of n cells a b ≡ never
unfolding cell_of
cell_of-to_outside n cells a b hb = rw (le-ltb b n hb, and_right _ _ refl)

-- the place of a cell lies within the cells
pub cell_place_within : (n a b : ℕ) → a < n → b < n → a * n + b < n * n
cell_place_within n a b ha hb = search (rules, mul-le-mul_right)

-- what a read of the cells gives is the travel time
pub cell_of-read : (n : ℕ) (cells : List ℕ) (a b x : ℕ) → IsTable n cells → a < n → b < n → x ≡ slice_index_or cells (a * n + b) x → x ≡ cell_of n cells a b
cell_of-read n cells a b x table ha hb read = search (rules, cell_place_within, get_or_default, cell_of-within)

-- the same, of cells that are known only to be square, read with 0 past their end
pub cell_of-place : (n : ℕ) (cells : List ℕ) (a b : ℕ) → length cells ≡ n * n → a < n → b < n → slice_index_or cells (a * n + b) 0 ≡ cell_of n cells a b
cell_of-place n cells a b square ha hb = search (rules, cell_place_within, get_or_default, cell_of-within)
